pub mod NumberLaws
pub mod ArrayLaws
pub mod WrittenLaws
pub mod InTurnLaws
