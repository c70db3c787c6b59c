pub mod ByteLaws
pub mod VarintLaws
pub mod WithinLaws
pub mod ShortLaws
pub mod NumberLaws
