pub mod Written
pub mod Arrays
pub mod InTurn
