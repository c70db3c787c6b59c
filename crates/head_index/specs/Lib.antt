pub mod NumbersAt
pub mod VariantsAt
pub mod Rules
pub mod Known
pub mod Stored
