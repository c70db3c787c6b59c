pub mod Values
pub mod Sizes
