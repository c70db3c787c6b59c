pub mod Changed
pub mod Masks
