pub mod Arrays
pub mod Unpacked
