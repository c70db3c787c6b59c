pub mod Types
pub mod Scanning
pub mod Back
pub mod Flat
