pub mod Entries
pub mod Room
pub mod Walked
pub mod Runs
pub mod Fours
pub mod Parts
pub mod Listed
pub mod Checked
