pub mod Turned
pub mod OneRecord
pub mod Accepted
pub mod AllRecords
