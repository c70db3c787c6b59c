pub mod Bases
pub mod Tallied
pub mod Counted
pub mod Bytes
pub mod Tracks
