pub mod Arrangement
pub mod Over
pub mod OverOffsets
