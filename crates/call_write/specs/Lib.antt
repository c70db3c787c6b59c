pub mod Asked
pub mod Checked
