pub mod Checked
pub mod Next
pub mod Straight
