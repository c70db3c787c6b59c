pub mod MaskLaws
pub mod ChangedLaws
pub mod Turns
