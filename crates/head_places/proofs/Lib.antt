pub mod AcceptedLaws
pub mod InBlock
pub mod PartLaws
