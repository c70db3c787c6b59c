pub mod ReadLaws
pub mod FoundLaws
pub mod AcceptedLaws
