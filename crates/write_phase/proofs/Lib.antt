pub mod AllowedLaws
pub mod CallLaws
pub mod PartLaws
pub mod TrackLaws
