pub mod TrackLaws
pub mod PhasedLaws
pub mod BodyLaws
pub mod NextLaws
pub mod StraightLaws
