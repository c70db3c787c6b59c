pub mod BaseLaws
pub mod CallBytes
pub mod CountedEntryLaws
pub mod TallyLaws
pub mod CountAgrees
pub mod SparseLaws
pub mod CountedArrayLaws
pub mod CountedTrackLaws
