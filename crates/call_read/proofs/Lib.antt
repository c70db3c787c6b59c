pub mod CheckLaws
pub mod RowLaws
pub mod ReadLaws
pub mod PhasesLaws
pub mod LookupLaws
pub mod ViewLaws
pub mod Unique
