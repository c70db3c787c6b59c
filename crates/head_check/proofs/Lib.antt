pub mod Handed
pub mod UnblockedLaws
pub mod BlockedLaws
pub mod Chain
pub mod FixedLaws
pub mod Unique
