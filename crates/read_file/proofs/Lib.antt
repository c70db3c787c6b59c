pub mod Replies
pub mod PhasedReplies
pub mod Cut
pub mod WalkLaws
pub mod LentLaws
pub mod OneLaws
pub mod GivenLaws
