pub mod Answers
pub mod Sizes
pub mod Places
pub mod UnusedLaws
pub mod OneBlock
