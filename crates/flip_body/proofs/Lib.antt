pub mod EditLaws
pub mod BodyLaws
pub mod Ways
