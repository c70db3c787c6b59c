pub mod PutLaws
pub mod TypesLaws
pub mod BodiesLaws
pub mod FileLaw
pub mod Ways
pub mod Turns
pub mod AcceptedLaws
