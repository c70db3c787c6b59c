pub mod StoreLaws
pub mod WidthLaws
pub mod PutLaws
pub mod ReadsAt
pub mod CheckLaws
