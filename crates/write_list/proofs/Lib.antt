pub mod ValueLaws
pub mod CountLaws
pub mod ListLaws
