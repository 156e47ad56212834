pub mod ListLaws
pub mod WindowLaws
pub mod CutLaws
pub mod CountLaws
pub mod ActLaws
