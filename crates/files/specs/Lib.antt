pub mod File
pub mod Writer
