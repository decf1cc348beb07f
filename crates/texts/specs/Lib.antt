pub mod Texts
pub mod Wrote
