-- The refusals of files.
pub mod Refusals
