-- The relation as words.
pub mod Relation
