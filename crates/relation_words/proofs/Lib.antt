-- Laws of the relation as words.
pub mod RelationLaws
