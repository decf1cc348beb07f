-- Laws of the table reader, for the proofs of this crate and of those above it.
pub mod SeenLaws
pub mod TestLaws
pub mod OrderLaws
pub mod TableCauseLaws
pub mod TableLaws
pub mod PlainLaws
pub mod StepNumberLaws
