-- Laws of the definitions of `specs/`, for the proofs of this crate and of those above it.
pub mod DecimalLaws
pub mod TextLaws
pub mod PutLaws
pub mod TextExamples
