-- Laws of the bits of a word, for the proofs of this crate and of those above it.
pub mod BitLaws
pub mod WalkLaws
