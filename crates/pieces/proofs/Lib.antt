-- Laws of the definitions of `specs/`, for the proofs of this crate and of those above it.
pub mod PieceLaws
pub mod PieceExamples
