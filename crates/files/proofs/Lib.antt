-- Laws of certificate files, for the proofs of this crate and of those above it.
pub mod FileLaws
pub mod WriterLaws
