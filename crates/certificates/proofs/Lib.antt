-- Laws of a certificate's layout and of the theory's view of it, for the proofs of this crate and of those above it.
pub mod LayoutLaws
pub mod ModelLaws
