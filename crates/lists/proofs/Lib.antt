-- Laws of the definitions of `specs/`, for the proofs of this crate and of those above it.
pub mod BoolLaws
pub mod BelowLaws
pub mod SomeLaws
pub mod FoundLaws
pub mod RisingLaws
pub mod KeptLaws
pub mod NumberLaws
pub mod FillLaws
pub mod JoinLaws
pub mod FlatLaws
