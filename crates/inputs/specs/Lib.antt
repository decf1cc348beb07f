-- Two tables and a relation, read together.
pub mod Inputs
pub mod InputCauses
