-- Laws of inputs.
pub mod InputLaws
pub mod InputCauseLaws
