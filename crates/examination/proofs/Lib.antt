-- Laws of the maker's examination.
pub mod KeptLaws
pub mod StepLaws
pub mod WordLaws
pub mod ChainLaws
pub mod PairLaws
pub mod ExamineLaws
pub mod MeasuredLaws
