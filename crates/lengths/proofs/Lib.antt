-- Laws of the maker's arithmetic for one side.
pub mod DistanceLaws
pub mod LengthTableLaws
pub mod RelaxingLaws
pub mod CellLaws
pub mod OpenStepLaws
