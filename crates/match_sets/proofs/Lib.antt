pub mod PredecessorLaws
pub mod GrowingLaws
pub mod MarkLaws
pub mod DistanceRowLaws
