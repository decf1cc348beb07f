-- Two tables, read together.
pub mod TablePairs
pub mod PairCauses
