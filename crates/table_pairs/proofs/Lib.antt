-- Laws of two tables that are read together.
pub mod PairLaws
pub mod PairCauseLaws
