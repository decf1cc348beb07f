pub mod Sets
pub mod Predecessors
pub mod Growing
