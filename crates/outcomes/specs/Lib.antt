-- The outcome of one obligation.
pub mod Obligation
