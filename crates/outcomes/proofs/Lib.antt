-- Laws of outcomes.
pub mod ObligationLaws
