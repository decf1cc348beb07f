-- Laws of obligations.
pub mod OutcomeLaws
pub mod JudgingLaws
pub mod CountLaws
pub mod OnSidesLaws
