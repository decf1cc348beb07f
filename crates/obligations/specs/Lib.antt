pub mod CheckAnswers
pub mod Judging
pub mod Outcomes
pub mod CheckCauses
pub mod OnSides
