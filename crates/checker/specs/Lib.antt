pub mod Judge
pub mod JudgeCauses
pub mod OnSides
