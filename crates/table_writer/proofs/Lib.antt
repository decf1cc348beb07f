-- Laws of the table writer.
pub mod TestLaws
pub mod WordLaws
pub mod PuttingLaws
pub mod FileLaws
pub mod VerdictLaws
pub mod WriteCauseLaws
pub mod ReadBackLaws
pub mod WrittenExamples
mod FindLaws
