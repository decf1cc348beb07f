pub mod SidesReadLaws
pub mod JudgeReadLaws
pub mod JudgeLaws
pub mod JudgeCauseLaws
pub mod AcceptedSidesLaws
