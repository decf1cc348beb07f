-- Laws of causes and verdicts, for the proofs of the crates above.
pub mod DecideLaws
pub mod CauseLaws
pub mod VerdictLaws
pub mod ExitLaws
