pub mod Numbers
pub mod Causes
pub mod Verdicts
