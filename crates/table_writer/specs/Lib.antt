pub mod TableFile
pub mod Writing
pub mod WriteCauses
pub mod Words
pub mod Noting
