-- The maker's examination, and how it is read off the tables.
pub mod Examine
pub mod ExaminationCauses
pub mod OnSides
pub mod Walk
