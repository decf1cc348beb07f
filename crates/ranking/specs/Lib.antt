pub mod Make
pub mod OnSides
pub mod Enquire
pub mod MakerCauses
