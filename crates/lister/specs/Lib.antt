-- The listing, and what is read off two sides for it.
pub mod Listing
pub mod OnSides
