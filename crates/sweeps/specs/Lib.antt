-- All checks of two sides in judging order.
pub mod Tallies
pub mod SideVerdicts
