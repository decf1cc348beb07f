-- The starts rule: how 16 names the starts, its verdict and its causes.
pub mod StartsNamed
pub mod StartsVerdict
pub mod StartsCauses
pub mod Unpairing
