-- Laws of sweeps.
pub mod ProgressLaws
pub mod SweepLaws
pub mod CheckLaws
pub mod SideVerdictLaws
pub mod TallyLaws
