-- Laws of a run followed on the other model.
pub mod FollowCauseLaws
pub mod PathLaws
pub mod MoveLaws
pub mod FollowLaws
pub mod FollowSidesLaws
pub mod AcceptedLaws
