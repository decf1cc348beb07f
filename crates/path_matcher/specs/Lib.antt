-- A run followed on the other model: the answer with both outputs, and the causes.
pub mod Following
pub mod FollowCauses
pub mod OnSides
