-- The laws of sides: how a side is built, the walk along its links, and the one law that two sides hold the view of the bytes.
pub mod StoreLaws
pub mod BuildLaws
pub mod WalkLaws
pub mod GroupLaws
pub mod LinkLaws
pub mod LinkedLaws
pub mod ViewLaws
pub mod PlainLaws
