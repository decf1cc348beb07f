-- The theorems, and the laws that they stand on.

pub mod ClauseLaws
pub mod RankLaws
pub mod BlockLaws
pub mod Sound
pub mod Complete
pub mod Made
pub mod RunLaws
pub mod PlainPaths
pub mod PathMatchingLaws
pub mod StandingLaws
pub mod Equivalences
pub mod Pigeonhole
pub mod SideClauses
pub mod Sides
pub mod Literal
pub mod NamjoshiTheorems
pub mod CounterexampleLaws
