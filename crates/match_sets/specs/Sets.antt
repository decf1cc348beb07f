-- Reach by sets (document 02, Ask 10): what the set of the other's states at which the own step j is matched holds.
use Rattle.std.specs.Prelude.{ℕ, ◌^◌, ◌<◌, ◌≡◌}
use Rattle.words.specs.Bits.{has_bit}
use Rattle.bisimulation.specs.Systems.{View}
use Rattle.bisimulation.specs.Maker.{matches_within}

-- "The set begins with chase length 0, holds after k rounds exactly the states with a chase length of at most k": those at which a run with at most k steps
-- inside matches the step.
pub record AfterRounds (v : View) (j k set : ℕ) : Type 0 where
  pub set< : set < 2 ^ 64
  pub exactly : (t : ℕ) → has_bit set t ≡ matches_within v j k t
