-- `outcomes::falling_state` meets its contract: each state of the set is tested and, where the rank does not fall, left out,
-- which keeps the answer. Assumes nothing.
use Prim.Native.Nat.{◌^◌, ◌<◌}
use mathlib.Core.Path.{◌≡◌}
use Rattle.outcomes.specs.Obligation.{first_falling}
use Rattle.outcomes.proofs.falling_state.Given as goal

abbrev pub invariant-loop-v : goal.invariant-loop-v
invariant-loop-v l =
    (l.v-iterator.rest.0 < 2 ^ 64) × (first_falling l.fn.set.0 l.ranks l.t ≡ first_falling l.v-iterator.rest.0 l.ranks l.t)
