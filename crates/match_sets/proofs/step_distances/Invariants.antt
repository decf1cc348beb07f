-- `match_sets::step_distances` meets its contract: the set after k rounds is the one of chase length at most k, and each round before it brought a state.
-- Assumes nothing.
use Prim.Native.Nat.{◌-◌}
use Rattle.sides.specs.Views.{view_in}
use Rattle.match_sets.specs.Growing.{Grown, Rounds}
use Rattle.match_sets.proofs.step_distances.Given as goal

abbrev pub invariant-loop-candidates : goal.invariant-loop-candidates
invariant-loop-candidates l =
    record {
      grown : Grown (view_in l.view.ours.now l.view.theirs.now) l.j l.k l.set.0 l.fresh.0;
      rounds : Rounds (view_in l.view.ours.now l.view.theirs.now) l.j l.k l.row;
    }

abbrev pub decreases-loop-candidates : goal.decreases-loop-candidates
decreases-loop-candidates l = 64 - l.k
