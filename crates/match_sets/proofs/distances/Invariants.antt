-- `match_sets::distances` meets its contract: the rows of the steps are lent one after the other, each as a part, and written; the others stay zeros.
-- Assumes nothing.
use Prim.Native.Nat.{◌*◌}
use Rattle.sides.specs.Side.{system_in}
use Rattle.sides.specs.Views.{view_in}
use Rattle.match_sets.proofs.DistanceRowLaws.{DistanceRows}
use Rattle.match_sets.proofs.distances.Given as goal

abbrev pub invariant-loop-j : goal.invariant-loop-j
invariant-loop-j l = DistanceRows (view_in l.view.ours.now l.view.theirs.now) (system_in l.view.ours.now).steps l.j (l.j * 64) l.at
