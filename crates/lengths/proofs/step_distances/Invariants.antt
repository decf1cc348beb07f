-- `lengths::step_distances` meets its contract: each round but the last makes the sum of the lengths fall, and the row
-- that the last leaves is settled. Assumes nothing.
use Rattle.sides.specs.Side.{system_in}
use Rattle.sides.specs.Views.{view_in}
use Rattle.lengths.specs.Relaxing.{Bounds, total}
use Rattle.lengths.proofs.step_distances.Given as goal

abbrev pub invariant-loop : goal.invariant-loop
invariant-loop l = Bounds (view_in l.view.ours.now l.view.theirs.now) l.j (system_in l.view.theirs.now).steps l.row

abbrev pub decreases-loop : goal.decreases-loop
decreases-loop l = total l.row
