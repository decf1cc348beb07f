-- `lengths::all_distances` meets its contract: the rows of the steps are lent one after the other, each as a part, and
-- written; the others stay zeros. Assumes nothing.
use Prim.Native.Nat.{◌*◌}
use lib.ListN.{replicate}
use Rattle.lists.proofs.FillLaws.{Rows}
use Rattle.sides.specs.Views.{view_in}
use Rattle.lengths.specs.Cells.{distance_at}
use Rattle.lengths.proofs.all_distances.Given as goal

abbrev pub invariant-loop-j : goal.invariant-loop-j
invariant-loop-j l = Rows l.j (l.j * 64) 64 (distance_at (view_in l.view.ours.now l.view.theirs.now)) (replicate 16384 0) l.at
