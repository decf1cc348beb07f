-- `lengths::start` meets its contract: after e steps the row is 0 where one of them meets the obligation, and the number of states elsewhere. Assumes nothing.
use Rattle.sides.specs.Views.{view_in}
use Rattle.lengths.specs.Relaxing.{Bounds, Zeroed}
use Rattle.lengths.proofs.start.Given as goal

abbrev pub invariant-loop-e : goal.invariant-loop-e
invariant-loop-e l = record { bounds : Bounds (view_in l.view.ours.now l.view.theirs.now) l.j l.e l.row; zeroed : Zeroed l.matched.0 l.row }
