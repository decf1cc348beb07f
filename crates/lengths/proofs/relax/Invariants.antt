-- `lengths::relax` meets its contract: each turn tests one step, and a step that shortens a length keeps the bounds and makes the sum fall. Assumes nothing.
use Rattle.sides.specs.Views.{view_in}
use Rattle.lengths.specs.Relaxing.{Round}
use Rattle.lengths.proofs.relax.Given as goal

abbrev pub invariant-loop-e : goal.invariant-loop-e
invariant-loop-e l = Round (view_in l.view.ours.now l.view.theirs.now) l.j l.e l.initial.row l.row l.changed
