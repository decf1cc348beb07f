-- `examination::first_long` meets its contract: no state before c is found. Assumes nothing.
use mathlib.Core.Path.{◌≡◌}
use Rattle.lists.specs.Below.{first_below}
use Rattle.sides.specs.Views.{view_in}
use Rattle.examination.specs.OnSides.{long_by}
use Rattle.examination.proofs.first_long.Given as goal

abbrev pub invariant-loop-c : goal.invariant-loop-c
invariant-loop-c l = first_below l.c (long_by (view_in l.view.ours.now l.view.theirs.now) l.chains l.b) ≡ l.c
