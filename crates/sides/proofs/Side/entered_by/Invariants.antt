-- `sides::Side::entered_by` meets its contract: the walk along the links ends at the first step with the key, or past the last. Assumes nothing.
use mathlib.Core.Path.{◌≡◌}
use Rattle.sides.specs.Side.{steps_left, group_along, entered_by}
use Rattle.sides.proofs.Side.entered_by.Given as goal

abbrev pub invariant-loop-j : goal.invariant-loop-j
invariant-loop-j l = group_along l.self l.by (steps_left l.j-iterator) ≡ entered_by l.self l.s l.by
