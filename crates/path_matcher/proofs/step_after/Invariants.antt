-- `path_matcher::step_after` meets its contract: the walk along the links stops at the first step that enters the next state. Assumes nothing.
use Prim.Native.Nat.{◌+◌}
use mathlib.Core.Path.{◌≡◌}
use Rattle.lists.specs.Numbers.{byte_at}
use Rattle.sides.specs.Side.{steps_left}
use Rattle.path_matcher.specs.OnSides.{first_to, step_between}
use Rattle.path_matcher.proofs.step_after.Given as goal

abbrev pub invariant-loop-j : goal.invariant-loop-j
invariant-loop-j l = step_between l.side (byte_at l.path l.i) (byte_at l.path (l.i + 1)) ≡ first_to l.side l.u (steps_left l.j-iterator)
