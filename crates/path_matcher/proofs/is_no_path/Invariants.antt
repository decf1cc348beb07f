-- `path_matcher::is_no_path` meets its contract: the states are read one after the other. Assumes nothing.
use Prim.Native.Nat.{◌-◌}
use mathlib.Core.Path.{◌≡◌}
use Rattle.lists.specs.Numbers.{byte_at}
use Rattle.sides.specs.Side.{system_in}
use Rattle.path_matcher.proofs.PathLaws.{ReadTo}
use Rattle.path_matcher.proofs.is_no_path.Given as goal

abbrev pub invariant-loop-i : goal.invariant-loop-i
invariant-loop-i l = (l.s ≡ byte_at l.path (l.i - 1)) × ReadTo (system_in l.side) l.path l.i
