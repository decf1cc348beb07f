-- `lists::number` meets its contract: after i turns x is the number in the first i bytes, and i bytes never pass 64 bits. Assumes nothing.
use mathlib.Core.Path.{◌≡◌}
use Rattle.lists.specs.Numbers.{big_endian}
use Rattle.lists.proofs.number.Given as goal

abbrev pub invariant-loop-i : goal.invariant-loop-i
invariant-loop-i l = l.x ≡ big_endian l.s l.at l.i
