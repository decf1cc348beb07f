-- `lists::put_front` meets its contract: the front is written byte after byte. Assumes nothing.
use Prim.Native.Nat.{ℕ}
use lib.ListN.{get_or}
use Rattle.lists.proofs.FillLaws.{Filled}
use Rattle.lists.proofs.put_front.Given as goal

abbrev pub invariant-loop-i : goal.invariant-loop-i
invariant-loop-i l = Filled l.i (λ (k : ℕ). get_or l.front k 0) l.initial.output l.output
