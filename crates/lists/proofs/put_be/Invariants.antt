-- `lists::put_be` meets its contract: with the bytes left to write over those from `at` on, the output is the contract's at every turn. Assumes nothing.
use Prim.Native.Nat.{ℕ, ◌+◌}
use mathlib.Core.Path.{◌≡◌}
use mathlib.Core.List.{List, ◌++◌}
use lib.ListN.{take, drop}
use Rattle.lists.specs.Numbers.{big_bytes}
use Rattle.lists.proofs.put_be.Given as goal

-- The output l with the i bytes of x over those from `at` on.
abbrev pub over : (at i x : ℕ) → List ℕ → List ℕ
over at i x l = take at l ++ big_bytes i x ++ drop (at + i) l

abbrev pub invariant-loop-i : goal.invariant-loop-i
invariant-loop-i l = over l.at l.i l.x l.output ≡ over l.at l.k l.number l.initial.output
