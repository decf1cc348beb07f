-- `certificates::row` meets its contract: a row past the last is past the end, where every byte is 0, and below it the row's place fits. Assumes nothing.
use Prim.Native.Nat.{ℕ, ◌+◌, ◌*◌, ◌≤◌}
use mathlib.Core.Path.{◌≡◌, sym, ◌∙◌}
use mathlib.Core.List.{List, []}
use native.Mathlib.Omega.{arith}
use lib.ListN.{length}
use Rattle.lists.specs.Numbers.{big_endian}
use Rattle.lists.proofs.FillLaws.{get_or-past}
use Rattle.lists.proofs.NumberLaws.{big-cong}
use Rattle.certificates.specs.Layout.{row_of}
use Rattle.certificates.proofs.row.Goals as goal

row-past : (rows : List ℕ) (s : ℕ) → length rows ≤ s * 8 → row_of rows s ≡ 0
unfolding row_of big_endian
row-past rows s h = big-cong rows [] (s * 8) 0 8 (λ i l. get_or-past rows (s * 8 + i) (omega arith))

pub returns-then-rows-s : goal.returns-then-rows-s
returns-then-rows-s c = c.empty.ensures ∙ sym (row-past c.args.rows.now c.args.s (omega arith))

pub returns : goal.returns
unfolding row_of
returns c = c.read.ensures
