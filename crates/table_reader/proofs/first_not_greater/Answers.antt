-- `table_reader::first_not_greater` meets its contract: step 0 has none before it, and the search from step 1 on passes those that are greater than the one
-- before. Assumes nothing.
use Prim.Native.Nat.{ℕ, zero, suc, ◌≤◌, ◌<◌, ◌-◌}
use mathlib.Core.Path.{◌≡◌, ap}
use mathlib.Core.Bool.{not}
use mathlib.Core.List.{List}
use native.Mathlib.Omega.{arith}
use lib.Dec.{T}
use borrow.Author.Tests.{tests}
use Rattle.std.proofs.Common.{rules}
use Rattle.std.proofs.lemmas.Iterator.{first_from_Range}
use Rattle.tables.specs.declared.Format.{Format}
use Rattle.table_reader.specs.TableReading.{greater, not_greater}
use Rattle.lists.proofs.FoundLaws.{found-from}
use Rattle.table_reader.proofs.first_not_greater.Goals as goal

module _ (f : Format) (steps : List ℕ) where
  -- a step from 1 on is held beside the one before it
  at-step : (j : ℕ) → 1 ≤ j → not_greater f steps j ≡ not (greater f steps j (j - 1))
  unfolding not_greater
  at-step zero l = absurd (omega arith)
  at-step (suc i) l = ap (λ (k : ℕ). not (greater f steps (suc i) k)) (omega arith)

  -- step 0 has none before it
  before : (k : ℕ) → k < 1 → T (not_greater f steps k) → ⊥
  unfolding not_greater
  before zero l t = t
  before (suc k) l t = omega arith

pub returns : goal.returns
returns c =
    let a = c.args in
    let s = a.steps.now in
    let q = λ (j : ℕ). not (greater a.format s j (j - 1)) in
    found-from a.m (not_greater a.format s) 1 (before a.format s) q (at-step a.format s) _
    (first_from_Range _ _ _ _ (λ j. T (q j)) (λ j. T (q j) → ⊥) c.find.ensures.ran (λ j r k. grind (arith, tests)) (λ j r k. (search rules, grind (arith, tests))))
