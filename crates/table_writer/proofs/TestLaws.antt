-- Laws of the writer's tests: each passes exactly where what it tests holds. Assumes nothing.
use Prim.Native.Nat.{ℕ, ◌≤◌}
use mathlib.Core.Path.{◌≡◌}
use mathlib.Core.Logic.{inl, inr}
use mathlib.Core.List.{List}
use native.Mathlib.Omega.{arith}
use lib.ListN.{length}
use Rattle.lists.specs.Below.{first_below}
use Rattle.lists.proofs.BelowLaws.{first-least}
use Rattle.answers.proofs.DecideLaws.{Decides, leb-decides, eqb-decides, or-decides, any-decides}
use Rattle.table_reader.specs.EndsSeen.{EndsBelow}
use Rattle.table_writer.specs.Writing.{step_at, from_at, to_at, end_outside, equals_earlier}
use Rattle.table_writer.specs.WriteCauses.{EndOutside, EqualsEarlier}

pub outside-decides : (n : ℕ) (steps : List ℕ) (j : ℕ) → Decides (end_outside n steps j) (EndOutside n steps j)
unfolding end_outside
outside-decides n steps j = or-decides (leb-decides n (from_at steps j)) (leb-decides n (to_at steps j))

pub earlier-decides : (steps : List ℕ) (j : ℕ) → Decides (equals_earlier steps j) (EqualsEarlier steps j)
unfolding equals_earlier
earlier-decides steps j = any-decides j (λ i. eqb-decides (step_at steps i) (step_at steps j))

-- where no step has an end of n or more, every end is below what n does not exceed
pub outside-none : (n k : ℕ) (steps : List ℕ) {o : ℕ} → o ≡ first_below (length steps) (end_outside n steps) → length steps ≤ o → n ≤ k
    → EndsBelow k (from_at steps) (to_at steps) (length steps)
outside-none n k steps e none le j l =
    let d = outside-decides n steps j in
    let inside : EndOutside n steps j → ⊥ = λ o. first-least (length steps) (end_outside n steps) j (omega arith) (d.complete o) in
    let from_in : n ≤ from_at steps j → ⊥ = λ a. inside (inl a) in
    let to_in : n ≤ to_at steps j → ⊥ = λ a. inside (inr a) in
    (omega arith, omega arith)
