-- Laws of a grid that is made cell by cell, by a closure of the cell's index that changes nothing. Assumes nothing.
use Prim.Native.Nat.{ℕ, zero, suc, ◌+◌, ◌*◌, ◌/◌, ◌%◌, ◌≤◌, ◌<◌, zero-le}
use mathlib.Core.Path.{◌≡◌, sym, ap, ap₂, ◌∙◌, subst}
use mathlib.Core.List.{List}
use mathlib.Core.Logic.{⊎_elim}
use native.Mathlib.Nat.{eq-or-lt_of_le}
use native.Mathlib.Omega.{arith}
use denote.Param.Members.{Mut, Called}
use lib.ListN.{get_or}
use Rattle.std.specs.Array.{IsFromFnResult, IsFromFnResultFrom}
use Rattle.lists.specs.Lists.{grid}
use Rattle.lists.proofs.FillLaws.{grid-cells}

module _ {F : Type 0} (g : Mut F (ℕ × Unit {0}) ℕ) (f : F) (h : ℕ → ℕ)
    (call : (i r : ℕ) (f' : F) → Called g f (i, tt) r f' → (r ≡ h i) × (f' ≡ f)) where
  -- n calls, at the indices from i on
  made-from : (ys : List ℕ) (n i k : ℕ) → IsFromFnResultFrom g f ys i n → i ≤ k → k < i + n → get_or ys k 0 ≡ h k
  made-from ys zero i k m l b = absurd (let z : ⊥ = omega arith in z)
  made-from ys (suc n) i k m l b =
      let q = m.0 in
      let c = call i m.1 q m.3 in
      ⊎_elim
      (λ e. ap (λ (j : ℕ). get_or ys j 0) (sym e) ∙ m.2.1 0 ∙ c.0 ∙ ap h e)
      (λ j. made-from ys n (i + 1) k (subst (λ (p : F). IsFromFnResultFrom g p ys (i + 1) n) c.1 m.4) (omega arith) (omega arith))
      (eq-or-lt_of_le l)

  pub made-at : {ys : List ℕ} {n : ℕ} → IsFromFnResult g f ys n → (k : ℕ) → k < n → get_or ys k 0 ≡ h k
  made-at {ys} {n} m k l = made-from ys n 0 k m.each zero-le (omega arith)

-- rows of 64, made from the row and the column of each cell
pub grid-made : {F : Type 0} (g : Mut F (ℕ × Unit {0}) ℕ) (f : F) (n : ℕ) (cell : ℕ → ℕ → ℕ)
    → ((i r : ℕ) (f' : F) → Called g f (i, tt) r f' → (r ≡ cell (i / 64) (i % 64)) × (f' ≡ f))
    → {ys : List ℕ} → IsFromFnResult g f ys (n * 64) → ys ≡ grid n 64 cell
grid-made g f n cell call {ys} m =
    grid-cells n 64 cell ys (omega arith) m.long
    (λ s t a b.
    let q : (s * 64 + t) / 64 ≡ s = omega arith in
    let r : (s * 64 + t) % 64 ≡ t = omega arith in
    made-at g f (λ i. cell (i / 64) (i % 64)) call m (s * 64 + t) (omega arith) ∙ ap₂ cell q r)
