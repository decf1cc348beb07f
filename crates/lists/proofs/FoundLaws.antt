-- Laws of the first index that is found: what is found and what is not, by the bounded search, and how each is shown. Assumes nothing.
use Prim.Native.Nat.{ℕ, ◌≤◌, ◌<◌}
use mathlib.Core.Path.{◌≡◌, sym, ap, ◌∙◌, subst}
use mathlib.Core.Bool.{Bool}
use native.Mathlib.Omega.{arith}
use native.Mathlib.Decide.{dec_lt}
use lib.Dec.{T}
use borrow.Author.Tests.{lt-ltb, le-ltb}
use Rattle.std.proofs.Common.{Option, Some, None, MatchOption}
use Rattle.lists.specs.Below.{first_below, found_below}
use Rattle.lists.proofs.BelowLaws.{first-is, first-none}

module _ (n : ℕ) (p : ℕ → Bool) where
  -- as the search below the bound tells it
  pub found-at : first_below n p < n → found_below n p ≡ Some (first_below n p)
  found-at l = rw (lt-ltb (first_below n p) n l)

  pub found-not : n ≤ first_below n p → found_below n p ≡ None
  found-not l = rw (le-ltb (first_below n p) n l)

  -- what is found is the first, and is below the bound
  pub found_some : {j : ℕ} → found_below n p ≡ Some j → (first_below n p ≡ j) × (j < n)
  found_some {j} e = elim (dec_lt (first_below n p) n) [
    | yes l ↦ let q : first_below n p ≡ j = cc (sym (found-at l) ∙ e) in (q, omega arith)
    | no l ↦ absurd (none-is (sym (found-not (omega arith)) ∙ e))
  ]
    where
      none-is : {A : Type 0} → ◌≡◌ {A = Option ℕ} None (Some j) → A
      none-is q = cc q

  -- where none is found the search comes to the bound
  pub found_none : found_below n p ≡ None → n ≤ first_below n p
  found_none e = elim (dec_lt (first_below n p) n) [
    | yes l ↦ absurd (none-is (sym (found-at l) ∙ e))
    | no l ↦ omega arith
  ]
    where
      none-is : {A : Type 0} → ◌≡◌ {A = Option ℕ} (Some (first_below n p)) None → A
      none-is q = cc q

  -- and how each is shown
  pub found-is : {i : ℕ} → first_below n p ≡ i → i < n → found_below n p ≡ Some i
  found-is e l = found-at (omega arith) ∙ ap Some e

  pub none-found : first_below n p ≡ n → found_below n p ≡ None
  none-found e = found-not (omega arith)

  -- both, as a search of the numbers from a on tells them, of which none before passes; the search may test otherwise than p before a
  module _ (a : ℕ) (before : (k : ℕ) → k < a → T (p k) → ⊥) (q : ℕ → Bool) (same : (k : ℕ) → a ≤ k → p k ≡ q k) where
    missed : (k : ℕ) → (a ≤ k → T (q k) → ⊥) → T (p k) → ⊥
    missed k h t = elim (dec_lt k a) [ yes b ↦ before k b t | no b ↦ h (omega arith) (subst T (same k (omega arith)) t) ]

    pub found-from : (r : Option ℕ)
        → MatchOption r ((k : ℕ) → a ≤ k → k < n → T (q k) → ⊥) (λ i. (a ≤ i) × (i < n) × T (q i) × ((k : ℕ) → a ≤ k → k < i → T (q k) → ⊥))
        → r ≡ found_below n p
    found-from None h = sym (none-found (first-none n p (λ k l. missed k (λ b. h k b l))))
    found-from (Some i) h = sym (found-is (first-is n p i h.1 (subst T (sym (same i h.0)) h.2) (λ k l. missed k (λ b. h.3 k b l))) h.1)
