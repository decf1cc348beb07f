-- Laws of the verdicts on the states of a word, met in rising order: what the loop keeps, and where it stops. Assumes nothing.
use Rattle.std.specs.Prelude.{Err}
use Prim.Native.Nat.{ℕ, ◌+◌, ◌≤◌, ◌<◌}
use mathlib.Core.Path.{◌≡◌, sym, ap, ◌∙◌}
use mathlib.Core.Bool.{Bool, true, false, cond}
use native.Mathlib.Omega.{arith}
use native.Mathlib.Decide.{ℕ_discrete, dec_lt}
use Rattle.words.specs.Bits.{has_bit}
use Rattle.answers.specs.declared.Answer.{Answer}
use Rattle.answers.specs.Verdicts.{Verdict, passed, first_of}
use Rattle.answers.proofs.VerdictLaws.{of_none, of-hit}

module _ (f : ℕ → Verdict (Unit {0})) (word : ℕ) where
  -- The verdict at t: that of f where the word has t.
  abbrev pub at_state : ℕ → Verdict (Unit {0})
  at_state t = cond (has_bit word t) (f t) passed

  -- All states before t are passed.
  pub record BeforeState (t : ℕ) : Type 0 where
    pub pass : (i : ℕ) → i < t → at_state i ≡ passed

  unrelated : (i : ℕ) → has_bit word i ≡ false → at_state i ≡ passed
  unrelated i e = ap (λ (b : Bool). cond b (f i) passed) e

  here : (i : ℕ) → has_bit word i ≡ true → at_state i ≡ f i
  here i e = ap (λ (b : Bool). cond b (f i) passed) e

  pub word-start : {t : ℕ} → ((i : ℕ) → 0 ≤ i → i < t → has_bit word i ≡ false) → BeforeState t
  word-start gap = record { pass = λ i l. unrelated i (gap i (omega arith) l) }

  pub word_next : {t t' : ℕ} → BeforeState t → has_bit word t ≡ true → passed ≡ f t → ((i : ℕ) → t + 1 ≤ i → i < t' → has_bit word i ≡ false) → BeforeState t'
  word_next {t} w h e gap =
      record {
        pass = λ i l. elim (dec_lt i t) [
          | yes b ↦ w.pass i b
          | no b ↦ elim (ℕ_discrete i t) [
            | yes z ↦ ap at_state z ∙ here t h ∙ sym e
            | no z ↦ unrelated i (gap i (omega arith) l)
          ]
        ];
      }

  module _ (n : ℕ) {t : ℕ} (w : BeforeState t) where
    pub word-refused : (a : Answer) → t < n → has_bit word t ≡ true → f t ≡ Err a → first_of n at_state ≡ Err a
    word-refused a l h e = of-hit n t at_state a l w.pass (here t h ∙ e)

    pub word_end : n ≤ t → first_of n at_state ≡ passed
    word_end l = of_none n at_state (λ i b. w.pass i (omega arith))
