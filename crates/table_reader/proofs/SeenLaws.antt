-- Laws of the ends seen: none at first, one more with each step, and by them it is told whether the next step equals an earlier one. Assumes nothing.
use Prim.Native.Nat.{ℕ, ◌+◌, ◌<◌}
use mathlib.Core.Path.{◌≡◌, sym, ap, ◌∙◌}
use mathlib.Core.Logic.{◌⊎◌, inl, inr, ⊎_elim, ◌↔◌}
use mathlib.Core.List.{List}
use native.Mathlib.Nat.{not-suc-le-zero}
use native.Mathlib.Omega.{arith}
use native.Mathlib.Decide.{ℕ_discrete, dec_lt}
use lib.Dec.{T, eqb, eqb→eq}
use lib.ListN.{set, replicate, length-set, length-replicate, get_or-replicate}
use lib.Seq.{get_or-set_same, get_or-set_other}
use Rattle.lists.proofs.BoolLaws.{or-e, or_l, or_r, eq→eqb, false-not-T, same-T}
use Rattle.words.specs.Bits.{has_bit, add_bit}
use Rattle.words.specs.declared.Row.{Row}
use Rattle.words.proofs.BitLaws.{has-empty, has-add-below}
use Rattle.tables.specs.declared.Format.{Format}
use Rattle.tables.specs.Table.{from_of, to_of}
use Rattle.table_reader.specs.TableReading.{doubled}
use Rattle.table_reader.specs.EndsSeen.{word_of, StepSoFar, EndsSeen}
use Rattle.table_reader.proofs.TestLaws.{doubled-decides}

module _ (from to : ℕ → ℕ) where
  -- before the first step every word is empty
  pub seen_none : (none : Row) → none.0 ≡ 0 → EndsSeen from to 0 (replicate 64 none)
  seen_none none e =
      record {
        words = length-replicate 64 none;
        bit = λ s u h.
            let word : word_of (replicate 64 none) s ≡ 0 = ap (λ (r : Row). r.0) (get_or-replicate 64 s none _ h) ∙ e in
            (λ b. absurd (false-not-T _ (has-empty u) (rw word at b)), λ p. absurd (not-suc-le-zero p.1));
      }

  -- a step so far stays one, and of one step more each is a step so far or the last
  earlier : (j s u : ℕ) → StepSoFar from to j s u → StepSoFar from to (j + 1) s u
  earlier j s u (i, l, p, q) = (i, omega arith, p, q)

  last-or-earlier : (j s u : ℕ) → StepSoFar from to (j + 1) s u → ((from j ≡ s) × (to j ≡ u)) ⊎ StepSoFar from to j s u
  last-or-earlier j s u (i, l, p, q) = elim (dec_lt i j) [
    | yes b ↦ inr (i, b, p, q)
    | no b ↦ let e : i ≡ j = omega arith in inl (rw (← e) p, rw (← e) q)
  ]

  -- step j, from s to u, adds u to the word of s and leaves the others
  module _ (j : ℕ) (seen : List Row) (w : EndsSeen from to j seen) {s u : ℕ} (es : s ≡ from j) (eu : u ≡ to j) (hs : s < 64) (hu : u < 64)
      (ends : Row) (e : ends.0 ≡ add_bit (word_of seen s) u) where
    same_word : (x : ℕ) → T (has_bit (word_of (set seen s ends) s) x) ↔ StepSoFar from to (j + 1) s x
    same_word x =
        let long = w.words in
        let word : word_of (set seen s ends) s ≡ add_bit (word_of seen s) u = ap (λ (r : Row). r.0) (get_or-set_same seen s ends _ (omega arith)) ∙ e in
        let bit = w.bit s x hs in
        rw (word, has-add-below (word_of seen s) u x hu) (
          λ b. ⊎_elim (λ k. (j, omega arith, sym es, sym eu ∙ sym (eqb→eq x u k))) (λ k. earlier j s x (bit.0 k)) (or-e (eqb x u) _ b),
          λ p. ⊎_elim (λ k. or_l (eqb x u) _ (eq→eqb x u (sym k.1 ∙ sym eu))) (λ k. or_r (eqb x u) _ (bit.1 k)) (last-or-earlier j s x p),
        )

    other_word : (r x : ℕ) → r < 64 → (r ≡ s → ⊥) → T (has_bit (word_of (set seen s ends) r) x) ↔ StepSoFar from to (j + 1) r x
    other_word r x h n =
        let word : word_of (set seen s ends) r ≡ word_of seen r = ap (λ (k : Row). k.0) (get_or-set_other seen s r ends _ n) in
        let bit = w.bit r x h in
        rw word (
          λ b. earlier j r x (bit.0 b),
          λ p. ⊎_elim (λ k. absurd (n (sym k.0 ∙ sym es))) bit.1 (last-or-earlier j r x p),
        )

    pub seen_more : EndsSeen from to (j + 1) (set seen s ends)
    seen_more =
        record {
          words = length-set seen s ends ∙ w.words;
          bit = λ r x h. elim (ℕ_discrete r s) [ yes q ↦ rw q (same_word x) | no q ↦ other_word r x h q ];
        }

-- the bit tells whether the next step equals an earlier one
pub seen-doubled : (f : Format) (steps : List ℕ) (j : ℕ) {seen : List Row} → EndsSeen (from_of f steps) (to_of f steps) j seen
    → {s u : ℕ} → s ≡ from_of f steps j → u ≡ to_of f steps j → s < 64 → doubled f steps j ≡ has_bit (word_of seen s) u
seen-doubled f steps j {seen} w {s} {u} es eu h =
    let bit : T (has_bit (word_of seen s) u) ↔ StepSoFar (from_of f steps) (to_of f steps) j (from_of f steps j) (to_of f steps j) =
    rw (← es, ← eu) (w.bit s u h) in
    let d = doubled-decides f steps j in
    same-T _ _ (λ b. bit.1 (d.sound b)) (λ b. d.complete (bit.0 b))
