-- Laws of the loop that puts a length into a row at each state of a word. Assumes nothing.
use Prim.Native.Nat.{ℕ, ◌+◌, ◌≤◌, ◌<◌}
use mathlib.Core.Path.{◌≡◌, refl, sym, ap, ◌∙◌}
use mathlib.Core.Bool.{Bool, true, false, cond, ◌&&◌}
use mathlib.Core.List.{List}
use native.Mathlib.Omega.{arith}
use native.Mathlib.Decide.{dec_lt, ℕ_discrete}
use lib.Dec.{ltb}
use lib.ListN.{length, get_or, set, length-set}
use lib.Seq.{get_or-set_same, get_or-set_other}
use borrow.Author.Tests.{lt-ltb, le-ltb}
use Rattle.words.specs.Bits.{has_bit}
use Rattle.match_sets.specs.Growing.{Marked}

and-false : (b : Bool) → (b && false) ≡ false
and-false true = refl
and-false false = refl

module _ (word len : ℕ) (before : List ℕ) where
  -- what the row has at t, by whether t is done and whether it is in the word
  by : (t u : ℕ) {b c : Bool} → ltb t u ≡ b → has_bit word t ≡ c → cond (ltb t u && has_bit word t) len (get_or before t 0) ≡ cond (b && c) len (get_or before t 0)
  by t u {b} {c} e f = rw (e, f)

  not_in : (t u : ℕ) → has_bit word t ≡ false → cond (ltb t u && has_bit word t) len (get_or before t 0) ≡ get_or before t 0
  not_in t u f = by t u refl f ∙ ap (λ (b : Bool). cond b len (get_or before t 0)) (and-false (ltb t u))

  not_done : (t u : ℕ) → u ≤ t → cond (ltb t u && has_bit word t) len (get_or before t 0) ≡ get_or before t 0
  not_done t u l = by t u (le-ltb t u l) refl

  pub marked-none : {u : ℕ} → ((t : ℕ) → 0 ≤ t → t < u → has_bit word t ≡ false) → Marked word u len before before
  marked-none {u} gap =
      record {
        room = refl;
        cell = λ t l. elim (dec_lt t u) [
          | yes h ↦ sym (not_in t u (gap t (omega arith) h))
          | no h ↦ sym (not_done t u (omega arith))
        ];
      }

  module _ {t : ℕ} {row : List ℕ} (m : Marked word t len before row) where
    pub marked_more : {next : ℕ} → length before ≡ 64 → t < 64 → t < next → has_bit word t ≡ true
        → ((u : ℕ) → t + 1 ≤ u → u < next → has_bit word u ≡ false) → Marked word next len before (set row t len)
    marked_more {next} room h rises here gap =
        let k : t < length row = omega (arith, m.room) in
        record {
          room = length-set row t len ∙ m.room;
          cell = λ u l. elim (ℕ_discrete u t) [
            | yes q ↦ rw q (get_or-set_same row t len 0 k ∙ sym (by t next (lt-ltb t next rises) here))
            | no q ↦ get_or-set_other row t u len 0 q ∙ m.cell u l ∙ elim (dec_lt u t) [
              | yes p ↦ by u t (lt-ltb u t p) refl ∙ sym (by u next (lt-ltb u next (omega arith)) refl)
              | no p ↦ not_done u t (omega arith) ∙ elim (dec_lt u next) [
                | yes z ↦ sym (not_in u next (gap u (omega arith) z))
                | no z ↦ sym (not_done u next (omega arith))
              ]
            ]
          ];
        }

    pub marked_all : 64 ≤ t → Marked word 64 len before row
    marked_all far =
        record { room = m.room; cell = λ u l. m.cell u l ∙ by u t (lt-ltb u t (omega arith)) refl ∙ sym (by u 64 (lt-ltb u 64 l) refl) }
