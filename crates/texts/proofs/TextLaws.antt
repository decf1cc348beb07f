-- Laws of a text written over a list, of one text written where another ends, of what is put where there is room, and of the lengths of texts.
-- Assumes nothing.
use Prim.Native.Nat.{ℕ, ◌+◌, ◌≤◌, ◌<◌, zero-le}
use mathlib.Core.Path.{◌≡◌, refl, sym, ap, ap₂, ◌∙◌}
use mathlib.Core.List.{List, [], ◌∷◌, ◌++◌, append_assoc}
use native.Mathlib.Nat.{add-zero, add_assoc}
use native.Mathlib.Numerals.{add-one}
use native.Mathlib.Omega.{arith}
use lib.ListN.{length, take, drop, set, length-append, length-drop, take-append-drop}
use lib.Seq.{length-take-le, take_at, drop_at, drop-drop, set_split}
use borrow.Author.Tests.{le-leb, lt-leb}
use Rattle.answers.specs.declared.Answer.{Answer}
use Rattle.texts.specs.Texts.{decimal, number_text, six_text, answer_text, most_text, written, fitting}
use Rattle.texts.specs.Wrote.{most_number, Wrote}
use Rattle.texts.proofs.DecimalLaws.{decimal-most}

-- ---- a text written over a list

pub written_none : (at : ℕ) (l : List ℕ) → written [] at l ≡ l
unfolding written
written_none at l = rw add-zero (take-append-drop at l)

-- up to where the text ends
front_length : (text : List ℕ) (at : ℕ) (l : List ℕ) → at ≤ length l → length (take at l ++ text) ≡ at + length text
front_length text at l h = length-append (take at l) text ∙ ap (λ (n : ℕ). n + length text) (length-take-le at l h)

pub written-split : (text : List ℕ) (at : ℕ) (l : List ℕ) → written text at l ≡ (take at l ++ text) ++ drop (at + length text) l
unfolding written
written-split text at l = sym (append_assoc (take at l) text _)

pub written-front : (text : List ℕ) (at : ℕ) (l : List ℕ) → at ≤ length l → take (at + length text) (written text at l) ≡ take at l ++ text
written-front text at l h = rw written-split (take_at (take at l ++ text) _ (at + length text) (front_length text at l h))

-- past the text the list is as it was
pub written-rest : (text : List ℕ) (at k : ℕ) (l : List ℕ) → at ≤ length l
    → drop (at + length text + k) (written text at l) ≡ drop (at + length text + k) l
written-rest text at k l h =
    sym (drop-drop k (at + length text) (written text at l))
    ∙ ap (drop k) (rw written-split (drop_at (take at l ++ text) _ (at + length text) (front_length text at l h)))
    ∙ drop-drop k (at + length text) l

pub written-length : (text : List ℕ) (at : ℕ) (l : List ℕ) → at + length text ≤ length l → length (written text at l) ≡ length l
written-length text at l h =
    ap length (written-split text at l)
    ∙ length-append (take at l ++ text) _
    ∙ rw (front_length text at l (omega arith), length-drop) (omega arith)

-- a text written where another ends
pub written_then : (t u : List ℕ) (at : ℕ) (l : List ℕ) → at + length t + length u ≤ length l
    → written u (at + length t) (written t at l) ≡ written (t ++ u) at l
written_then t u at l h =
    let b : at ≤ length l = omega arith in
    written-split u (at + length t) (written t at l)
    ∙ ap₂ (λ (x y : List ℕ). (x ++ u) ++ y) (written-front t at l b) (written-rest t at (length u) l b)
    ∙ ap₂ ◌++◌ (append_assoc (take at l) t u)
    (ap (λ (k : ℕ). drop k l) (add_assoc at (length t) (length u) ∙ ap (◌+◌ at) (sym (length-append t u))))
    ∙ sym (written-split (t ++ u) at l)

-- ---- functions that write

pub wrote_none : (at : ℕ) (l : List ℕ) → Wrote [] at at l l
wrote_none at l = record { end_is = sym (add-zero at); after_is = sym (written_none at l) }

-- one byte is stored
pub wrote-byte : (v at : ℕ) (l : List ℕ) → at < length l → Wrote (v ∷ []) at (at + 1) l (set l at v)
unfolding written
wrote-byte v at l h = record { end_is = refl; after_is = rw add-one (set_split l at v h) }

pub wrote_then : {t u : List ℕ} {a b c : ℕ} {x y z : List ℕ} → a + length t + length u ≤ length x → Wrote t a b x y → Wrote u b c y z
    → Wrote (t ++ u) a c x z
wrote_then {t} {u} {a} {b} {c} {x} {y} {z} h v w =
    record {
      end_is = w.end_is ∙ rw length-append (omega arith);
      after_is = w.after_is ∙ ap₂ (written u) v.end_is v.after_is ∙ written_then t u a x h;
    }

pub wrote-length : {t : List ℕ} {a b : ℕ} {x y : List ℕ} → Wrote t a b x y → a + length t ≤ length x → length y ≡ length x
wrote-length {t} {a} {b} {x} {y} w h = ap length w.after_is ∙ written-length t a x h

-- ---- what is put

pub fitting-room : (text : List ℕ) (at : ℕ) (l : List ℕ) → at + most_text ≤ length l → fitting text at l ≡ text
unfolding fitting
fitting-room text at l h = simp (le-leb (at + most_text) (length l) h)

pub fitting-none : (text : List ℕ) (at : ℕ) (l : List ℕ) → length l < at + most_text → fitting text at l ≡ []
unfolding fitting
fitting-none text at l h = simp (lt-leb (at + most_text) (length l) h)

-- ---- the lengths of texts

pub number-length : (n after : ℕ) → length (number_text n after) ≡ length (decimal n) + 1
unfolding number_text
number-length n after = length-append (decimal n) (after ∷ [])

pub number-most : (n after : ℕ) → length (number_text n after) ≤ most_number
number-most n after = omega (arith, number-length n after, decimal-most n)

pub six-length : (a b c d e f : ℕ) → length (six_text a b c d e f)
    ≡ length (decimal a) + length (decimal b) + length (decimal c) + length (decimal d) + length (decimal e) + length (decimal f) + 6
unfolding six_text
six-length a b c d e f = simp (length-append, number-length) (omega arith)

-- a number has at most 20 digits
pub six-most : (a b c d e f : ℕ) → length (six_text a b c d e f) ≤ most_text
six-most a b c d e f =
    omega (arith, six-length a b c d e f, decimal-most a, decimal-most b, decimal-most c, decimal-most d, decimal-most e, decimal-most f)

-- ---- a text at the front

-- what is written from the front on is read there, and ends inside
pub wrote-front : (text : List ℕ) {end : ℕ} {before after : List ℕ} → Wrote text 0 end before after → take end after ≡ text
wrote-front text {before = before} w = ap₂ take w.end_is w.after_is ∙ written-front text 0 before zero-le

pub wrote-fits : (text : List ℕ) {end : ℕ} {before after : List ℕ} → length text ≤ length before → Wrote text 0 end before after
    → end ≤ length after
wrote-fits text h w =
    let e = w.end_is in
    let l = wrote-length w (omega arith) in
    omega arith

-- so does an answer where there is room for any
pub answer-fits : (answer : Answer) {end : ℕ} {before after : List ℕ} → most_text ≤ length before
    → Wrote (fitting (answer_text answer) 0 before) 0 end before after → end ≤ length after
answer-fits r {before = before} room w =
    let e = ap length (fitting-room (answer_text r) 0 before (omega arith)) in
    let m = six-most r.code r.file r.a r.b r.c r.d in
    wrote-fits _ (omega arith) w
