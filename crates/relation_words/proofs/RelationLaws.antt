-- Laws of the relation as words: their bits are the relation that the rows give, for both sides; every one is a word; and the ones are the related pairs.
-- Assumes nothing.
use Prim.Native.Nat.{ℕ, zero, suc, ◌+◌, ◌^◌, ◌≤◌, ◌<◌, suc-le-suc, zero-le}
use mathlib.Core.Path.{◌≡◌, refl, sym, ap, ◌∙◌}
use mathlib.Core.Bool.{Bool, true, false, cond, ◌&&◌, ◌||◌}
use mathlib.Core.List.{List}
use native.Mathlib.Nat.{not-suc-le-zero, le_of_suc-le-suc}
use native.Mathlib.Numerals.{add-one}
use native.Mathlib.Omega.{arith}
use native.Mathlib.Decide.{ℕ_discrete, dec_lt}
use lib.Dec.{eqb, ltb}
use lib.ListN.{length, get_or}
use borrow.Author.Tests.{lt-ltb, le-ltb, eq-eqb, ne_eqb}
use Rattle.lists.specs.Below.{sum_below, count_below}
use Rattle.lists.proofs.BelowLaws.{sum-cong}
use Rattle.lists.proofs.BoolLaws.{not-T-false}
use Rattle.lists.proofs.FillLaws.{length-tabulate, get_or-tabulate, get_or-past}
use Rattle.words.specs.Bits.{has_bit, add_bit, count_bits}
use Rattle.words.proofs.BitLaws.{has-add-below, has-empty, has-lt}
use Rattle.certificates.specs.Layout.{row_of}
use Rattle.certificates.specs.CertificateModel.{AreBytes, related_in}
use Rattle.certificates.proofs.ModelLaws.{row_word_lem}
use Rattle.relation_words.specs.Relation.{row_word, row_words, column_word, column_words}

-- ---- the rows

module _ (rows : List ℕ) (n1 : ℕ) where
  pub rows-length : length (row_words rows n1) ≡ 64
  unfolding row_words
  rows-length = length-tabulate 64 (row_word rows n1)

  pub rows-word : (s : ℕ) → s < 64 → get_or (row_words rows n1) s 0 ≡ row_word rows n1 s
  unfolding row_words
  rows-word s h = get_or-tabulate 64 s (row_word rows n1) h

  pub rows-past : (s : ℕ) → n1 ≤ s → get_or (row_words rows n1) s 0 ≡ 0
  unfolding row_word
  rows-past s l = elim (dec_lt s 64) [
    | yes h ↦ rows-word s h ∙ ap (λ (b : Bool). cond b (row_of rows s) 0) (le-ltb s n1 l)
    | no h ↦ get_or-past (row_words rows n1) s (rw rows-length (omega arith))
  ]

  pub rows_row : (s : ℕ) → s < 64 → s < n1 → get_or (row_words rows n1) s 0 ≡ row_of rows s
  unfolding row_word
  rows_row s h l = rows-word s h ∙ ap (λ (b : Bool). cond b (row_of rows s) 0) (lt-ltb s n1 l)

  -- word s has t where s and t are related
  pub rows-has : (s t : ℕ) → s < 64 → has_bit (get_or (row_words rows n1) s 0) t ≡ related_in rows n1 s t
  unfolding related_in row_word
  rows-has s t h = ap (λ (w : ℕ). has_bit w t) (rows-word s h) ∙ go (ltb s n1)
    where
      go : (b : Bool) → has_bit (cond b (row_of rows s) 0) t ≡ (b && has_bit (row_of rows s) t)
      go true = refl
      go false = has-empty t

  -- for any two states, where there are at most 64 rows
  pub rows-related : n1 ≤ 64 → (s t : ℕ) → has_bit (get_or (row_words rows n1) s 0) t ≡ related_in rows n1 s t
  unfolding related_in
  rows-related few s t = elim (dec_lt s 64) [
    | yes h ↦ rows-has s t h
    | no h ↦ ap (λ (w : ℕ). has_bit w t) (rows-past s (omega arith)) ∙ has-empty t ∙ sym (rw (le-ltb s n1 (omega arith)))
  ]

  module _ (bytes : AreBytes rows) where
    row-word-fits : (s : ℕ) → row_word rows n1 s < 2 ^ 64
    unfolding row_word
    row-word-fits s = go (ltb s n1)
      where
        go : (b : Bool) → cond b (row_of rows s) 0 < 2 ^ 64
        go true = row_word_lem rows s bytes
        go false = omega arith

    -- every one is a word
    pub rows_fit : (s : ℕ) → get_or (row_words rows n1) s 0 < 2 ^ 64
    rows_fit s = elim (dec_lt s 64) [
      | yes h ↦ rw (rows-word s h) (row-word-fits s)
      | no h ↦ rw (get_or-past (row_words rows n1) s (rw rows-length (omega arith))) (omega arith)
    ]

-- ---- the columns

module _ (words : List ℕ) where
  pub columns-length : length (column_words words) ≡ 64
  unfolding column_words
  columns-length = length-tabulate 64 (λ t. column_word words t 64)

  pub columns-word : (t : ℕ) → t < 64 → get_or (column_words words) t 0 ≡ column_word words t 64
  unfolding column_words
  columns-word t h = get_or-tabulate 64 t (λ t. column_word words t 64) h

  -- one state more
  module _ (t n : ℕ) where
    pub column-in : has_bit (get_or words n 0) t ≡ true → add_bit (column_word words t n) n ≡ column_word words t (n + 1)
    unfolding column_word
    column-in e = rw add-one (sym (rw e))

    pub column-out : has_bit (get_or words n 0) t ≡ false → column_word words t n ≡ column_word words t (n + 1)
    unfolding column_word
    column-out e = rw (add-one n) (sym (rw e))

  column-has : (t n : ℕ) → n ≤ 64 → (s : ℕ) → has_bit (column_word words t n) s ≡ (ltb s n && has_bit (get_or words s 0) t)
  unfolding column_word
  column-has t zero h s = has-empty s ∙ sym (rw (le-ltb s 0 (omega arith)))
  column-has t (suc n) h s = go (has_bit (get_or words n 0) t) refl (column-has t n (omega arith) s)
    where
      go : (b : Bool) → has_bit (get_or words n 0) t ≡ b → has_bit (column_word words t n) s ≡ (ltb s n && has_bit (get_or words s 0) t)
          → has_bit (cond b (add_bit (column_word words t n) n) (column_word words t n)) s ≡ (ltb s (suc n) && has_bit (get_or words s 0) t)
      go true e before = has-add-below (column_word words t n) n s (omega arith) ∙ ap (λ (x : Bool). eqb s n || x) before ∙ elim (ℕ_discrete s n) [
        | yes q ↦ rw (q, eq-eqb n n refl, lt-ltb n (suc n) (omega arith), e)
        | no q ↦ elim (dec_lt s n) [
          | yes l ↦ rw (ne_eqb s n q, lt-ltb s n l, lt-ltb s (suc n) (omega arith))
          | no l ↦ rw (ne_eqb s n q, le-ltb s n (omega arith), le-ltb s (suc n) (omega arith))
        ]
      ]
      go false e before = before ∙ elim (ℕ_discrete s n) [
        | yes q ↦ rw (q, le-ltb n n (omega arith), lt-ltb n (suc n) (omega arith), e)
        | no q ↦ elim (dec_lt s n) [
          | yes l ↦ rw (lt-ltb s n l, lt-ltb s (suc n) (omega arith))
          | no l ↦ rw (le-ltb s n (omega arith), le-ltb s (suc n) (omega arith))
        ]
      ]

  -- word t has s where s is below 64 and its word has t
  pub columns-has : (t s : ℕ) → t < 64 → has_bit (get_or (column_words words) t 0) s ≡ (ltb s 64 && has_bit (get_or words s 0) t)
  columns-has t s h = ap (λ (w : ℕ). has_bit w s) (columns-word t h) ∙ column-has t 64 (omega arith) s

-- ---- the columns of the rows

module _ (rows : List ℕ) (n1 : ℕ) (few : n1 ≤ 64) where
  -- word t has s where s and t are related
  pub columns-related : (t s : ℕ) → t < 64 → has_bit (get_or (column_words (row_words rows n1)) t 0) s ≡ related_in rows n1 s t
  columns-related t s h = columns-has (row_words rows n1) t s h ∙ elim (dec_lt s 64) [
    | yes l ↦ rw (lt-ltb s 64 l) (rows-related rows n1 few s t)
    | no l ↦ rw (le-ltb s 64 (omega arith)) (sym (has-empty t) ∙ sym (ap (λ (w : ℕ). has_bit w t) (rows-past rows n1 s (omega arith)))
        ∙ rows-related rows n1 few s t)
  ]

  -- for any two states, where the rows are bytes
  pub columns-flipped : AreBytes rows → (t s : ℕ) → has_bit (get_or (column_words (row_words rows n1)) t 0) s ≡ related_in rows n1 s t
  columns-flipped bytes t s = elim (dec_lt t 64) [
    | yes h ↦ columns-related t s h
    | no h ↦
        ap (λ (w : ℕ). has_bit w s) (get_or-past (column_words (row_words rows n1)) t (rw columns-length (omega arith))) ∙ has-empty s
        ∙ sym (not-T-false _ (λ b. h (has-lt (get_or (row_words rows n1) s 0) t (rows_fit rows n1 bytes s) b))) ∙ rows-related rows n1 few s t
  ]

-- ---- the ones

-- nothing is added from n on
sum-shrink : (n m : ℕ) (f : ℕ → ℕ) → n ≤ m → ((i : ℕ) → n ≤ i → i < m → f i ≡ 0) → sum_below m f ≡ sum_below n f
unfolding sum_below
sum-shrink zero zero f h none = refl
sum-shrink zero (suc m) f h none =
    let e = none 0 zero-le (suc-le-suc zero-le) in
    let q = sum-shrink zero m (λ i. f (suc i)) zero-le (λ i b l. none (suc i) zero-le (suc-le-suc l)) in
    omega arith
sum-shrink (suc n) zero f h none = absurd (not-suc-le-zero h)
sum-shrink (suc n) (suc m) f h none =
    ap (λ (k : ℕ). f 0 + k) (sum-shrink n m (λ i. f (suc i)) (le_of_suc-le-suc h) (λ i b l. none (suc i) (suc-le-suc b) (suc-le-suc l)))

empty-count : count_bits 0 ≡ 0
unfolding count_bits count_below sum_below has_bit
empty-count = refl

-- the ones of all words are those of the rows
pub rows-ones : (rows : List ℕ) (n1 : ℕ) → n1 ≤ 64 → sum_below 64 (λ s. count_bits (get_or (row_words rows n1) s 0)) ≡ sum_below n1 (λ s. count_bits (row_of rows s))
rows-ones rows n1 few =
    sum-shrink n1 64 (λ s. count_bits (get_or (row_words rows n1) s 0)) few (λ s b l. ap count_bits (rows-past rows n1 s b) ∙ empty-count)
    ∙ sum-cong n1 _ _ (λ s l. ap count_bits (rows_row rows n1 s (omega arith) l))
