-- Laws of numbers in decimal. The key idea: digits that are allowed and not used change nothing, so a number that fits has the digits of its tenth and
-- then its last digit. Its bytes are digits, they say the number, and none is a zero in front. Assumes nothing.
use Prim.Native.Nat.{ℕ, zero, suc, ◌+◌, ◌*◌, ◌^◌, ◌-◌, ◌/◌, ◌%◌, ◌≤◌, ◌<◌}
use mathlib.Core.Path.{◌≡◌, refl, sym, ap, ◌∙◌}
use mathlib.Core.List.{List, [], ◌∷◌, ◌++◌}
use native.Mathlib.Decide.{dec_lt}
use native.Mathlib.Nat.{le_refl, pow-suc, zero-lt-suc, div-lt_iff_lt-mul, le-div_iff_mul-le, div-add-mod', mod-lt}
use native.Mathlib.Omega.{arith}
use lib.ListN.{length, get_or, length-append, get_or-append}
use borrow.Author.Tests.{lt-ltb, le-ltb}
use Rattle.lists.specs.Lists.{All}
use Rattle.lists.proofs.JoinLaws.{all_append}
use Rattle.texts.specs.Texts.{digit, decimal_within, decimal, value_after, value_of}

-- ---- one digit more

-- below 10 there is one digit, and from 10 on the tenth and the last digit, as far as digits are allowed
within-one : (k n : ℕ) → n < 10 → decimal_within k n ≡ digit n ∷ []
unfolding decimal_within
within-one zero n h = refl
within-one (suc k) n h = simp (lt-ltb n 10 h)

within_more : (k n : ℕ) → 10 ≤ n → decimal_within (suc k) n ≡ decimal_within k (n / 10) ++ (digit (n % 10) ∷ [])
unfolding decimal_within
within_more k n h = simp (le-ltb n 10 h)

-- the tenth of a number that has one digit more
tenth-lt : (k n : ℕ) → n < 10 ^ suc (suc k) → n / 10 < 10 ^ suc k
tenth-lt k n h = (div-lt_iff_lt-mul (zero-lt-suc 9)).1 (rw pow-suc at h)

-- a digit that is allowed and not needed changes nothing
within_same : (k n : ℕ) → n < 10 ^ suc k → decimal_within (suc k) n ≡ decimal_within k n
within_same zero n h = within-one 1 n h ∙ sym (within-one 0 n h)
within_same (suc k) n h = elim (dec_lt n 10) [
  | yes l ↦ within-one (suc (suc k)) n l ∙ sym (within-one (suc k) n l)
  | no l ↦
      within_more (suc k) n (omega arith)
      ∙ ap (λ (x : List ℕ). x ++ (digit (n % 10) ∷ [])) (within_same k (n / 10) (tenth-lt k n h))
      ∙ sym (within_more k n (omega arith))
]

-- a number of 64 bits has the digits of its tenth and then its last digit
pub decimal-more : (n : ℕ) → 10 ≤ n → n < 2 ^ 64 → decimal n ≡ decimal (n / 10) ++ (digit (n % 10) ∷ [])
unfolding decimal
decimal-more n l h =
    within_more 18 n l
    ∙ ap (λ (x : List ℕ). x ++ (digit (n % 10) ∷ [])) (sym (within_same 18 (n / 10) (tenth-lt 18 n (omega arith))))

-- ---- how many digits

pub decimal-is-one : (n : ℕ) → n < 10 → decimal n ≡ digit n ∷ []
unfolding decimal
decimal-is-one n h = within-one 19 n h

pub decimal-one : (n : ℕ) → n < 10 → length (decimal n) ≡ 1
decimal-one n h = ap length (decimal-is-one n h)

within-length : (k n : ℕ) → length (decimal_within k n) ≤ suc k
unfolding decimal_within
within-length zero n = le_refl 1
within-length (suc k) n = elim (dec_lt n 10) [
  | yes l ↦ rw (lt-ltb n 10 l) (omega arith)
  | no l ↦ rw (le-ltb n 10 (omega arith), length-append) (let b = within-length k (n / 10) in omega arith)
]

pub decimal-most : (n : ℕ) → length (decimal n) ≤ 20
unfolding decimal
decimal-most n = within-length 19 n

-- one digit more than the tenth has
pub decimal-longer : (n : ℕ) → 10 ≤ n → n < 2 ^ 64 → length (decimal n) ≡ length (decimal (n / 10)) + 1
decimal-longer n l h = ap length (decimal-more n l h) ∙ length-append (decimal (n / 10)) _

pub decimal-two : (n : ℕ) → n < 100 → length (decimal n) ≤ 2
decimal-two n h = elim (dec_lt n 10) [
  | yes l ↦ omega (arith, decimal-one n l)
  | no l ↦ omega (arith, decimal-longer n (omega arith) (omega arith), decimal-one (n / 10) ((div-lt_iff_lt-mul (zero-lt-suc 9)).1 h))
]

pub decimal-three : (n : ℕ) → n < 1000 → length (decimal n) ≤ 3
decimal-three n h = elim (dec_lt n 10) [
  | yes l ↦ omega (arith, decimal-one n l)
  | no l ↦ omega (arith, decimal-longer n (omega arith) (omega arith), decimal-two (n / 10) ((div-lt_iff_lt-mul (zero-lt-suc 9)).1 h))
]

-- ---- every byte is a digit

within-digits : (k n : ℕ) → n < 10 ^ suc k → All (λ x. (digit 0 ≤ x) × (x ≤ digit 9)) (decimal_within k n)
unfolding decimal_within
within-digits zero n h = ((omega arith, omega arith), tt)
within-digits (suc k) n h = elim (dec_lt n 10) [
  | yes l ↦ rw (lt-ltb n 10 l) ((omega arith, omega arith), tt)
  | no l ↦
      let m = mod-lt n (zero-lt-suc 9) in
      rw (le-ltb n 10 (omega arith))
      (all_append _ (decimal_within k (n / 10)) _ (within-digits k (n / 10) (tenth-lt k n h)) ((omega arith, omega arith), tt))
]

pub decimal-digits : (n : ℕ) → n < 2 ^ 64 → All (λ x. (digit 0 ≤ x) × (x ≤ digit 9)) (decimal n)
unfolding decimal
decimal-digits n h = within-digits 19 n (omega arith)

-- ---- the digits say the number

value-append : (v : ℕ) (xs ys : List ℕ) → value_after v (xs ++ ys) ≡ value_after (value_after v xs) ys
unfolding value_after
value-append v [] ys = refl
value-append v (x ∷ xs) ys = value-append (v * 10 + (x - digit 0)) xs ys

within-back : (k n : ℕ) → n < 10 ^ suc k → value_after 0 (decimal_within k n) ≡ n
unfolding value_after
within-back zero n h = ap (value_after 0) (within-one 0 n h) ∙ omega arith
within-back (suc k) n h = elim (dec_lt n 10) [
  | yes l ↦ ap (value_after 0) (within-one (suc k) n l) ∙ omega arith
  | no l ↦
      ap (value_after 0) (within_more k n (omega arith))
      ∙ value-append 0 (decimal_within k (n / 10)) (digit (n % 10) ∷ [])
      ∙ omega (arith, within-back k (n / 10) (tenth-lt k n h), div-add-mod' n 10)
]

pub decimal-back : (n : ℕ) → n < 2 ^ 64 → value_of (decimal n) ≡ n
unfolding decimal value_of
decimal-back n h = within-back 19 n (omega arith)

-- ---- no zero in front

within-some : (k n : ℕ) → 0 < length (decimal_within k n)
unfolding decimal_within
within-some zero n = zero-lt-suc 0
within-some (suc k) n = elim (dec_lt n 10) [
  | yes l ↦ rw (lt-ltb n 10 l) (zero-lt-suc 0)
  | no l ↦ rw (le-ltb n 10 (omega arith), length-append) (omega arith)
]

within_first : (k n : ℕ) → 0 < n → digit 0 < get_or (decimal_within k n) 0 0
unfolding decimal_within
within_first zero n h = omega arith
within_first (suc k) n h = elim (dec_lt n 10) [
  | yes l ↦ rw (within-one (suc k) n l) (omega arith)
  | no l ↦
      rw (within_more k n (omega arith), get_or-append (decimal_within k (n / 10)) _ 0 0 (within-some k (n / 10)))
      (within_first k (n / 10) ((le-div_iff_mul-le (zero-lt-suc 9)).1 (omega arith)))
]

-- no number but 0 has a zero in front
pub decimal-first : (n : ℕ) → 0 < n → ¬ (get_or (decimal n) 0 0 ≡ digit 0)
unfolding decimal
decimal-first n h e = let b = within_first 19 n h in omega arith
