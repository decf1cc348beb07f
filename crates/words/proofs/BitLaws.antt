-- Laws of the bits of a word: which bits each operation leaves, what the machine's counts give, and that its bits make the word.
-- Assumes nothing.
use Prim.Native.Nat.{ℕ, zero, suc, ◌+◌, ◌*◌, ◌/◌, ◌%◌, ◌^◌, ◌-◌, ◌≤◌, ◌<◌, zero-le, suc-le-suc}
use mathlib.Core.Path.{◌≡◌, refl, sym, ap, ap₂, ◌∙◌, subst}
use mathlib.Core.Logic.{⊎_elim}
use mathlib.Core.Bool.{Bool, true, false, cond, not, ◌&&◌, ◌||◌, and_comm, false≢true}
use native.Mathlib.Nat.{
  div-one,
  div-eq_of_lt,
  zero-div,
  mod-lt,
  mul-mod_left,
  mod-eq_of_lt,
  one-mul,
  lt_of_lt_of_le,
  lt_of_le_of_lt,
  zero-lt-suc,
  le_of_suc-le-suc,
  not-suc-le-zero,
  pow-suc,
  mul-div_cancel,
  div-add-mod',
}
use native.Mathlib.Numerals.{one-add, add-one}
use native.Mathlib.Omega.{arith}
use native.Mathlib.Decide.{ℕ_discrete, dec_lt}
use lib.Dec.{T, T_not, not_T, leb, leb→le, le→leb, eqb→eq, eqb, ltb, eqb_refl, eqb-zero-suc, eqb-suc-zero, eqb-suc-suc}
use lib.Bits.{bit_and, bit_or, bit_xor, and_shr, or_shr, xor_shr, and_mod, or_mod, xor_mod, and_le_l, or_lt, xor_lt}
use lib.Pow.{pow_mono, pow-lt, shr-shr, shr_lt, shr_le}
use lib.Arith.{lt-one}
use lib.Count.{ones, ones_step, count_trailing_zeros, under}
use borrow.Author.Tests.{ltb-true, ltb-false, eqb-true, lt-ltb, eq-eqb, ne_eqb}
use Rattle.lists.specs.Below.{first_below, sum_below, count_below}
use Rattle.lists.proofs.BoolLaws.{and_l, and_r, and_i, T-dec, T_true, not-T-false, false-not-T, same-T, eq→eqb}
use Rattle.lists.proofs.BelowLaws as below
use Rattle.words.specs.Bits.{has_bit, has_from, add_bit, remove_bit, without_bits, count_bits, first_bit}

two_pos : zero < 2
two_pos = zero-lt-suc 1

half_lt : (k x : ℕ) → x < 2 ^ suc k → x / 2 < 2 ^ k
half_lt k x h = shr_lt k 1 (subst (λ (n : ℕ). x < 2 ^ n) (sym (add-one k)) h)

-- ---- one bit

-- bit 0 is the low digit
pub has-zero : (x : ℕ) → has_bit x 0 ≡ eqb (x % 2) 1
unfolding has_bit
has-zero x = ap (λ (n : ℕ). eqb (n % 2) 1) (div-one x)

-- the other bits are those of the half
pub has-suc : (x t : ℕ) → has_bit x (suc t) ≡ has_bit (x / 2) t
unfolding has_bit
has-suc x t = ap (λ (n : ℕ). eqb (n % 2) 1) (ap (λ (k : ℕ). x / 2 ^ k) (sym (one-add t)) ∙ sym (shr-shr x 1 t))

-- a number below 2 to the k has no bit k or more
pub has-high : (x k t : ℕ) → x < 2 ^ k → k ≤ t → has_bit x t ≡ false
unfolding has_bit
has-high x k t h l = ap (λ (n : ℕ). eqb (n % 2) 1) (div-eq_of_lt (lt_of_lt_of_le h (pow_mono l)))

pub has-empty : (t : ℕ) → has_bit 0 t ≡ false
unfolding has_bit
has-empty t = ap (λ (n : ℕ). eqb (n % 2) 1) (zero-div (2 ^ t))

-- a bit of a word is below 64
pub has-lt : (x t : ℕ) → x < 2 ^ 64 → T (has_bit x t) → t < 64
has-lt x t h b = elim (dec_lt t 64) [ yes p ↦ p | no q ↦ absurd (false-not-T (has_bit x t) (has-high x 64 t h (omega arith)) b) ]

-- ---- the operations, digit by digit

module _ (op : ℕ → ℕ → ℕ) (f : Bool → Bool → Bool)
    (shr : (a b k : ℕ) → op a b / 2 ^ k ≡ op (a / 2 ^ k) (b / 2 ^ k))
    (low : (a b k : ℕ) → op a b % 2 ^ k ≡ op (a % 2 ^ k) (b % 2 ^ k))
    (digit : (d e : ℕ) → d < 2 → e < 2 → eqb (op d e) 1 ≡ f (eqb d 1) (eqb e 1)) where
  has-op : (a b u : ℕ) → has_bit (op a b) u ≡ f (has_bit a u) (has_bit b u)
  unfolding has_bit
  has-op a b u =
      ap (λ (n : ℕ). eqb (n % 2) 1) (shr a b u) ∙ ap (λ (n : ℕ). eqb n 1) (low (a / 2 ^ u) (b / 2 ^ u) 1)
      ∙ digit (a / 2 ^ u % 2) (b / 2 ^ u % 2) (mod-lt (a / 2 ^ u) two_pos) (mod-lt (b / 2 ^ u) two_pos)

-- what holds of 0 and 1 holds of a digit
digits : (P : ℕ → ℕ → Type 0) → P 0 0 → P 0 1 → P 1 0 → P 1 1 → (d e : ℕ) → d < 2 → e < 2 → P d e
digits P a b c d zero zero h k = a
digits P a b c d zero (suc zero) h k = b
digits P a b c d zero (suc (suc e)) h k = absurd (not-suc-le-zero (le_of_suc-le-suc (le_of_suc-le-suc k)))
digits P a b c d (suc zero) zero h k = c
digits P a b c d (suc zero) (suc zero) h k = d
digits P a b c d (suc zero) (suc (suc e)) h k = absurd (not-suc-le-zero (le_of_suc-le-suc (le_of_suc-le-suc k)))
digits P a b c d (suc (suc n)) e h k = absurd (not-suc-le-zero (le_of_suc-le-suc (le_of_suc-le-suc h)))

abbrev differs : Bool → Bool → Bool
differs true b = not b
differs false b = b

-- the bits that either word has
pub has-or : (a b u : ℕ) → has_bit (bit_or a b) u ≡ (has_bit a u || has_bit b u)
has-or = has-op bit_or ◌||◌ or_shr or_mod (digits (λ d e. eqb (bit_or d e) 1 ≡ (eqb d 1 || eqb e 1)) refl refl refl refl)

-- the bits that both words have
pub has_both : (x y u : ℕ) → has_bit (bit_and x y) u ≡ (has_bit x u && has_bit y u)
has_both = has-op bit_and ◌&&◌ and_shr and_mod (digits (λ d e. eqb (bit_and d e) 1 ≡ (eqb d 1 && eqb e 1)) refl refl refl refl)

has-xor : (a b u : ℕ) → has_bit (bit_xor a b) u ≡ differs (has_bit a u) (has_bit b u)
has-xor = has-op bit_xor differs xor_shr xor_mod (digits (λ d e. eqb (bit_xor d e) 1 ≡ differs (eqb d 1) (eqb e 1)) refl refl refl refl)

-- the one bit of 2 to the t
pub has-power : (t u : ℕ) → has_bit (2 ^ t) u ≡ eqb u t
has-power zero zero = has-zero 1
has-power zero (suc u) = has-suc 1 u ∙ has-empty u ∙ sym (eqb-suc-zero u)
has-power (suc t) zero =
    has-zero (2 ^ suc t) ∙ ap (λ (n : ℕ). eqb n 1) (ap (λ (n : ℕ). n % 2) (pow-suc 2 t) ∙ mul-mod_left (2 ^ t) 2) ∙ sym (eqb-zero-suc t)
has-power (suc t) (suc u) =
    has-suc (2 ^ suc t) u ∙ ap (λ (n : ℕ). has_bit n u) (ap (λ (n : ℕ). n / 2) (pow-suc 2 t) ∙ mul-div_cancel (2 ^ t) two_pos)
    ∙ has-power t u ∙ sym (eqb-suc-suc u t)

or-flip : (a b : Bool) → (a || b) ≡ (b || a)
or-flip true true = refl
or-flip true false = refl
or-flip false true = refl
or-flip false false = refl

-- adding t sets bit t, where a word has one, and leaves the others
pub has-add : (x t u : ℕ) → has_bit (add_bit x t) u ≡ (ltb t 64 && eqb u t || has_bit x u)
unfolding add_bit
has-add x t u = go (ltb t 64)
  where
    go : (b : Bool) → has_bit (cond b (bit_or x (2 ^ t)) x) u ≡ (b && eqb u t || has_bit x u)
    go true = has-or x (2 ^ t) u ∙ ap (λ (b : Bool). has_bit x u || b) (has-power t u) ∙ or-flip (has_bit x u) (eqb u t)
    go false = refl

pub has-add-below : (x t u : ℕ) → t < 64 → has_bit (add_bit x t) u ≡ (eqb u t || has_bit x u)
has-add-below x t u h = has-add x t u ∙ ap (λ (b : Bool). b && eqb u t || has_bit x u) (lt-ltb t 64 h)

cleared : (a b : Bool) → differs a (a && b) ≡ (not b && a)
cleared true true = refl
cleared true false = refl
cleared false true = refl
cleared false false = refl

-- removing t clears bit t and leaves the others
pub has-remove : (x t u : ℕ) → x < 2 ^ 64 → has_bit (remove_bit x t) u ≡ (not (eqb u t) && has_bit x u)
unfolding remove_bit
has-remove x t u h = go (ltb t 64) refl
  where
    -- a word has no bit of 64 or more
    stays : (b : Bool) → eqb u t ≡ b → 64 ≤ t → has_bit x u ≡ (not b && has_bit x u)
    stays true e l = has-high x 64 u h (rw (eqb-true u t e) l)
    stays false e l = refl

    go : (b : Bool) → ltb t 64 ≡ b → has_bit (cond b (bit_xor x (bit_and x (2 ^ t))) x) u ≡ (not (eqb u t) && has_bit x u)
    go true e =
        has-xor x (bit_and x (2 ^ t)) u ∙ ap (differs (has_bit x u)) (has_both x (2 ^ t) u ∙ ap (λ (b : Bool). has_bit x u && b) (has-power t u))
        ∙ cleared (has_bit x u) (eqb u t)
    go false e = stays (eqb u t) refl (ltb-false t 64 e)

-- the bits of the first word that the second has not
pub has-without : (x y u : ℕ) → has_bit (without_bits x y) u ≡ (has_bit x u && not (has_bit y u))
unfolding without_bits
has-without x y u =
    has-xor x (bit_and x y) u ∙ ap (differs (has_bit x u)) (has_both x y u) ∙ cleared (has_bit x u) (has_bit y u)
    ∙ and_comm (not (has_bit y u)) (has_bit x u)

-- ---- the results are words

pub add-word : (x t : ℕ) → x < 2 ^ 64 → add_bit x t < 2 ^ 64
unfolding add_bit
add-word x t h = go (ltb t 64) refl
  where
    go : (b : Bool) → ltb t 64 ≡ b → cond b (bit_or x (2 ^ t)) x < 2 ^ 64
    go true e = or_lt 64 x (2 ^ t) h (pow-lt (ltb-true t 64 e))
    go false e = h

pub remove-word : (x t : ℕ) → x < 2 ^ 64 → remove_bit x t < 2 ^ 64
unfolding remove_bit
remove-word x t h = go (ltb t 64)
  where
    go : (b : Bool) → cond b (bit_xor x (bit_and x (2 ^ t))) x < 2 ^ 64
    go true = xor_lt 64 x (bit_and x (2 ^ t)) h (lt_of_le_of_lt (and_le_l x (2 ^ t)) h)
    go false = h

pub without-word : (x y : ℕ) → x < 2 ^ 64 → without_bits x y < 2 ^ 64
unfolding without_bits
without-word x y h = xor_lt 64 x (bit_and x y) h (lt_of_le_of_lt (and_le_l x y) h)

pub both_word : (x y : ℕ) → x < 2 ^ 64 → bit_and x y < 2 ^ 64
both_word x y h = lt_of_le_of_lt (and_le_l x y) h

pub or_word : (x y : ℕ) → x < 2 ^ 64 → y < 2 ^ 64 → bit_or x y < 2 ^ 64
or_word x y h k = or_lt 64 x y h k

-- ---- the machine's counts

digit-count : (d : ℕ) → d < 2 → d ≡ cond (eqb d 1) 1 0
digit-count zero h = refl
digit-count (suc zero) h = refl
digit-count (suc (suc d)) h = absurd (not-suc-le-zero (le_of_suc-le-suc (le_of_suc-le-suc h)))

ones_below : (k x : ℕ) → x < 2 ^ k → ones x ≡ count_below k (has_bit x)
unfolding count_below sum_below ones
ones_below zero x h = ap ones (lt-one h)
ones_below (suc k) x h =
    ones_step x
    ∙ ap₂ ◌+◌
    (digit-count (x % 2) (mod-lt x two_pos) ∙ ap (λ (b : Bool). cond b 1 0) (sym (has-zero x)))
    (ones_below k (x / 2) (half_lt k x h) ∙ below.count-cong k _ _ (λ t l. sym (has-suc x t)))

-- the machine's count of ones is the number of states
pub ones-count : (x : ℕ) → x < 2 ^ 64 → ones x ≡ count_bits x
unfolding count_bits
ones-count x h = ones_below 64 x h

digit-under : (d : ℕ) → d < 2 → (n : ℕ) → under d n ≡ cond (eqb d 1) 0 (suc n)
digit-under zero h n = refl
digit-under (suc zero) h n = refl
digit-under (suc (suc d)) h n = absurd (not-suc-le-zero (le_of_suc-le-suc (le_of_suc-le-suc h)))

zeros-below : (k x : ℕ) → count_trailing_zeros k x ≡ first_below k (has_bit x)
unfolding first_below count_trailing_zeros
zeros-below zero x = refl
zeros-below (suc k) x =
    digit-under (x % 2) (mod-lt x two_pos) (count_trailing_zeros k (x / 2))
    ∙ ap₂ (λ (b : Bool) (n : ℕ). cond b 0 (suc n)) (sym (has-zero x)) (zeros-below k (x / 2) ∙ below.first_cong k _ _ (λ t l. sym (has-suc x t)))

-- the zeros below the lowest set bit are as many as its state says
pub zeros-first : (x : ℕ) → count_trailing_zeros 64 x ≡ first_bit x
unfolding first_bit
zeros-first x = zeros-below 64 x

-- ---- the first bit

-- below 64, it is a bit of the word
pub first-has : (x : ℕ) → first_bit x < 64 → T (has_bit x (first_bit x))
unfolding first_bit
first-has x h = below.first_passes 64 (has_bit x) h

-- no smaller one is a bit of the word
pub first-least : (x t : ℕ) → t < first_bit x → T (has_bit x t) → ⊥
unfolding first_bit
first-least x t l h = below.first-least 64 (has_bit x) t l h

-- where it is 64, the word has no bit
pub first-none : (x : ℕ) → first_bit x ≡ 64 → (t : ℕ) → x < 2 ^ 64 → T (has_bit x t) → ⊥
first-none x e t h b = first-least x t (rw e (has-lt x t h b)) b

pub first-bound : (x : ℕ) → first_bit x ≤ 64
unfolding first_bit
first-bound x = below.first-bound 64 (has_bit x)

-- once the first state is taken out, the next is a greater one
pub first-rises : (x t : ℕ) → x < 2 ^ 64 → t ≡ first_bit x → t < 64 → t < first_bit (remove_bit x t)
first-rises x t fits e h = elim (dec_lt t (first_bit (remove_bit x t))) [
  | yes p ↦ p
  | no p ↦ absurd (no-smaller (omega arith))
]
  where
    no-smaller : first_bit (remove_bit x t) ≤ t → ⊥
    no-smaller l =
        let k = first_bit (remove_bit x t) in
        let b = subst T (has-remove x t k fits) (first-has (remove_bit x t) (omega arith)) in
        elim (ℕ_discrete k t) [
          | yes q ↦ (let z = subst (λ (c : Bool). T (not c && has_bit x k)) (eq-eqb k t q) b in z)
          | no q ↦ first-least x k (rw (← e) (omega arith)) (and_r (not (eqb k t)) (has_bit x k) b)
        ]

-- ---- a word is its bits

digit-equal : (d e : ℕ) → d < 2 → e < 2 → eqb d 1 ≡ eqb e 1 → d ≡ e
digit-equal = digits (λ d e. eqb d 1 ≡ eqb e 1 → d ≡ e) (λ q. refl) (λ q. absurd (false≢true q)) (λ q. absurd (false≢true (sym q))) (λ q. refl)

numbers-equal : (k x y : ℕ) → x < 2 ^ k → y < 2 ^ k → ((t : ℕ) → t < k → has_bit x t ≡ has_bit y t) → x ≡ y
numbers-equal zero x y h l same = lt-one h ∙ sym (lt-one l)
numbers-equal (suc k) x y h l same =
    sym (div-add-mod' x 2)
    ∙ ap₂ (λ (a d : ℕ). a * 2 + d)
    (numbers-equal k (x / 2) (y / 2) (half_lt k x h) (half_lt k y l) (λ t b. sym (has-suc x t) ∙ same (suc t) (suc-le-suc b) ∙ has-suc y t))
    (digit-equal (x % 2) (y % 2) (mod-lt x two_pos) (mod-lt y two_pos) (sym (has-zero x) ∙ same 0 (suc-le-suc zero-le) ∙ has-zero y))
    ∙ div-add-mod' y 2

-- words with the same bits are equal
pub words-equal : (x y : ℕ) → x < 2 ^ 64 → y < 2 ^ 64 → ((t : ℕ) → t < 64 → has_bit x t ≡ has_bit y t) → x ≡ y
words-equal x y = numbers-equal 64 x y

-- ---- bits of n or more

-- the bits from n on are those of the word shifted down by n
pub has-shift : (x n t : ℕ) → has_bit (x / 2 ^ n) t ≡ has_bit x (n + t)
unfolding has_bit
has-shift x n t = ap (λ (k : ℕ). eqb (k % 2) 1) (shr-shr x n t)

-- a word that has no state of n or more has only states below n
pub from-none : (x n : ℕ) → (T (has_from x n) → ⊥) → x < 2 ^ 64 → (t : ℕ) → T (has_bit x t) → t < n
unfolding has_from
from-none x n none h t b = elim (dec_lt t n) [
  | yes p ↦ p
  | no q ↦ absurd (none (below.any-i 64 _ t (has-lt x t h b) (and_i (leb n t) (has_bit x t) (le→leb n t (omega arith)) b)))
]

-- a word with only states below n has no state of n or more
pub none_from : (x n : ℕ) → ((t : ℕ) → T (has_bit x t) → t < n) → T (has_from x n) → ⊥
unfolding has_from
none_from x n small h =
    let r = below.any-e 64 _ h in
    let l = leb→le n r.0 (and_l (leb n r.0) _ r.2) in
    let k = small r.0 (and_r (leb n r.0) _ r.2) in
    omega arith

-- no state is 64 or more
pub from-64 : (x n : ℕ) → x < 2 ^ 64 → 64 ≤ n → has_from x n ≡ false
from-64 x n h l = not-T-false (has_from x n) (none_from x n (λ t b. omega (arith, has-lt x t h b)))

-- a state of n or more is told by the word shifted down by n
pub from-shift : (x n : ℕ) → x < 2 ^ 64 → has_from x n ≡ not (eqb (x / 2 ^ n) 0)
from-shift x n h = same-T (has_from x n) (not (eqb (x / 2 ^ n) 0)) some zero_or
  where
    some : T (has_from x n) → T (not (eqb (x / 2 ^ n) 0))
    some b = not_T (eqb (x / 2 ^ n) 0) (λ z.
        let e = eqb→eq (x / 2 ^ n) 0 z in
        none_from x n (λ t c. elim (dec_lt t n) [
          | yes p ↦ p
          | no q ↦
              let d : n + (t - n) ≡ t = omega arith in
              absurd (false-not-T (has_bit 0 (t - n)) (has-empty (t - n)) (subst (λ (k : ℕ). T (has_bit k (t - n))) e (rw (has-shift x n (t - n), d) c)))
        ]) b)

    zero_or : T (not (eqb (x / 2 ^ n) 0)) → T (has_from x n)
    zero_or b = ⊎_elim (λ c. c) (λ none. absurd (T_not (eqb (x / 2 ^ n) 0) b (eq→eqb (x / 2 ^ n) 0
        (words-equal (x / 2 ^ n) 0 (lt_of_le_of_lt (shr_le x n) h) (zero-lt-suc _)
        (λ t l. has-shift x n t ∙ not-T-false (has_bit x (n + t)) (λ c. omega (arith, from-none x n none h (n + t) c)) ∙ sym (has-empty t))))))
        (T-dec (has_from x n))

-- ---- one state less

-- removing a state that the word has leaves one state less
pub count-remove : (x t : ℕ) → x < 2 ^ 64 → T (has_bit x t) → count_bits (remove_bit x t) + 1 ≡ count_bits x
unfolding count_bits
count-remove x t h b =
    below.count_less 64 (has_bit (remove_bit x t)) (has_bit x) t (has-lt x t h b)
    (has-remove x t t h ∙ ap (λ (e : Bool). not e && has_bit x t) (T_true (eqb t t) (eqb_refl t))) (T_true (has_bit x t) b)
    (λ u d. has-remove x t u h ∙ ap (λ (e : Bool). not e && has_bit x u) (ne_eqb u t d))

-- ---- the code's mask

-- a shift of 1 by less than 64 loses nothing
pub shift_one : (t : ℕ) → t < 64 → (1 * 2 ^ t) % 2 ^ 64 ≡ 2 ^ t
shift_one t h = ap (λ (n : ℕ). n % 2 ^ 64) (one-mul (2 ^ t)) ∙ mod-eq_of_lt (pow-lt h)
