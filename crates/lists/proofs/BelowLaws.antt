-- Laws of the bounded searches: what each says and how it is shown, and one index more, as a loop that counts up needs it.
-- Assumes nothing.
use Prim.Native.Nat.{ℕ, zero, suc, ◌+◌, max, ◌≤◌, ◌<◌, suc-le-suc, zero-le}
use mathlib.Core.Path.{◌≡◌, refl, sym, ap, ap₂, ◌∙◌}
use mathlib.Core.Logic.{◌⊎◌, inl, inr, ⊎_elim}
use mathlib.Core.Bool.{Bool, true, false, ◌&&◌, ◌||◌, cond, or_assoc, or-false}
use native.Mathlib.Nat.{le_of_suc-le-suc, not-suc-le-zero, le_refl}
use native.Mathlib.Numerals.{add-one}
use native.Mathlib.Omega.{arith}
use native.Mathlib.Decide.{dec_lt}
use lib.Dec.{T}
use Rattle.lists.specs.Below.{any_below, all_below, first_below, Smallest, sum_below, count_below, most_below}
use Rattle.lists.proofs.BoolLaws.{and_l, and_r, and_i, or-e, or_l, or_r, T-dec, true-T, false-not-T, cond-true}

-- ---- some

pub any-e : (n : ℕ) (f : ℕ → Bool) → T (any_below n f) → (i : ℕ) × (i < n) × T (f i)
unfolding any_below
any-e zero f h = absurd h
any-e (suc n) f h =
    ⊎_elim (λ g. (zero, suc-le-suc zero-le, g)) (λ g. let r = any-e n (λ i. f (suc i)) g in (suc r.0, suc-le-suc r.1, r.2)) (or-e (f 0) _ h)

pub any-i : (n : ℕ) (f : ℕ → Bool) (i : ℕ) → i < n → T (f i) → T (any_below n f)
unfolding any_below
any-i zero f i l h = absurd (not-suc-le-zero l)
any-i (suc n) f zero l h = or_l (f 0) _ h
any-i (suc n) f (suc i) l h = or_r (f 0) _ (any-i n (λ k. f (suc k)) i (le_of_suc-le-suc l) h)

pub any_none : (n : ℕ) (f : ℕ → Bool) → ((i : ℕ) → i < n → T (f i) → ⊥) → T (any_below n f) → ⊥
any_none n f h t = let r = any-e n f t in h r.0 r.1 r.2

-- ---- every

pub all-e : (n : ℕ) (f : ℕ → Bool) → T (all_below n f) → (i : ℕ) → i < n → T (f i)
unfolding all_below
all-e zero f h i l = absurd (not-suc-le-zero l)
all-e (suc n) f h zero l = and_l (f 0) _ h
all-e (suc n) f h (suc i) l = all-e n (λ k. f (suc k)) (and_r (f 0) _ h) i (le_of_suc-le-suc l)

pub all-i : (n : ℕ) (f : ℕ → Bool) → ((i : ℕ) → i < n → T (f i)) → T (all_below n f)
unfolding all_below
all-i zero f h = tt
all-i (suc n) f h = and_i (f 0) _ (h 0 (suc-le-suc zero-le)) (all-i n (λ k. f (suc k)) (λ i l. h (suc i) (suc-le-suc l)))

-- the test passes everywhere, or fails somewhere
pub all-dec : (n : ℕ) (f : ℕ → Bool) → T (all_below n f) ⊎ ((i : ℕ) × (i < n) × (T (f i) → ⊥))
unfolding all_below
all-dec zero f = inl tt
all-dec (suc n) f =
    ⊎_elim
    (λ h. ⊎_elim (λ g. inl (and_i (f 0) _ h g)) (λ g. inr (suc g.0, suc-le-suc g.1, g.2)) (all-dec n (λ i. f (suc i))))
    (λ h. inr (zero, suc-le-suc zero-le, h)) (T-dec (f 0))

-- ---- the greatest

pub most-ge : (n : ℕ) (f : ℕ → ℕ) (i : ℕ) → i < n → f i ≤ most_below n f
unfolding most_below
most-ge zero f i l = absurd (not-suc-le-zero l)
most-ge (suc n) f zero l = omega arith
most-ge (suc n) f (suc i) l = omega (arith, most-ge n (λ k. f (suc k)) i (le_of_suc-le-suc l))

pub most-le : (n : ℕ) (f : ℕ → ℕ) (b : ℕ) → ((i : ℕ) → i < n → f i ≤ b) → most_below n f ≤ b
unfolding most_below
most-le zero f b h = zero-le
most-le (suc n) f b h = omega (arith, h 0 (suc-le-suc zero-le), most-le n (λ k. f (suc k)) b (λ i l. h (suc i) (suc-le-suc l)))

-- a number below the greatest is below one of them
pub most-at : (n : ℕ) (f : ℕ → ℕ) (b : ℕ) → b < most_below n f → (i : ℕ) × (i < n) × (b < f i)
unfolding most_below
most-at zero f b h = absurd (not-suc-le-zero h)
most-at (suc n) f b h =
    ⊎_elim (λ g. (zero, suc-le-suc zero-le, g)) (λ g. let r = most-at n (λ k. f (suc k)) b g in (suc r.0, suc-le-suc r.1, r.2)) (one (f 0) _ h)
  where
    one : (x y : ℕ) → b < max x y → (b < x) ⊎ (b < y)
    one x y h = elim (dec_lt b x) [ yes p ↦ inl p | no q ↦ inr (omega arith) ]

-- ---- the first

cond-le : (b : Bool) (l i : ℕ) → l ≤ i → cond b 0 (suc l) ≤ suc i
cond-le true l i h = zero-le
cond-le false l i h = suc-le-suc h

-- it is at most any index that passes
pub first-le : (n : ℕ) (f : ℕ → Bool) (i : ℕ) → i < n → T (f i) → first_below n f ≤ i
unfolding first_below
first-le zero f i l h = zero-le
first-le (suc n) f zero l h = rw (cond-true (f 0) _ _ h) zero-le
first-le (suc n) f (suc i) l h = cond-le (f 0) _ i (first-le n (λ k. f (suc k)) i (le_of_suc-le-suc l) h)

pub first-bound : (n : ℕ) (f : ℕ → Bool) → first_below n f ≤ n
unfolding first_below
first-bound zero f = zero-le
first-bound (suc n) f = cond-le (f 0) _ n (first-bound n (λ k. f (suc k)))

-- below the bound, it passes
pub first_passes : (n : ℕ) (f : ℕ → Bool) → first_below n f < n → T (f (first_below n f))
unfolding first_below
first_passes zero f h = absurd (not-suc-le-zero h)
first_passes (suc n) f h = go (f 0) refl h (λ l. first_passes n (λ i. f (suc i)) l)
  where
    k : ℕ
    k = first_below n (λ i. f (suc i))

    go : (b : Bool) → f 0 ≡ b → cond b 0 (suc k) < suc n → (k < n → T (f (suc k))) → T (f (cond b 0 (suc k)))
    go true e h rest = true-T (f 0) e
    go false e h rest = rest (le_of_suc-le-suc h)

-- where one passes, it is below the bound and passes
pub first-at : (n : ℕ) (f : ℕ → Bool) (i : ℕ) → i < n → T (f i) → T (f (first_below n f))
first-at n f i l h = first_passes n f (omega (arith, first-le n f i l h))

-- none before it passes
pub first-least : (n : ℕ) (f : ℕ → Bool) (i : ℕ) → i < first_below n f → T (f i) → ⊥
first-least n f i l h = omega (arith, first-bound n f, first-le n f i (omega (arith, first-bound n f)) h)

-- it is the index that passes with none before it
pub first-is : (n : ℕ) (f : ℕ → Bool) (i : ℕ) → i < n → T (f i) → ((k : ℕ) → k < i → T (f k) → ⊥) → first_below n f ≡ i
first-is n f i l h none = elim (dec_lt (first_below n f) i) [
  | yes p ↦ absurd (none _ p (first-at n f i l h))
  | no q ↦ omega (arith, first-le n f i l h)
]

-- where none passes, it is the bound
pub first-none : (n : ℕ) (f : ℕ → Bool) → ((k : ℕ) → k < n → T (f k) → ⊥) → first_below n f ≡ n
first-none n f none = elim (dec_lt (first_below n f) n) [
  | yes p ↦ absurd (none _ p (first_passes n f p))
  | no q ↦ omega (arith, first-bound n f)
]

-- ---- the smallest

-- where those that pass are below the bound and there is one, the first is the smallest that passes
pub first-smallest : (n : ℕ) (f : ℕ → Bool) → ((i : ℕ) → T (f i) → i < n) → (i : ℕ) → T (f i) → Smallest (λ x. T (f x)) (first_below n f)
first-smallest n f small i h = (first-at n f i (small i h) h, λ y p. first-le n f y (small y p) p)

module _ (P : ℕ → Type 0) where
  -- there is one at most
  pub smallest-one : {x y : ℕ} → Smallest P x → Smallest P y → x ≡ y
  smallest-one {x} {y} p q = omega (arith, p.1 y q.0, q.1 x p.0)

  -- it is that of each property of the same numbers
  pub smallest-as : (Q : ℕ → Type 0) → ((x : ℕ) → P x → Q x) → ((x : ℕ) → Q x → P x) → {x : ℕ} → Smallest P x → Smallest Q x
  smallest-as Q f g {x} p = (f x p.0, λ y q. p.1 y (g y q))

-- ---- equal tests and numbers below the bound give equal searches

pub any-cong : (n : ℕ) (f g : ℕ → Bool) → ((i : ℕ) → i < n → f i ≡ g i) → any_below n f ≡ any_below n g
unfolding any_below
any-cong zero f g h = refl
any-cong (suc n) f g h = ap₂ ◌||◌ (h 0 (suc-le-suc zero-le)) (any-cong n _ _ (λ i l. h (suc i) (suc-le-suc l)))

pub all-cong : (n : ℕ) (f g : ℕ → Bool) → ((i : ℕ) → i < n → f i ≡ g i) → all_below n f ≡ all_below n g
unfolding all_below
all-cong zero f g h = refl
all-cong (suc n) f g h = ap₂ ◌&&◌ (h 0 (suc-le-suc zero-le)) (all-cong n _ _ (λ i l. h (suc i) (suc-le-suc l)))

pub first_cong : (n : ℕ) (f g : ℕ → Bool) → ((i : ℕ) → i < n → f i ≡ g i) → first_below n f ≡ first_below n g
unfolding first_below
first_cong zero f g h = refl
first_cong (suc n) f g h = ap₂ (λ (b : Bool) (k : ℕ). cond b 0 (suc k)) (h 0 (suc-le-suc zero-le)) (first_cong n _ _ (λ i l. h (suc i) (suc-le-suc l)))

pub sum-cong : (n : ℕ) (f g : ℕ → ℕ) → ((i : ℕ) → i < n → f i ≡ g i) → sum_below n f ≡ sum_below n g
unfolding sum_below
sum-cong zero f g h = refl
sum-cong (suc n) f g h = ap₂ ◌+◌ (h 0 (suc-le-suc zero-le)) (sum-cong n _ _ (λ i l. h (suc i) (suc-le-suc l)))

pub count-cong : (n : ℕ) (f g : ℕ → Bool) → ((i : ℕ) → i < n → f i ≡ g i) → count_below n f ≡ count_below n g
unfolding count_below
count-cong n f g h = sum-cong n _ _ (λ i l. ap (λ (b : Bool). cond b 1 0) (h i l))

pub most-cong : (n : ℕ) (f g : ℕ → ℕ) → ((i : ℕ) → i < n → f i ≡ g i) → most_below n f ≡ most_below n g
unfolding most_below
most-cong zero f g h = refl
most-cong (suc n) f g h = ap₂ max (h 0 (suc-le-suc zero-le)) (most-cong n _ _ (λ i l. h (suc i) (suc-le-suc l)))

-- ---- sums

-- the sum is at most the bound times what each number is at most
pub sum-le : (n : ℕ) (f g : ℕ → ℕ) → ((i : ℕ) → i < n → f i ≤ g i) → sum_below n f ≤ sum_below n g
unfolding sum_below
sum-le zero f g h = zero-le
sum-le (suc n) f g h = omega (arith, h 0 (suc-le-suc zero-le), sum-le n (λ i. f (suc i)) (λ i. g (suc i)) (λ i l. h (suc i) (suc-le-suc l)))

-- smaller at one index, and nowhere greater
pub sum_lt : (n : ℕ) (f g : ℕ → ℕ) (x : ℕ) → x < n → f x < g x → ((i : ℕ) → i < n → f i ≤ g i) → sum_below n f < sum_below n g
unfolding sum_below
sum_lt zero f g x l p h = absurd (not-suc-le-zero l)
sum_lt (suc n) f g zero l p h = omega (arith, sum-le n (λ i. f (suc i)) (λ i. g (suc i)) (λ i k. h (suc i) (suc-le-suc k)))
sum_lt (suc n) f g (suc x) l p h =
    omega (arith, h 0 (suc-le-suc zero-le), sum_lt n (λ i. f (suc i)) (λ i. g (suc i)) x (le_of_suc-le-suc l) p (λ i k. h (suc i) (suc-le-suc k)))

-- ---- counts

one : (b : Bool) → cond b 1 0 ≤ 1
one true = le_refl 1
one false = zero-le

one-le : (a b : Bool) → (T a → T b) → cond a 1 0 ≤ cond b 1 0
one-le true true h = le_refl 1
one-le true false h = absurd (h tt)
one-le false b h = zero-le

one-lt : (a b : Bool) → (T a → ⊥) → T b → cond a 1 0 < cond b 1 0
one-lt true b h k = absurd (h tt)
one-lt false true h k = le_refl 1
one-lt false false h k = absurd k

pub count-bound : (n : ℕ) (f : ℕ → Bool) → count_below n f ≤ n
unfolding count_below sum_below
count-bound zero f = zero-le
count-bound (suc n) f = omega (arith, one (f 0), count-bound n (λ i. f (suc i)))

-- a weaker test counts more where it passes an index that the other does not
pub count-lt : (n : ℕ) (f g : ℕ → Bool) (x : ℕ) → x < n → (T (f x) → ⊥) → T (g x) → ((i : ℕ) → i < n → T (f i) → T (g i)) → count_below n f < count_below n g
unfolding count_below
count-lt n f g x l p q h = sum_lt n _ _ x l (one-lt (f x) (g x) p q) (λ i k. one-le (f i) (g i) (h i k))

-- and one more where that index is the only one
pub count_less : (n : ℕ) (f g : ℕ → Bool) (t : ℕ) → t < n → f t ≡ false → g t ≡ true → ((i : ℕ) → (i ≡ t → ⊥) → f i ≡ g i)
    → count_below n f + 1 ≡ count_below n g
unfolding count_below sum_below
count_less zero f g t l p q same = absurd (not-suc-le-zero l)
count_less (suc n) f g zero l p q same =
    let rest : count_below n (λ i. f (suc i)) ≡ count_below n (λ i. g (suc i)) =
    count-cong n _ _ (λ i b. same (suc i) (λ e. omega arith)) in
    rw (p, q) (omega arith)
count_less (suc n) f g (suc t) l p q same =
    let rest : count_below n (λ i. f (suc i)) + 1 ≡ count_below n (λ i. g (suc i)) =
    count_less n (λ i. f (suc i)) (λ i. g (suc i)) t (le_of_suc-le-suc l) p q (λ i d. same (suc i) (λ e. d (omega arith))) in
    rw (same 0 (λ e. omega arith)) (omega arith)

-- ---- one index more, as a loop that counts up has it

pub any-more : (n : ℕ) (f : ℕ → Bool) → any_below (n + 1) f ≡ (any_below n f || f n)
unfolding any_below
any-more n f = rw add-one (go n f)
  where
    go : (n : ℕ) (f : ℕ → Bool) → any_below (suc n) f ≡ (any_below n f || f n)
    go zero f = or-false (f 0)
    go (suc n) f = ap (λ (b : Bool). f 0 || b) (go n (λ i. f (suc i))) ∙ sym (or_assoc (f 0) _ _)

pub sum_more : (n : ℕ) (f : ℕ → ℕ) → sum_below (n + 1) f ≡ sum_below n f + f n
unfolding sum_below
sum_more n f = rw add-one (go n f)
  where
    go : (n : ℕ) (f : ℕ → ℕ) → sum_below (suc n) f ≡ sum_below n f + f n
    go zero f = omega arith
    go (suc n) f = ap (λ (k : ℕ). f 0 + k) (go n (λ i. f (suc i))) ∙ omega arith

pub most-more : (n : ℕ) (f : ℕ → ℕ) → most_below (n + 1) f ≡ max (most_below n f) (f n)
unfolding most_below
most-more n f = rw add-one (go n f)
  where
    go : (n : ℕ) (f : ℕ → ℕ) → most_below (suc n) f ≡ max (most_below n f) (f n)
    go zero f = omega arith
    go (suc n) f = ap (max (f 0)) (go n (λ i. f (suc i))) ∙ omega arith

-- a search that has found none below i: it starts, meets a test that fails, meets one that passes, and comes to the end
pub first-start : (f : ℕ → Bool) → first_below 0 f ≡ 0
unfolding first_below
first-start f = refl

none_below : (f : ℕ → Bool) (i : ℕ) → first_below i f ≡ i → (k : ℕ) → k < i → T (f k) → ⊥
none_below f i e k l h = first-least i f k (omega arith) h

pub first-miss : (f : ℕ → Bool) (i : ℕ) → first_below i f ≡ i → f i ≡ false → first_below (i + 1) f ≡ i + 1
first-miss f i e q =
    first-none (i + 1) f λ k l h. elim (dec_lt k i) [
      | yes p ↦ none_below f i e k p h
      | no p ↦ false-not-T (f k) (ap f (let z : k ≡ i = omega arith in z) ∙ q) h
    ]

pub first-hit : (f : ℕ → Bool) (i n : ℕ) → first_below i f ≡ i → i < n → f i ≡ true → first_below n f ≡ i
first-hit f i n e l q = first-is n f i l (true-T (f i) q) (none_below f i e)

pub any-start : (f : ℕ → Bool) → any_below 0 f ≡ false
unfolding any_below
any-start f = refl
