-- The pigeonhole by counting: how many states have a rank below a bound. The count falls where the rank falls, and stays below the number of
-- states; so a descent of ranks through states has fewer steps than there are states, with no list of distinct states. Assumes nothing.
use Prim.Native.Nat.{ℕ, suc, ◌<◌}
use native.Mathlib.Nat.{le_refl}
use native.Mathlib.Omega.{arith}
use lib.Dec.{ltb, ltb→lt, lt→ltb}
use Rattle.lists.specs.Below.{count_below}
use Rattle.lists.proofs.BelowLaws.{count-bound, count-lt}

-- How many of the n states have a rank below b.
pub lower : ℕ → (ℕ → ℕ) → ℕ → ℕ
lower n f b = count_below n (λ i. ltb (f i) b)

pub lower-falls : (n : ℕ) (f : ℕ → ℕ) (b x : ℕ) → x < n → f x < b → lower n f (f x) < lower n f b
unfolding lower
lower-falls n f b x l h =
    count-lt n _ _ x l (λ t. let u = ltb→lt (f x) (f x) t in omega arith) (lt→ltb (f x) b h) (λ i k t. lt→ltb (f i) b (omega (arith, ltb→lt (f i) (f x) t)))

-- the states of a rank below that of one of them are not all
pub lower-bound : (n : ℕ) (f : ℕ → ℕ) (x : ℕ) → x < n → lower n f (f x) < n
unfolding lower
lower-bound n f x l = omega (arith, lower-falls n f (suc (f x)) x l (le_refl _), count-bound n (λ i. ltb (f i) (suc (f x))))
