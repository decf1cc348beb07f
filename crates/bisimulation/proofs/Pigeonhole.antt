-- Where no descent is infinite, nothing goes on falling; and of n + 1 numbers below n two are equal. Assumes nothing.
use Prim.Native.Nat.{ℕ, zero, suc, ◌≤◌, ◌<◌, zero-le}
use mathlib.Core.Path.{◌≡◌, refl}
use mathlib.Core.Logic.{◌≢◌, ◌⊎◌, inl, inr, ⊎_elim}
use mathlib.Core.Bool.{Bool, true, false, cond}
use native.Mathlib.Nat.{not-suc-le-zero, le_refl}
use native.Mathlib.Omega.{arith}
use lib.Dec.{T, eqb, eqb→eq}
use Rattle.lists.specs.Below.{any_below}
use Rattle.lists.proofs.BelowLaws.{any-e, any-i}
use Rattle.lists.proofs.BoolLaws.{T-dec, eq→eqb}
use Rattle.bisimulation.specs.Namjoshi.{NoDescent}

module _ {ℓ κ} {W : Type ℓ} (≺ : W → W → Type κ) where
  -- a walk on which the rank always falls does not begin
  pub no_walk : {X : Type 0} → NoDescent ≺ → (f : X → W) → ((x : X) → (y : X) × ≺ (f y) (f x)) → X → ⊥
  no_walk {X} nd f next x = nd (λ i. f (walk i)) (λ i. (next (walk i)).1)
    where
      walk : ℕ → X
      walk zero = x
      walk (suc i) = (next (walk i)).0

-- a descent of numbers ends
pub no_descent : NoDescent {W = ℕ} ◌<◌
no_descent a d = go (suc (a 0)) 0 (le_refl _)
  where
    go : (b i : ℕ) → a i < b → ⊥
    go zero i l = not-suc-le-zero l
    go (suc b) i l = go b (suc i) (omega (arith, d i))

-- x, and c in the place of n
abbrev moved : (n c x : ℕ) → ℕ
moved n c x = cond (eqb x n) c x

moved-is : (n c x : ℕ) → ((x ≡ n) × (moved n c x ≡ c)) ⊎ ((x ≢ n) × (moved n c x ≡ x))
moved-is n c x = go (eqb x n) (λ h. eqb→eq x n h) (λ e. eq→eqb x n e)
  where
    go : (b : Bool) → (T b → x ≡ n) → (x ≡ n → T b) → ((x ≡ n) × (cond b c x ≡ c)) ⊎ ((x ≢ n) × (cond b c x ≡ x))
    go true f g = inl (f tt, refl)
    go false f g = inr (g, refl)

pub pigeon : (n : ℕ) (f : ℕ → ℕ) → ((i : ℕ) → i ≤ n → f i < n) → (a b : ℕ) × (a < b) × (b ≤ n) × (f a ≡ f b)
pigeon zero f h = absurd (not-suc-le-zero (h 0 zero-le))
pigeon (suc n) f h =
    ⊎_elim
    (λ y. let q = any-e (suc n) _ y in (q.0, suc n, q.1, le_refl _, eqb→eq _ _ q.2))
    (λ z. again (none z) (pigeon n (λ i. moved n c (f i)) (λ i l. low (none z) i l)))
    (T-dec (any_below (suc n) (λ i. eqb (f i) (f (suc n)))))
  where
    c : ℕ
    c = f (suc n)

    none : (T (any_below (suc n) (λ i. eqb (f i) (f (suc n)))) → ⊥) → (i : ℕ) → i ≤ n → f i ≢ f (suc n)
    none z i l e = z (any-i (suc n) (λ i. eqb (f i) (f (suc n))) i (omega arith) (eq→eqb _ _ e))

    low : ((i : ℕ) → i ≤ n → f i ≢ f (suc n)) → (i : ℕ) → i ≤ n → moved n c (f i) < n
    low ne i l =
        let x = ne i l in
        let y = h (suc n) (le_refl _) in
        let z = h i (omega arith) in
        ⊎_elim (λ e. omega arith) (λ e. omega arith) (moved-is n c (f i))

    again : ((i : ℕ) → i ≤ n → f i ≢ f (suc n))
        → (a b : ℕ) × (a < b) × (b ≤ n) × (moved n c (f a) ≡ moved n c (f b))
        → (a b : ℕ) × (a < b) × (b ≤ suc n) × (f a ≡ f b)
    again ne (a, b, l, k, e) =
        let x = ne a (omega arith) in
        let y = ne b k in (
          a,
          b,
          l,
          omega arith,
          ⊎_elim
              (λ p. ⊎_elim (λ q. omega arith) (λ q. omega arith) (moved-is n c (f b)))
              (λ p. ⊎_elim (λ q. omega arith) (λ q. omega arith) (moved-is n c (f b)))
              (moved-is n c (f a)),
        )
