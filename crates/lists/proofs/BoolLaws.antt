-- What a passed test says: the Boolean operations, and tests of numbers. Assumes nothing.
use Prim.Native.Nat.{ℕ, ◌≤◌, ◌<◌, zero-le}
use mathlib.Core.Path.{◌≡◌, refl, subst, sym}
use mathlib.Core.Logic.{◌⊎◌, inl, inr}
use mathlib.Core.Bool.{Bool, true, false, ◌&&◌, ◌||◌, cond}
use native.Mathlib.Nat.{not-suc-le-zero}
use lib.Dec.{T, eqb, eqb_refl}
use Rattle.lists.specs.Below.{implies}

pub and_l : (a b : Bool) → T (a && b) → T a
and_l true b h = tt
and_l false b h = h

pub and_r : (a b : Bool) → T (a && b) → T b
and_r true b h = h
and_r false b h = absurd h

pub and_i : (a b : Bool) → T a → T b → T (a && b)
and_i true b g h = h
and_i false b g h = g

pub or-e : (a b : Bool) → T (a || b) → T a ⊎ T b
or-e true b h = inl h
or-e false b h = inr h

pub or_l : (a b : Bool) → T a → T (a || b)
or_l true b h = tt
or_l false b h = absurd h

pub or_r : (a b : Bool) → T b → T (a || b)
or_r true b h = tt
or_r false b h = h

pub imp-i : (a b : Bool) → (T a → T b) → T (implies a b)
imp-i true b h = h tt
imp-i false b h = tt

pub imp-e : (a b : Bool) → T (implies a b) → T a → T b
imp-e true b h g = h
imp-e false b h g = absurd g

-- a test passes or fails
pub T-dec : (b : Bool) → T b ⊎ (T b → ⊥)
T-dec true = inl tt
T-dec false = inr (λ h. h)

pub T_true : (b : Bool) → T b → b ≡ true
T_true true h = refl
T_true false h = absurd h

pub true-T : (b : Bool) → b ≡ true → T b
true-T b e = subst T (sym e) tt

pub not-T-false : (b : Bool) → (T b → ⊥) → b ≡ false
not-T-false true h = absurd (h tt)
not-T-false false h = refl

pub false-not-T : (b : Bool) → b ≡ false → T b → ⊥
false-not-T b e h = subst T e h

-- two tests that pass together are equal
pub same-T : (a b : Bool) → (T a → T b) → (T b → T a) → a ≡ b
same-T true true f g = refl
same-T true false f g = absurd (f tt)
same-T false true f g = absurd (g tt)
same-T false false f g = refl

pub eq→eqb : (m n : ℕ) → m ≡ n → T (eqb m n)
eq→eqb m n e = subst (λ (k : ℕ). T (eqb m k)) e (eqb_refl m)

-- a choice whose test is known
pub cond-true : {A : Type 0} (b : Bool) (x y : A) → T b → cond b x y ≡ x
cond-true true x y h = refl
cond-true false x y h = absurd h

pub cond-false : {A : Type 0} (b : Bool) (x y : A) → (T b → ⊥) → cond b x y ≡ y
cond-false true x y h = absurd (h tt)
cond-false false x y h = refl

-- a choice between a number and 0
pub cond-upto : (b : Bool) (x z : ℕ) → (T b → x ≤ z) → cond b x 0 ≤ z
cond-upto true x z h = h tt
cond-upto false x z h = zero-le

pub cond_pos : (b : Bool) (x k : ℕ) → k < cond b x 0 → T b × (k < x)
cond_pos true x k h = (tt, h)
cond_pos false x k h = absurd (not-suc-le-zero h)
