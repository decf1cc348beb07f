-- Laws of a number below a bound, if there is one. Assumes nothing.
use Prim.Native.Nat.{ℕ, ◌≤◌, ◌<◌}
use mathlib.Core.Path.{◌≡◌, refl}
use mathlib.Core.Bool.{Bool, true, false, cond}
use lib.Dec.{ltb}
use borrow.Author.Tests.{lt-ltb, le-ltb, ltb-true, ltb-false}
use Rattle.std.specs.Prelude.{Some, None}
use Rattle.std.specs.Option.{is_some}
use Rattle.lists.specs.Below.{some_below}

module _ {n x : ℕ} where
  pub some-i : x < n → some_below n x ≡ Some x
  some-i l = rw (lt-ltb x n l) refl

  pub none-i : n ≤ x → some_below n x ≡ None
  none-i l = rw (le-ltb x n l) refl

  some-by : {y : ℕ} (b : Bool) → ltb x n ≡ b → cond b (Some x) None ≡ Some y → (x < n) × (x ≡ y)
  some-by true e s = (ltb-true x n e, cc s)
  some-by false e s = absurd (cc s)

  pub some-e : {y : ℕ} → some_below n x ≡ Some y → (x < n) × (x ≡ y)
  some-e s = some-by (ltb x n) refl s

  none-by : (b : Bool) → ltb x n ≡ b → cond b (Some x) None ≡ None → n ≤ x
  none-by true e s = absurd (cc s)
  none-by false e s = ltb-false x n e

  pub none-e : some_below n x ≡ None → n ≤ x
  none-e s = none-by (ltb x n) refl s

-- the same where it is asked whether there is one
module _ (n x : ℕ) where
  there : (b : Bool) → ltb x n ≡ b → is_some (cond b (Some x) None) ≡ true → x < n
  there true e s = ltb-true x n e
  there false e s = absurd (cc s)

  pub there-i : is_some (some_below n x) ≡ true → some_below n x ≡ Some x
  there-i s = some-i (there (ltb x n) refl s)

  not-there : (b : Bool) → ltb x n ≡ b → is_some (cond b (Some x) None) ≡ false → n ≤ x
  not-there true e s = absurd (cc s)
  not-there false e s = ltb-false x n e

  pub not-there-i : is_some (some_below n x) ≡ false → some_below n x ≡ None
  not-there-i s = none-i (not-there (ltb x n) refl s)
