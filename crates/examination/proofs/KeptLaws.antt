-- Laws of the two tests that are read off the tables of lengths: of a step that may be kept, and of a chain that is too long. Assumes nothing.
use Prim.Native.Nat.{ℕ, ◌+◌, ◌*◌, ◌≤◌, ◌<◌}
use mathlib.Core.Path.{◌≡◌, sym, ap, ap₂, ◌∙◌}
use mathlib.Core.Bool.{Bool, true, false, ◌&&◌, ◌||◌}
use mathlib.Core.List.{List}
use lib.Dec.{ltb, leb}
use borrow.Author.Tests.{lt-ltb, le-ltb}
use Rattle.lists.specs.Numbers.{byte_at}
use Rattle.bisimulation.specs.Systems.{View, stays}
use Rattle.examination.specs.OnSides.{kept_by, long_by}

module _ (v : View) (distances : List ℕ) (j t : ℕ) {x n : ℕ} (ex : x ≡ byte_at distances (j * 64 + t)) (en : n ≡ v.other.states) where
  near-is : {b : Bool} → ltb x n ≡ b → ltb (byte_at distances (j * 64 + t)) v.other.states ≡ b
  near-is e = sym (ap₂ ltb ex en) ∙ e

  -- a step whose distance is small
  pub kept_near : x < n → true ≡ kept_by v distances j t
  unfolding kept_by
  kept_near l = sym (ap (λ (b : Bool). b || stays v j t) (near-is (lt-ltb x n l)))

  -- any other
  pub kept-far : {r : Bool} → n ≤ x → r ≡ stays v j t → r ≡ kept_by v distances j t
  unfolding kept_by
  kept-far l e = e ∙ sym (ap (λ (b : Bool). b || stays v j t) (near-is (le-ltb x n l)))

module _ (v : View) (chains : List ℕ) (b c : ℕ) {r : Bool} (er : r ≡ v.related b c) where
  pub long-related : {x n : ℕ} → r ≡ true → x ≡ byte_at chains (b * 64 + c) → n ≡ v.other.states → leb n x ≡ long_by v chains b c
  unfolding long_by
  long-related h ex en = ap₂ leb en ex ∙ sym (ap (λ (k : Bool). k && leb v.other.states (byte_at chains (b * 64 + c))) (sym er ∙ h))

  pub long-unrelated : r ≡ false → false ≡ long_by v chains b c
  unfolding long_by
  long-unrelated h = sym (ap (λ (k : Bool). k && leb v.other.states (byte_at chains (b * 64 + c))) (sym er ∙ h))
