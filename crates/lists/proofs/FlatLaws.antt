-- Laws of the lists that a function gives of each element, one after the other. Assumes nothing.
use Prim.Native.Nat.{ℕ, zero, suc, ◌+◌, ◌*◌, ◌<◌}
use mathlib.Core.Path.{◌≡◌, refl, sym, ap, ap₂, ◌∙◌}
use mathlib.Core.Bool.{Bool, true, false, cond}
use mathlib.Core.List.{List, [], ◌∷◌, ◌++◌, map, flat_map, append_assoc}
use native.Mathlib.Nat.{not-suc-le-zero, le_of_suc-le-suc}
use native.Mathlib.Omega.{arith}
use lib.ListN.{length, get_or, length-append, get_or-append}
use lib.Seq.{get_or-append-add}
use Rattle.lists.specs.Lists.{All, join_below}

module _ {A B : Type 0} (g : A → List B) where
  pub flat_append : (xs ys : List A) → flat_map g (xs ++ ys) ≡ flat_map g xs ++ flat_map g ys
  unfolding flat_map
  flat_append [] ys = refl
  flat_append (x ∷ xs) ys = ap (λ (l : List B). g x ++ l) (flat_append xs ys) ∙ sym (append_assoc (g x) (flat_map g xs) (flat_map g ys))

  pub flat-join : (n : ℕ) (f : ℕ → List A) → flat_map g (join_below n f) ≡ join_below n (λ i. flat_map g (f i))
  unfolding join_below flat_map
  flat-join zero f = refl
  flat-join (suc n) f = flat_append (f 0) _ ∙ ap (λ (l : List B). flat_map g (f 0) ++ l) (flat-join n (λ i. f (suc i)))

  pub flat-when : (b : Bool) (xs : List A) → flat_map g (cond b xs []) ≡ cond b (flat_map g xs) []
  unfolding flat_map
  flat-when true xs = refl
  flat-when false xs = refl

  pub flat-map : {C : Type 0} (f : C → A) (xs : List C) → flat_map g (map f xs) ≡ flat_map (λ x. g (f x)) xs
  unfolding flat_map
  flat-map f [] = refl
  flat-map f (x ∷ xs) = ap (λ (l : List B). g (f x) ++ l) (flat-map f xs)

  pub flat-flat : {C : Type 0} (f : C → List A) (xs : List C) → flat_map g (flat_map f xs) ≡ flat_map (λ x. flat_map g (f x)) xs
  unfolding flat_map
  flat-flat f [] = refl
  flat-flat f (x ∷ xs) = flat_append (f x) (flat_map f xs) ∙ ap (λ (l : List B). flat_map g (f x) ++ l) (flat-flat f xs)

  -- functions that give equal lists of each element
  pub flat-cong : (h : A → List B) (xs : List A) → All (λ x. g x ≡ h x) xs → flat_map g xs ≡ flat_map h xs
  unfolding flat_map
  flat-cong h [] a = refl
  flat-cong h (x ∷ xs) a = ap₂ ◌++◌ a.0 (flat-cong h xs a.1)

-- lists of k elements each
module _ {A B : Type 0} (k : ℕ) (g : A → List B) (long : (x : A) → length (g x) ≡ k) where
  pub flat-length : (xs : List A) → length (flat_map g xs) ≡ k * length xs
  unfolding flat_map
  flat-length [] = omega arith
  flat-length (x ∷ xs) = length-append (g x) (flat_map g xs) ∙ omega (arith, long x, flat-length xs)

  -- element o of the list that is given of element i, with whatever stands after them all
  pub flat-at : (a : A) (b : B) (xs : List A) (l : List B) (i o : ℕ) → i < length xs → o < k
      → get_or (flat_map g xs ++ l) (k * i + o) b ≡ get_or (g (get_or xs i a)) o b
  unfolding flat_map
  flat-at a b [] l i o h p = absurd (not-suc-le-zero h)
  flat-at a b (x ∷ xs) l zero o h p =
      let e : k * 0 + o ≡ o = omega arith in
      rw (e, append_assoc) (get_or-append (g x) (flat_map g xs ++ l) b o (rw (long x) p))
  flat-at a b (x ∷ xs) l (suc i) o h p =
      let e : k * suc i + o ≡ length (g x) + (k * i + o) = omega (arith, long x) in
      rw (e, append_assoc) (get_or-append-add (g x) (flat_map g xs ++ l) (k * i + o) b ∙ flat-at a b xs l i o (le_of_suc-le-suc h) p)
