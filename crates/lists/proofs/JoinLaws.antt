-- Laws of lists joined over the indices below a bound: what holds of every element, and a walk that goes from one index with something to the next meets
-- the whole list in its order. Assumes nothing.
use Prim.Native.Nat.{ℕ, zero, suc, ◌*◌, ◌≤◌, ◌<◌, suc-le-suc, zero-le}
use mathlib.Core.Path.{◌≡◌, refl, ap, ap₂, ◌∙◌}
use mathlib.Core.Bool.{Bool, true, false, cond}
use mathlib.Core.List.{List, [], ◌∷◌, ◌++◌, map, flat_map}
use native.Mathlib.Nat.{not-suc-le-zero, le_of_suc-le-suc}
use native.Mathlib.Omega.{arith}
use lib.Dec.{T}
use lib.ListN.{length, get_or, length-append}
use Rattle.lists.specs.Lists.{All, join_below}

-- ---- what holds of every element

module _ {ℓ} {A : Type ℓ} (P : A → Type 0) where
  pub all_append : (xs ys : List A) → All P xs → All P ys → All P (xs ++ ys)
  all_append [] ys a b = b
  all_append (x ∷ xs) ys a b = (a.0, all_append xs ys a.1 b)

  pub append-all : (xs ys : List A) → All P (xs ++ ys) → All P xs × All P ys
  append-all [] ys a = (tt, a)
  append-all (x ∷ xs) ys a = let q = append-all xs ys a.1 in ((a.0, q.0), q.1)

  pub all_join : (n : ℕ) (f : ℕ → List A) → ((i : ℕ) → i < n → All P (f i)) → All P (join_below n f)
  unfolding join_below
  all_join zero f h = tt
  all_join (suc n) f h = all_append (f 0) _ (h 0 (suc-le-suc zero-le)) (all_join n (λ i. f (suc i)) (λ i l. h (suc i) (suc-le-suc l)))

  pub join-all : (n : ℕ) (f : ℕ → List A) → All P (join_below n f) → (i : ℕ) → i < n → All P (f i)
  unfolding join_below
  join-all zero f h i l = absurd (not-suc-le-zero l)
  join-all (suc n) f h zero l = (append-all (f 0) _ h).0
  join-all (suc n) f h (suc i) l = join-all n (λ k. f (suc k)) (append-all (f 0) _ h).1 i (le_of_suc-le-suc l)

  pub all-when : (b : Bool) (xs : List A) → (T b → All P xs) → All P (cond b xs [])
  all-when true xs h = h tt
  all-when false xs h = tt

  pub when-all : (b : Bool) (xs : List A) → All P (cond b xs []) → T b → All P xs
  when-all true xs h t = h
  when-all false xs h t = absurd t

module _ {ℓ κ} {A : Type ℓ} {B : Type κ} (P : B → Type 0) where
  pub all_map : (f : A → B) (xs : List A) → All (λ x. P (f x)) xs → All P (map f xs)
  all_map f [] a = tt
  all_map f (x ∷ xs) a = (a.0, all_map f xs a.1)

  pub map-all : (f : A → B) (xs : List A) → All P (map f xs) → All (λ x. P (f x)) xs
  map-all f [] a = tt
  map-all f (x ∷ xs) a = (a.0, map-all f xs a.1)

  pub all-flat : (f : A → List B) (xs : List A) → All (λ x. All P (f x)) xs → All P (flat_map f xs)
  unfolding flat_map
  all-flat f [] a = tt
  all-flat f (x ∷ xs) a = all_append P (f x) _ a.0 (all-flat f xs a.1)

  pub flat-all : (f : A → List B) (xs : List A) → All P (flat_map f xs) → All (λ x. All P (f x)) xs
  unfolding flat_map
  flat-all f [] a = tt
  flat-all f (x ∷ xs) a = let q = append-all P (f x) _ a in (q.0, flat-all f xs q.1)

pub all-imply {ℓ} : {A : Type ℓ} (P Q : A → Type 0) → ((x : A) → P x → Q x) → (xs : List A) → All P xs → All Q xs
all-imply P Q h [] a = tt
all-imply P Q h (x ∷ xs) a = (h x a.0, all-imply P Q h xs a.1)

pub all-each {ℓ} : {A : Type ℓ} (P : A → Type 0) → ((x : A) → P x) → (xs : List A) → All P xs
all-each P h [] = tt
all-each P h (x ∷ xs) = (h x, all-each P h xs)

-- ---- a walk over the indices

module _ {A : Type 0} where
  -- The lists of the indices from a up to, not including, n.
  unfoldable pub join_from : ℕ → ℕ → (ℕ → List A) → List A
  join_from zero n f = join_below n f
  join_from (suc a) zero f = []
  join_from (suc a) (suc n) f = join_from a n (λ i. f (suc i))

  pub join-cong : (n : ℕ) (f g : ℕ → List A) → ((i : ℕ) → i < n → f i ≡ g i) → join_below n f ≡ join_below n g
  unfolding join_below
  join-cong zero f g h = refl
  join-cong (suc n) f g h = ap₂ ◌++◌ (h 0 (suc-le-suc zero-le)) (join-cong n _ _ (λ i l. h (suc i) (suc-le-suc l)))

  pub from-cong : (a n : ℕ) (f g : ℕ → List A) → ((i : ℕ) → a ≤ i → i < n → f i ≡ g i) → join_from a n f ≡ join_from a n g
  unfolding join_from
  from-cong zero n f g h = join-cong n f g (λ i l. h i zero-le l)
  from-cong (suc a) zero f g h = refl
  from-cong (suc a) (suc n) f g h = from-cong a n _ _ (λ i b l. h (suc i) (suc-le-suc b) (suc-le-suc l))

  pub from_start : (n : ℕ) (f : ℕ → List A) → join_below n f ≡ join_from 0 n f
  unfolding join_from
  from_start n f = refl

  -- nothing stands before a
  pub from-skip : (a n : ℕ) (f : ℕ → List A) → ((i : ℕ) → i < a → f i ≡ []) → join_below n f ≡ join_from a n f
  unfolding join_from join_below
  from-skip zero n f h = refl
  from-skip (suc a) zero f h = refl
  from-skip (suc a) (suc n) f h =
      ap (λ (l : List A). l ++ join_below n (λ i. f (suc i))) (h 0 (suc-le-suc zero-le))
      ∙ from-skip a n (λ i. f (suc i)) (λ i l. h (suc i) (suc-le-suc l))

  -- k is the next index with something
  pub from_next : (a k n : ℕ) (f : ℕ → List A) → a ≤ k → k < n → ((i : ℕ) → a ≤ i → i < k → f i ≡ []) → join_from a n f ≡ f k ++ join_from (suc k) n f
  unfolding join_from join_below
  from_next a k zero f b l h = absurd (not-suc-le-zero l)
  from_next zero zero (suc n) f b l h = refl
  from_next zero (suc k) (suc n) f b l h =
      ap (λ (x : List A). x ++ join_below n (λ i. f (suc i))) (h 0 zero-le (suc-le-suc zero-le))
      ∙ from_next zero k n (λ i. f (suc i)) zero-le (le_of_suc-le-suc l) (λ i b l. h (suc i) zero-le (suc-le-suc l))
  from_next (suc a) zero (suc n) f b l h = absurd (not-suc-le-zero b)
  from_next (suc a) (suc k) (suc n) f b l h =
      from_next a k n (λ i. f (suc i)) (le_of_suc-le-suc b) (le_of_suc-le-suc l) (λ i b l. h (suc i) (suc-le-suc b) (suc-le-suc l))

  -- there is none
  pub join-none : (n : ℕ) (f : ℕ → List A) → ((i : ℕ) → i < n → f i ≡ []) → join_below n f ≡ []
  unfolding join_below
  join-none zero f h = refl
  join-none (suc n) f h = ap₂ ◌++◌ (h 0 (suc-le-suc zero-le)) (join-none n _ (λ i l. h (suc i) (suc-le-suc l)))

  pub from-none : (a n : ℕ) (f : ℕ → List A) → ((i : ℕ) → a ≤ i → i < n → f i ≡ []) → join_from a n f ≡ []
  unfolding join_from
  from-none zero n f h = join-none n f (λ i l. h i zero-le l)
  from-none (suc a) zero f h = refl
  from-none (suc a) (suc n) f h = from-none a n _ (λ i b l. h (suc i) (suc-le-suc b) (suc-le-suc l))

  -- a list is that of its elements
  pub join-of : (d : A) (xs : List A) → join_below (length xs) (λ i. get_or xs i d ∷ []) ≡ xs
  unfolding join_below
  join-of d [] = refl
  join-of d (x ∷ xs) = ap (λ (l : List A). x ∷ l) (join-of d xs)

  -- as long as n lists of at most c
  pub join-length : (n c : ℕ) (f : ℕ → List A) → ((i : ℕ) → i < n → length (f i) ≤ c) → length (join_below n f) ≤ n * c
  unfolding join_below
  join-length zero c f h = zero-le
  join-length (suc n) c f h =
      let a = h 0 (suc-le-suc zero-le) in
      let b = join-length n c (λ i. f (suc i)) (λ i l. h (suc i) (suc-le-suc l)) in
      let e = length-append (f 0) (join_below n (λ i. f (suc i))) in
      omega arith

pub map-append : {A B : Type 0} (g : A → B) (xs ys : List A) → map g (xs ++ ys) ≡ map g xs ++ map g ys
map-append g [] ys = refl
map-append g (x ∷ xs) ys = ap (λ (l : List _). g x ∷ l) (map-append g xs ys)

pub map-join : {A B : Type 0} (g : A → B) (n : ℕ) (f : ℕ → List A) → map g (join_below n f) ≡ join_below n (λ i. map g (f i))
unfolding join_below
map-join g zero f = refl
map-join g (suc n) f = map-append g (f 0) _ ∙ ap (λ (l : List _). map g (f 0) ++ l) (map-join g n (λ i. f (suc i)))

pub map-when : {A B : Type 0} (g : A → B) (b : Bool) (xs : List A) → map g (cond b xs []) ≡ cond b (map g xs) []
map-when g true xs = refl
map-when g false xs = refl

-- nothing stands from n on
pub join-shrink : {A : Type 0} (n m : ℕ) (f : ℕ → List A) → n ≤ m → ((i : ℕ) → n ≤ i → i < m → f i ≡ []) → join_below m f ≡ join_below n f
unfolding join_below
join-shrink zero m f h none = join-none m f (λ i l. none i zero-le l)
join-shrink (suc n) zero f h none = absurd (not-suc-le-zero h)
join-shrink (suc n) (suc m) f h none =
    ap (λ (l : List _). f 0 ++ l)
    (join-shrink n m (λ i. f (suc i)) (le_of_suc-le-suc h) (λ i b l. none (suc i) (suc-le-suc b) (suc-le-suc l)))
