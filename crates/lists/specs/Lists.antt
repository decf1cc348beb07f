-- Lists: what holds of every element and of how many, what stands in them, lists joined, filled by index and chosen by a test, parts, and what is written over
-- a list.
use Rattle.std.specs.Prelude.{ℕ, zero, suc, ◌+◌, ◌-◌, ◌<◌, ◌≡◌, ◌⊎◌, Bool, cond, List, [], ◌∷◌, ◌++◌, leb, eqb, length, take, drop, get_or}
use Rattle.lists.specs.Below.{any_below}

-- Every element of the list has the property.
abbrev pub All {ℓ} : {A : Type ℓ} → (A → Type 0) → List A → Type 0
All P [] = Unit {0}
All P (x ∷ l) = P x × All P l

-- The two lists have equally many elements, and each element of the first is in the relation to the one in its place in the second.
abbrev pub Beside : {A B : Type 0} → (A → B → Type 0) → List A → List B → Type 0
Beside R [] [] = Unit {0}
Beside R [] (y ∷ ys) = ⊥
Beside R (x ∷ xs) [] = ⊥
Beside R (x ∷ xs) (y ∷ ys) = R x y × Beside R xs ys

-- n elements of the list have the property.
abbrev pub Counts : {A : Type 0} → (A → Type 0) → List A → ℕ → Type 0
Counts P [] n = n ≡ 0
Counts P (x ∷ xs) n = (P x × ((m : ℕ) × (n ≡ suc m) × Counts P xs m)) ⊎ ((¬ P x) × Counts P xs n)

-- The number x stands in the list. As a test, and as a statement.
unfoldable pub stands_in : List ℕ → ℕ → Bool
stands_in l x = any_below (length l) (λ i. eqb (get_or l i 0) x)

abbrev pub StandsIn : List ℕ → ℕ → Type 0
StandsIn l x = (i : ℕ) × (i < length l) × (get_or l i 0 ≡ x)

-- The numbers below the bound that pass the test, from the smallest on.
unfoldable pub kept_below : ℕ → (ℕ → Bool) → List ℕ
kept_below zero f = []
kept_below (suc n) f = kept_below n f ++ cond (f n) (n ∷ []) []

-- The lists of the indices below the bound, one after the other.
unfoldable pub join_below {ℓ} : {A : Type ℓ} → ℕ → (ℕ → List A) → List A
join_below zero f = []
join_below (suc n) f = f 0 ++ join_below n (λ i. f (suc i))

-- The list f 0, f 1, .., f (n - 1).
unfoldable pub tabulate : ℕ → (ℕ → ℕ) → List ℕ
tabulate zero f = []
tabulate (suc n) f = tabulate n f ++ (f n ∷ [])

-- n rows of m numbers: f s t stands at s times m + t.
unfoldable pub grid : ℕ → ℕ → (ℕ → ℕ → ℕ) → List ℕ
grid zero m f = []
grid (suc n) m f = grid n m f ++ tabulate m (f n)

-- The elements from index a up to, not including, index e: what `&l[a..e]` hands on.
abbrev pub part : List ℕ → ℕ → ℕ → List ℕ
part l a e = take (e - a) (drop a l)

-- The list with `new` written over its elements from index `at` on; a list that is too short for it stays as it is.
unfoldable pub put_at : ℕ → List ℕ → List ℕ → List ℕ
put_at at new l = cond (leb (at + length new) (length l)) (take at l ++ new ++ drop (at + length new) l) l

-- The list with `front` written over its first elements; a list that is too short stays as it is.
unfoldable pub put_front : List ℕ → List ℕ → List ℕ
put_front front l = put_at 0 front l
