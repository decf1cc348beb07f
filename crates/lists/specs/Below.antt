-- Bounded searches: tests and numbers over the indices below a bound. One family serves the theory, the readers, the judge and the maker.
use Rattle.std.specs.Prelude.{ℕ, zero, suc, ◌+◌, ◌≤◌, ltb, max, Bool, true, false, ◌&&◌, ◌||◌, cond, Option, Some, None}

-- Some index below the bound passes the test.
unfoldable pub any_below : ℕ → (ℕ → Bool) → Bool
any_below zero f = false
any_below (suc n) f = f 0 || any_below n (λ i. f (suc i))

-- Every index below the bound passes the test.
unfoldable pub all_below : ℕ → (ℕ → Bool) → Bool
all_below zero f = true
all_below (suc n) f = f 0 && all_below n (λ i. f (suc i))

-- The least index below the bound that passes the test, and the bound where none does.
unfoldable pub first_below : ℕ → (ℕ → Bool) → ℕ
first_below zero f = 0
first_below (suc n) f = cond (f 0) 0 (suc (first_below n (λ i. f (suc i))))

-- A number below the bound, and none for the bound or more.
abbrev pub some_below : ℕ → ℕ → Option ℕ
some_below n x = cond (ltb x n) (Some x) None

-- The least index below the bound that passes the test, if there is one.
abbrev pub found_below : ℕ → (ℕ → Bool) → Option ℕ
found_below n f = some_below n (first_below n f)

-- x is the smallest number with the property.
abbrev pub Smallest : (ℕ → Type 0) → ℕ → Type 0
Smallest P x = P x × ((y : ℕ) → P y → x ≤ y)

-- The sum of the numbers at the indices below the bound.
unfoldable pub sum_below : ℕ → (ℕ → ℕ) → ℕ
sum_below zero f = 0
sum_below (suc n) f = f 0 + sum_below n (λ i. f (suc i))

-- How many indices below the bound pass the test.
unfoldable pub count_below : ℕ → (ℕ → Bool) → ℕ
count_below n f = sum_below n (λ i. cond (f i) 1 0)

-- The greatest of the numbers at the indices below the bound, and 0 where there is none.
unfoldable pub most_below : ℕ → (ℕ → ℕ) → ℕ
most_below zero f = 0
most_below (suc n) f = max (f 0) (most_below n (λ i. f (suc i)))

-- If a then b.
abbrev pub implies : Bool → Bool → Bool
implies true b = b
implies false b = true
