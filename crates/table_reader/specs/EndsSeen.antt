-- Inner: the ends seen, by which the reader finds the first doubled step.
use Rattle.std.specs.Prelude.{ℕ, ◌<◌, ◌≡◌, ◌↔◌, List, T, length, get_or}
use Rattle.words.specs.Bits.{has_bit}
use Rattle.words.specs.declared.Row.{Row}

-- The ends of the first m steps are below n.
abbrev pub EndsBelow : (n : ℕ) → (from to : ℕ → ℕ) → (m : ℕ) → Type 0
EndsBelow n from to m = (j : ℕ) → j < m → (from j < n) × (to j < n)

-- The word of state s; past the last word it is empty.
abbrev pub word_of : List Row → ℕ → ℕ
word_of seen s = (get_or seen s (record { 0 = 0 })).0

-- A step so far, one of the first j, has that from and to.
abbrev pub StepSoFar : (from to : ℕ → ℕ) → (j s u : ℕ) → Type 0
StepSoFar from to j s u = (i : ℕ) × (i < j) × (from i ≡ s) × (to i ≡ u)

-- One word of ends seen for each of 64 states, with a bit exactly where a step so far has that from and to.
pub record EndsSeen (from to : ℕ → ℕ) (j : ℕ) (seen : List Row) : Type 0 where
  pub words : length seen ≡ 64
  pub bit : (s u : ℕ) → s < 64 → T (has_bit (word_of seen s) u) ↔ StepSoFar from to j s u
