-- A walk over the states of a word in rising order, a step at a time.
use Rattle.std.specs.Prelude.{ℕ, ◌≡◌, ◌≤◌, ◌<◌, Option, MatchOption}
use Rattle.words.specs.Bits.{first_bit, remove_bit}

-- What the walk gives where it has still to meet the states of the word `rest`: none where there are none, and otherwise the first of them, which is
-- then taken out.
abbrev pub next_state : ℕ → Option ℕ → ℕ → Type 0
next_state rest found rest' =
    MatchOption found (64 ≤ first_bit rest) (λ t. (t < 64) × (t ≡ first_bit rest) × (rest' ≡ remove_bit rest t))
