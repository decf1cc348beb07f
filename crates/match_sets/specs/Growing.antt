-- Inner: what the loop that grows the set of a step keeps: which states came in last, and the row of the rounds in which states came in.
use Rattle.std.specs.Prelude.{ℕ, zero, suc, ◌^◌, ◌≤◌, ◌<◌, ◌≡◌, Bool, false, not, cond, ◌&&◌, List, T, ltb, length, get_or}
use Rattle.lists.specs.Below.{count_below}
use Rattle.words.specs.Bits.{has_bit}
use Rattle.bisimulation.specs.Systems.{View}
use Rattle.bisimulation.specs.Maker.{matches_within, distance}
use Rattle.match_sets.specs.Sets.{AfterRounds}

-- State t is in the set before round k.
unfoldable pub earlier : View → (j k t : ℕ) → Bool
earlier v j zero t = false
earlier v j (suc k) t = matches_within v j k t

-- After k rounds: the set, and the states that came in with round k. Each round before it brought one at least.
pub record Grown (v : View) (j k states fresh : ℕ) : Type 0 where
  pub after : AfterRounds v j k states
  pub fresh< : fresh < 2 ^ 64
  pub came : (t : ℕ) → has_bit fresh t ≡ (matches_within v j k t && not (earlier v j k t))
  pub grew : k ≤ count_below 64 (earlier v j k)

-- The states found are related, not in the set, and in the word of predecessors of one that came in last; and these are all found.
pub record Newcomers (words : List ℕ) (related states fresh found : ℕ) : Type 0 where
  pub found< : found < 2 ^ 64
  pub is : (t : ℕ) → T (has_bit found t)
      → T (has_bit related t) × (T (has_bit states t) → ⊥) × ((y : ℕ) × T (has_bit fresh y) × T (has_bit (get_or words y 0) t))
  pub all : (t y : ℕ) → T (has_bit related t) → (T (has_bit states t) → ⊥) → T (has_bit fresh y) → T (has_bit (get_or words y 0) t) → T (has_bit found t)

-- The row has the length at each state of the word below u, and elsewhere what stood there before.
pub record Marked (word u len : ℕ) (before row : List ℕ) : Type 0 where
  pub room : length row ≡ length before
  pub cell : (t : ℕ) → t < 64 → get_or row t 0 ≡ cond (ltb t u && has_bit word t) len (get_or before t 0)

-- The row has the match distance of each state that is in the set before round k, and the number of the other's states elsewhere.
pub record Rounds (v : View) (j k : ℕ) (row : List ℕ) : Type 0 where
  pub room : length row ≡ 64
  pub in-set : (t : ℕ) → t < 64 → T (earlier v j k t) → get_or row t 0 ≡ distance v j t
  pub not_yet : (t : ℕ) → t < 64 → (T (earlier v j k t) → ⊥) → get_or row t 0 ≡ v.other.states
