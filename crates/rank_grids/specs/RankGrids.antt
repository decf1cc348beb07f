-- The ranks that a table of chain lengths and a table of match distances give.
use Rattle.std.specs.Prelude.{ℕ, ◌+◌, ◌*◌, cond, List, ltb}
use Rattle.lists.specs.Lists.{grid}
use Rattle.lists.specs.Numbers.{byte_at}
use Rattle.words.specs.Bits.{has_bit}
use Rattle.tables.specs.Table.{max_states, max_steps}
use Rattle.sides.specs.declared.Side.{Side}
use Rattle.sides.specs.Side.{system_in, related_to}

-- The A rank of s at t, by the word of the states related to s: the chain length where t is one of them, else 0.
unfoldable pub stutter_where : (word : ℕ) (chains : List ℕ) → ℕ → ℕ → ℕ
stutter_where word chains s t = cond (has_bit word t) (byte_at chains (t * 64 + s)) 0

-- The same by the side that has s.
abbrev pub stutter_by : (side : Side) (chains : List ℕ) → ℕ → ℕ → ℕ
stutter_by side chains s t = stutter_where (related_to side s) chains s t

-- The C rank of step j at t, where the other side has n states: the distance where the step is matched, else 0.
unfoldable pub match_by : ℕ → (distances : List ℕ) → ℕ → ℕ → ℕ
match_by n distances j t = cond (ltb (byte_at distances (j * 64 + t)) n) (byte_at distances (j * 64 + t)) 0

-- The grids of our ranks, in rows of 64.
abbrev pub stutter_grid : (ours : Side) (chains : List ℕ) → List ℕ
stutter_grid ours chains = grid max_states max_states (stutter_by ours chains)

abbrev pub match_grid : (theirs : Side) (distances : List ℕ) → List ℕ
match_grid theirs distances = grid max_steps max_states (match_by (system_in theirs).states distances)
