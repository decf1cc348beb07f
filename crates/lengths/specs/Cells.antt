-- The tables of match distances and of chain lengths of a side: what stands in each cell.
use Rattle.std.specs.Prelude.{ℕ, cond, List, ltb}
use Rattle.lists.specs.Lists.{grid}
use Rattle.bisimulation.specs.Systems.{View}
use Rattle.bisimulation.specs.Maker.{distance, chain_length}
use Rattle.tables.specs.Table.{max_states, max_steps}

-- Row j, column t: the match distance of the own step j at t. Past the last step stand zeros.
unfoldable pub distance_at : View → ℕ → ℕ → ℕ
distance_at v j t = cond (ltb j v.own.steps) (distance v j t) 0

-- Row t, column s: the most steps in a chain at t from s, of at most as many as the side has states.
abbrev pub chain_at : View → ℕ → ℕ → ℕ
chain_at v t s = chain_length v t v.own.states s

-- The two tables, in rows of 64.
abbrev pub distance_table : View → List ℕ
distance_table v = grid max_steps max_states (distance_at v)

abbrev pub chain_table : View → List ℕ
chain_table v = grid max_states max_states (chain_at v)
