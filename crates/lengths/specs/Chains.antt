-- Inner: chains by a table of match distances.
use Rattle.std.specs.Prelude.{ℕ, ◌+◌, ◌*◌, Bool, ◌&&◌, List, leb}
use Rattle.lists.specs.Numbers.{byte_at}
use Rattle.bisimulation.specs.Systems.{View, stays}
use Rattle.bisimulation.specs.Maker.{chain_along}

-- The own step j may stand in a chain at t, by a table of match distances: it stays at t, and the table has it as unmatched there.
unfoldable pub open_by : View → List ℕ → ℕ → ℕ → Bool
open_by v distances t j = stays v j t && leb v.other.states (byte_at distances (j * 64 + t))

-- The most steps in a chain at t from s, of at most as many as the side has states, by the table.
abbrev pub chain_by : View → List ℕ → ℕ → ℕ → ℕ
chain_by v distances t s = chain_along v.own (open_by v distances t) v.own.states s
