-- The examination as it is read off two sides and the tables of their match distances and chain lengths, in rows of 64.
use Rattle.std.specs.Prelude.{ℕ, ◌+◌, ◌*◌, Bool, ◌&&◌, ◌||◌, List, ltb, leb}
use Rattle.lists.specs.Numbers.{byte_at}
use Rattle.bisimulation.specs.Systems.{View, stays}
use Rattle.tables.specs.Table.{max_states}
use Rattle.answers.specs.Verdicts.{Verdict, ◌and_then◌, first_in}
use Rattle.sides.specs.declared.Side.{Side}
use Rattle.sides.specs.Side.{system_in}
use Rattle.sides.specs.Views.{view_in}
use Rattle.obligations.specs.Judging.{Check}
use Rattle.obligations.specs.OnSides.{checks_in}
use Rattle.starts.specs.StartsVerdict.{starts_in}
use Rattle.examination.specs.Examine.{verdict_by, first_chain}

-- The own step j may be kept at t: it is matched there by the table of distances, or it stays.
unfoldable pub kept_by : View → List ℕ → ℕ → ℕ → Bool
kept_by v distances j t = ltb (byte_at distances (j * max_states + t)) v.other.states || stays v j t

-- The own fixed state b is related to c, and by the table of chain lengths the chain at b from c has as many steps as the other side has states, or more.
unfoldable pub long_by : View → List ℕ → ℕ → ℕ → Bool
long_by v chains b c = v.related b c && leb v.other.states (byte_at chains (b * max_states + c))

module _ (ours theirs : Side) where
  -- Their chains at our states.
  abbrev pub chains_in : ℕ → List ℕ → Verdict (Unit {0})
  chains_in side chains = first_chain side (system_in ours).states (system_in theirs).states (long_by (view_in ours theirs) chains)

module _ (ours theirs : Side) (distances distances' : List ℕ) where
  -- The verdict on a check.
  abbrev pub verdict_in : Check → Verdict (Unit {0})
  verdict_in = verdict_by (view_in ours theirs) (kept_by (view_in ours theirs) distances) (kept_by (view_in theirs ours) distances')

  -- All of it: the starts, the checks in judging order, our chains, their chains.
  unfoldable pub examined_in : (chains chains' : List ℕ) → Verdict (Unit {0})
  examined_in chains chains' =
      starts_in ours theirs and_then λ x.
      first_in verdict_in (checks_in ours theirs) and_then λ y.
      chains_in theirs ours 0 chains and_then λ z.
      chains_in ours theirs 1 chains'
