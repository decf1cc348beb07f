-- The grids of ranks that true tables of lengths give hold the theory's ranks. Assumes nothing.
use Prim.Native.Nat.{ℕ, ◌+◌, ◌*◌, ◌<◌}
use mathlib.Core.Path.{◌≡◌, sym, ap, ◌∙◌}
use mathlib.Core.Bool.{cond}
use mathlib.Core.List.{List}
use native.Mathlib.Omega.{arith}
use lib.Dec.{ltb}
use Rattle.lists.specs.Lists.{grid}
use Rattle.lists.specs.Numbers.{byte_at}
use Rattle.lists.proofs.FillLaws.{get_or-grid}
use Rattle.words.specs.Bits.{has_bit}
use Rattle.bisimulation.specs.Systems.{View}
use Rattle.bisimulation.specs.Maker.{stutter_rank, match_rank}
use Rattle.sides.specs.declared.Side.{Side}
use Rattle.sides.specs.Side.{related_to}
use Rattle.sides.specs.Views.{view_in}
use Rattle.lengths.specs.Cells.{distance_at, chain_at}
use Rattle.rank_grids.specs.RankGrids.{stutter_where, stutter_by, match_by}
use Rattle.lengths.proofs.DistanceLaws.{match-rank-distance}
use Rattle.sides.proofs.ViewLaws.{steps-few}
use Rattle.lengths.proofs.LengthTableLaws.{table-distance, table-chain}

module _ (ours theirs : Side) where
  abbrev v : View
  v = view_in ours theirs

  -- the A ranks by the true chain lengths
  pub stutter-by-chains : {chains : List ℕ} → chains ≡ grid 64 64 (chain_at v) → (s t : ℕ) → s < 64 → t < 64
      → byte_at (grid 64 64 (stutter_by ours chains)) (s * 64 + t) ≡ stutter_rank v s t
  unfolding stutter_where stutter_rank
  stutter-by-chains {chains} are s t h l =
      get_or-grid 64 64 (stutter_by ours chains) s t h l
      ∙ ap (λ (d : ℕ). cond (has_bit (related_to ours s) t) d 0) (ap (λ (x : List ℕ). byte_at x (t * 64 + s)) are ∙ table-chain v t s l h)

  -- the C ranks by the true distances
  pub match-by-table : {distances : List ℕ} → distances ≡ grid 256 64 (distance_at v) → (j t : ℕ) → j < v.own.steps → t < 64
      → byte_at (grid 256 64 (match_by v.other.states distances)) (j * 64 + t) ≡ match_rank v j t
  unfolding match_by
  match-by-table {distances} are j t h l =
      get_or-grid 256 64 (match_by v.other.states distances) j t (let k = steps-few ours in omega arith) l
      ∙ ap (λ (d : ℕ). cond (ltb d v.other.states) d 0) (ap (λ (x : List ℕ). byte_at x (j * 64 + t)) are ∙ table-distance v (steps-few ours) j t h l)
      ∙ sym (match-rank-distance v j t)
