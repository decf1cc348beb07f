-- `rank_grids::match_ranks` meets its contract: the cells are made one after the other, each from its row and column. Assumes nothing.
use mathlib.Core.Path.{ap, ◌∙◌}
use Rattle.std.proofs.Common.{rules}
use Prim.Native.Nat.{ℕ}
use Rattle.lists.specs.Lists.{grid}
use Rattle.rank_grids.specs.RankGrids.{match_by}
use Rattle.rank_grids.proofs.CellByCellLaws.{grid-made}
use Rattle.rank_grids.proofs.match_ranks.Goals as goal

pub returns : goal.returns
returns c =
    grid-made _ _ 256 (match_by c.states-n.result c.args.distances.now) (λ i r f' k. search rules) c.from_fn.ensures.items
    ∙ ap (λ (n : ℕ). grid 256 64 (match_by n c.args.distances.now)) c.states-n.ensures.value
