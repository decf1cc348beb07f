-- `rank_grids::stutter_ranks` meets its contract: the cells are made one after the other, each from its row and column. Assumes nothing.
use Rattle.std.proofs.Common.{rules}
use Rattle.rank_grids.specs.RankGrids.{stutter_by}
use Rattle.rank_grids.proofs.CellByCellLaws.{grid-made}
use Rattle.rank_grids.proofs.stutter_ranks.Goals as goal

pub returns : goal.returns
returns c = grid-made _ _ 64 (stutter_by c.args.ours.now c.args.chains.now) (λ i r f' k. search rules) c.from_fn.ensures.items
