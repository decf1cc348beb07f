-- Inner: the ranks of two sides that are examined, from their lengths.
use Rattle.bisimulation.specs.Systems.{Ranks}
use Rattle.rank_grids.specs.RankGrids.{stutter_grid, match_grid}
use Rattle.files.specs.Writer.{ranks_in}
use Rattle.ranking.specs.declared.Examined.{Examined}

abbrev pub ranks_from : Examined → Ranks
ranks_from e =
    ranks_in (stutter_grid e.ours e.lengths.chains) (stutter_grid e.theirs e.lengths2.chains)
    (match_grid e.theirs e.lengths.distances) (match_grid e.ours e.lengths2.distances)
