-- `ranking::SetsFinder::measure` meets its contract: the chains by the table of distances that the sets give are the theory's. Assumes nothing.
use mathlib.Core.Path.{◌∙◌}
use Rattle.sides.specs.Views.{view_in}
use Rattle.sides.proofs.ViewLaws.{steps-few}
use Rattle.lengths.proofs.LengthTableLaws.{table-chains}
use Rattle.ranking.proofs.SetsFinder.measure.Goals as goal

pub returns-clause-chains : goal.returns-clause-chains
returns-clause-chains c =
    let v = c.args.view in
    c.all_chains-chains.ensures ∙ table-chains (view_in v.ours.now v.theirs.now) (steps-few v.ours.now) c.distances-distances.ensures
