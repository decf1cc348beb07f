-- `lengths::measure` meets its contract: the chains by the table of distances are the theory's. Assumes nothing.
use mathlib.Core.Path.{◌∙◌}
use Rattle.sides.specs.Views.{view_in}
use Rattle.lengths.proofs.LengthTableLaws.{table-chains}
use Rattle.sides.proofs.ViewLaws.{steps-few}
use Rattle.lengths.proofs.measure.Goals as goal

pub returns : goal.returns
returns c =
    let a = c.args in
    let d = c.all_distances-distances.ensures in
    record { distances = d; chains = c.all_chains-chains.ensures ∙ table-chains (view_in a.view.ours.now a.view.theirs.now) (steps-few a.view.ours.now) d }
