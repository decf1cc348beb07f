-- `lengths::chains_at` meets its contract: the chains of the open steps are those of the side. Assumes nothing.
use Prim.Native.Nat.{ℕ}
use mathlib.Core.Path.{ap, ◌∙◌}
use Rattle.lists.specs.Lists.{tabulate}
use Rattle.bisimulation.specs.Maker.{chain_along}
use Rattle.sides.specs.Side.{system_in}
use Rattle.sides.specs.Views.{view_in}
use Rattle.lengths.specs.Chains.{open_by}
use Rattle.lengths.proofs.OpenStepLaws.{open_row}
use Rattle.lengths.proofs.chains_at.Goals as goal

pub returns : goal.returns
returns c =
    let a = c.args in
    let S = system_in a.view.ours.now in
    let test = open_by (view_in a.view.ours.now a.view.theirs.now) a.distances.now a.t in
    open_row S test c.open_steps-count.ensures.kept c.states.result c.chain_lengths.ensures
    ∙ ap (λ (k : ℕ). tabulate 64 (chain_along S test k)) c.states.ensures.value
