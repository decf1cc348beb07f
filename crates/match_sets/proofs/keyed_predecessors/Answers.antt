-- `match_sets::keyed_predecessors` meets its contract: after e steps the states are those from which one of them enters the target. Assumes nothing.
use mathlib.Core.Path.{sym, ◌∙◌}
use Rattle.lists.proofs.BoolLaws.{true-T, false-not-T}
use Rattle.match_sets.proofs.PredecessorLaws.{enter-none, enter-skip, enter-more}
use Rattle.match_sets.proofs.keyed_predecessors.Goals as goal
use Rattle.match_sets.proofs.keyed_predecessors.Goals.{then-enters, else-enters}

pub loop-e-init : goal.loop-e-init
loop-e-init c = enter-none _ _ _ c.empty-found.ensures

pub loop-e-preserved : goal.loop-e-preserved
loop-e-preserved c =
    let i = c.loop-e.invariant in
    let enters = c.enters.ensures in
    elim c.if-enters.branch [
      | then-enters w ↦ rw w.found-is (enter-more _ _ _ i (true-T _ (sym enters ∙ w.if-enters.true)) w.from.ensures w.add-found.ensures)
      | else-enters w ↦ rw w.found-is (enter-skip _ _ _ i (false-not-T _ (sym enters ∙ w.if-enters.false)))
    ]
