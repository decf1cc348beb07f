-- `match_sets::silent_predecessors` meets its contract: after e steps the words have the ends of the silent ones among them. Assumes nothing.
use mathlib.Core.Path.{sym, ◌∙◌}
use Rattle.lists.proofs.BoolLaws.{eq→eqb}
use lib.Dec.{eqb→eq}
use Rattle.match_sets.proofs.PredecessorLaws.{predecessors-none, predecessors-skip, predecessors-more}
use Rattle.match_sets.proofs.silent_predecessors.Goals as goal
use Rattle.match_sets.proofs.silent_predecessors.Goals.{then-key-eq0, else-key-eq0}

pub loop-e-init : goal.loop-e-init
loop-e-init c = predecessors-none _

pub loop-e-preserved : goal.loop-e-preserved
loop-e-preserved c =
    let i = c.loop-e.invariant in
    let key = c.key.ensures in
    elim c.if-key-eq0.branch [
      | then-key-eq0 w ↦
          rw w.predecessors-is (predecessors-more _ i (eq→eqb _ _ (sym key ∙ w.if-key-eq0.true)) w.from.ensures w.to.ensures w.add_predecessor.ensures)
      | else-key-eq0 w ↦ rw w.predecessors-is (predecessors-skip _ i (λ s. w.if-key-eq0.false (key ∙ eqb→eq _ _ s)))
    ]
