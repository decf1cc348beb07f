-- `match_sets::entering` meets its contract: for a silent step the words tell it, for any other the pass over the steps. Assumes nothing.
use native.Mathlib.Omega.{arith}
use Rattle.match_sets.proofs.PredecessorLaws.{enter-silent}
use Rattle.match_sets.proofs.entering.Goals as goal

pub returns-then-by-eq0 : goal.returns-then-by-eq0
returns-then-by-eq0 c = enter-silent _ _ _ c.if-by-eq0.true (omega arith) c.requires c.predecessors_of.ensures
