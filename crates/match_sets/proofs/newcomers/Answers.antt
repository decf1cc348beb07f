-- `match_sets::newcomers` meets its contract: predecessors of those that came in last, of these the related, and of these those not in the set. Assumes nothing.
use native.Mathlib.Omega.{arith}
use Rattle.match_sets.proofs.GrowingLaws.{newcomers-are}
use Rattle.match_sets.proofs.newcomers.Goals as goal

pub returns : goal.returns
returns c = newcomers-are (omega arith) c.predecessors_of-near.ensures c.intersect-inside.ensures c.without.ensures
