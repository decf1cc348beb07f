-- `match_sets::keyed_predecessors` meets its contract: after e steps the states are those from which one of them enters the target. Assumes nothing.
use Rattle.match_sets.specs.Predecessors.{EnterBy}
use Rattle.match_sets.proofs.keyed_predecessors.Given as goal

abbrev pub invariant-loop-e : goal.invariant-loop-e
invariant-loop-e l = EnterBy l.theirs l.by l.target.0 l.e l.found.0
