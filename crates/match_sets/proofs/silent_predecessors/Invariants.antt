-- `match_sets::silent_predecessors` meets its contract: after e steps the words have the ends of the silent ones among them. Assumes nothing.
use Rattle.sides.specs.Side.{system_in}
use Rattle.match_sets.specs.Predecessors.{Predecessors}
use Rattle.match_sets.proofs.silent_predecessors.Given as goal

abbrev pub invariant-loop-e : goal.invariant-loop-e
invariant-loop-e l = Predecessors (system_in l.theirs) l.e l.predecessors
