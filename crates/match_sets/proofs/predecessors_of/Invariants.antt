-- `match_sets::predecessors_of` meets its contract: a walk over the states of the set, whose words are joined. Assumes nothing.
use Rattle.words.specs.Bits.{first_bit}
use Rattle.words.proofs.WalkLaws.{Walk}
use Rattle.match_sets.specs.Predecessors.{ComeFrom}
use Rattle.match_sets.proofs.predecessors_of.Given as goal

abbrev pub invariant-loop-y : goal.invariant-loop-y
invariant-loop-y l =
    Walk l.fn.set.0 l.y-iterator.rest.0 (first_bit l.y-iterator.rest.0)
    × ComeFrom l.predecessors l.fn.set.0 (first_bit l.y-iterator.rest.0) l.found.0
