-- `match_sets::mark` meets its contract: a walk over the states of the set, with a store at each. Assumes nothing.
use Rattle.words.specs.Bits.{first_bit}
use Rattle.words.proofs.WalkLaws.{Walk}
use Rattle.match_sets.specs.Growing.{Marked}
use Rattle.match_sets.proofs.mark.Given as goal

abbrev pub invariant-loop-t : goal.invariant-loop-t
invariant-loop-t l =
    Walk l.fn.set.0 l.t-iterator.rest.0 (first_bit l.t-iterator.rest.0)
    × Marked l.fn.set.0 (first_bit l.t-iterator.rest.0) l.value l.initial.row l.row
