-- `examination::check_row` meets its contract: the states related to s are met in rising order, and those before t have passed. Assumes nothing.
use Rattle.words.specs.Bits.{first_bit}
use Rattle.words.proofs.WalkLaws.{Walk}
use Rattle.sides.specs.Side.{related_to}
use Rattle.examination.specs.Walk.{pair_in}
use Rattle.examination.proofs.WordLaws.{BeforeState}
use Rattle.examination.proofs.check_row.Given as goal

abbrev pub invariant-loop-t : goal.invariant-loop-t
invariant-loop-t l = Walk (related_to l.view.ours.now l.s) l.t-iterator.rest.0 (first_bit l.t-iterator.rest.0)
    × BeforeState (pair_in l.view.ours.now l.view.theirs.now l.distances l.distances2 l.s) (related_to l.view.ours.now l.s) (first_bit l.t-iterator.rest.0)
