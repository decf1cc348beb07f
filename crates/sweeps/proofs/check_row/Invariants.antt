-- `sweeps::check_row` meets its contract: the word's states are met in rising order. Assumes nothing.
use Rattle.words.specs.Bits.{first_bit}
use Rattle.sweeps.proofs.CheckLaws.{InRow}
use Rattle.sweeps.proofs.check_row.Given as goal

abbrev pub invariant-loop-t : goal.invariant-loop-t
invariant-loop-t l =
    InRow l.view.ours.now l.view.theirs.now l.ranks.certificate.now l.ranks.left l.ranks.right l.s l.initial.met l.met l.t-iterator.rest.0 (first_bit l.t-iterator.rest.0)
