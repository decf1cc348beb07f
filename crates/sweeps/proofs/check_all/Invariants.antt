-- `sweeps::check_all` meets its contract: the left states are met in rising order. Assumes nothing.
use Rattle.sweeps.proofs.CheckLaws.{InRows}
use Rattle.sweeps.proofs.check_all.Given as goal

abbrev pub invariant-loop-s : goal.invariant-loop-s
invariant-loop-s l = InRows l.view.ours.now l.view.theirs.now l.ranks.certificate.now l.ranks.left l.ranks.right l.initial.met l.met l.s
