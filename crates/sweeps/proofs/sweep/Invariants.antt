-- `sweeps::sweep` meets its contract: the walk along the links meets each step from the place's own state. Assumes nothing.
use Rattle.sides.specs.Side.{steps_left}
use Rattle.sweeps.proofs.SweepLaws.{InSweep}
use Rattle.sweeps.proofs.sweep.Given as goal

abbrev pub invariant-loop-j : goal.invariant-loop-j
invariant-loop-j l = InSweep l.view.ours.now l.view.theirs.now l.ranks.certificate.now l.ranks.run l.place l.initial.met l.met (steps_left l.j-iterator)
