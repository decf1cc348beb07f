-- `lister::list_steps` meets its contract: the walk along the links meets each step from the place's own state. Assumes nothing.
use Rattle.sides.specs.Side.{steps_left}
use Rattle.lister.specs.OnSides.{steps_text}
use Rattle.lister.proofs.PuttingLaws.{Putting}
use Rattle.lister.proofs.WalkTextLaws.{left_text}
use Rattle.lister.proofs.list_steps.Given as goal

abbrev pub invariant-loop-j : goal.invariant-loop-j
invariant-loop-j l =
    Putting (steps_text l.view.ours.now l.view.theirs.now l.ranks.certificate.now l.ranks.run l.place) l.at l.initial.output
    (left_text l.view.ours.now l.view.theirs.now l.ranks.certificate.now l.ranks.run l.place (steps_left l.j-iterator)) l.end l.output
