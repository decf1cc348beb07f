-- `examination::check_steps` meets its contract: what is left of the walk decides. Assumes nothing.
use mathlib.Core.Path.{◌≡◌}
use Rattle.answers.specs.Verdicts.{first_in}
use Rattle.sides.specs.Side.{steps_in, steps_left}
use Rattle.examination.specs.Walk.{step_verdict_in}
use Rattle.examination.proofs.check_steps.Given as goal

abbrev pub invariant-loop-j : goal.invariant-loop-j
invariant-loop-j l = first_in (step_verdict_in l.view.ours.now l.view.theirs.now l.distances l.place) (steps_left l.j-iterator)
    ≡ first_in (step_verdict_in l.view.ours.now l.view.theirs.now l.distances l.place) (steps_in l.view.ours.now l.place.own)
