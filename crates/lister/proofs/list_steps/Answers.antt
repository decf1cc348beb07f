-- `lister::list_steps` meets its contract: the walk along the links meets each step from the place's own state. Assumes nothing.
use mathlib.Core.Path.{refl, ap, ◌∙◌}
use Rattle.sides.specs.Side.{steps_left}
use Rattle.lister.proofs.PuttingLaws.{putting-start, putting-space, putting-next, putting-end}
use Rattle.lister.proofs.WalkTextLaws.{steps-start, steps_next, steps-end}
use Rattle.lister.proofs.list_steps.Goals as goal

pub loop-j-init : goal.loop-j-init
loop-j-init c =
    let a = c.args in
    putting-start _ a.at a.output.now refl
    (steps-start a.view.ours.now a.view.theirs.now a.ranks.certificate.now a.ranks.run a.place
    (ap steps_left c.into_iter-j-iterator.ensures.into_iter_gives ∙ c.steps_from-j-items.ensures))

pub list_step-end-requires : goal.list_step-end-requires
list_step-end-requires c = putting-space _ _ _ c.loop-j.invariant 126 c.requires

pub loop-j-preserved : goal.loop-j-preserved
loop-j-preserved c =
    let a = c.args in
    putting-next _ a.at a.output.now c.loop-j.invariant _ _
    (steps_next a.view.ours.now a.view.theirs.now a.ranks.certificate.now a.ranks.run a.place c.in-Some.ensures.steps) 126
    c.requires c.list_step-end.ensures

pub returns : goal.returns
returns c =
    let a = c.args in
    putting-end _ _ _ c.loop-j.invariant
    (steps-end a.view.ours.now a.view.theirs.now a.ranks.certificate.now a.ranks.run a.place c.in-None.ensures.steps.0)
