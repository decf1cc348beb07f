-- `examination::check_steps` meets its contract: what is left of the walk decides. Assumes nothing.
use Rattle.std.specs.Prelude.{Err}
use mathlib.Core.Path.{sym, ap, ◌∙◌}
use mathlib.Core.Bool.{Bool, not}
use borrow.Author.Tests.{not-true, not-false}
use Rattle.answers.specs.Verdicts.{pass_if, first_in}
use Rattle.sides.specs.declared.StepsFrom.{StepsFrom}
use Rattle.sides.specs.Side.{steps_left}
use Rattle.sides.proofs.WalkLaws.{left-below}
use Rattle.obligations.specs.CheckAnswers.{place_answer}
use Rattle.examination.specs.Walk.{step_verdict_in}
use Rattle.examination.proofs.StepLaws.{step-passes, step-refuses, steps-end}
use Rattle.examination.proofs.check_steps.Goals as goal

pub loop-j-init : goal.loop-j-init
loop-j-init c =
    let a = c.args in
    let f = step_verdict_in a.view.ours.now a.view.theirs.now a.distances.now a.place in
    ap (λ (walk : StepsFrom). first_in f (steps_left walk)) c.into_iter-j-iterator.ensures.into_iter_gives ∙ ap (first_in f) c.steps_from-j-items.ensures

pub is_kept-requires : goal.is_kept-requires
is_kept-requires c = (left-below c.loop-j.j-iterator c.in-Some.ensures.steps, c.requires)

pub returns-then-not-is_kept : goal.returns-then-not-is_kept
returns-then-not-is_kept c =
    let a = c.args in
    let j = c.in-Some.j in
    let f = step_verdict_in a.view.ours.now a.view.theirs.now a.distances.now a.place in
    let refused = ap (λ (b : Bool). pass_if b (place_answer a.place 22 j)) (sym c.is_kept.ensures ∙ not-true _ (ap not c.if-not-is_kept.true)) in
    ap Err c.step_answer.ensures ∙ sym (step-refuses f c.in-Some.ensures.steps refused) ∙ c.loop-j.invariant

pub loop-j-preserved : goal.loop-j-preserved
loop-j-preserved c =
    let a = c.args in
    let j = c.in-Some.j in
    let f = step_verdict_in a.view.ours.now a.view.theirs.now a.distances.now a.place in
    let passes = ap (λ (b : Bool). pass_if b (place_answer a.place 22 j)) (sym c.is_kept.ensures ∙ not-false _ (ap not c.if-not-is_kept.false)) in
    sym (step-passes f c.in-Some.ensures.steps passes) ∙ c.loop-j.invariant

pub returns : goal.returns
returns c =
    let a = c.args in
    sym (steps-end (step_verdict_in a.view.ours.now a.view.theirs.now a.distances.now a.place) c.in-None.ensures.steps.0) ∙ c.loop-j.invariant
