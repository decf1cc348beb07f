-- `path_matcher::step_after` meets its contract: the walk along the links stops at the first step that enters the next state. Assumes nothing.
use mathlib.Core.Path.{sym, ap, ap₂, ◌∙◌}
use Rattle.lists.proofs.SomeLaws.{some-i}
use Rattle.sides.specs.Side.{steps_left}
use Rattle.sides.proofs.WalkLaws.{left-below}
use Rattle.path_matcher.specs.OnSides.{step_between}
use Rattle.path_matcher.proofs.PathLaws.{between_start, between-here, between_next, between-end}
use Rattle.path_matcher.proofs.step_after.Goals as goal

pub loop-j-init : goal.loop-j-init
loop-j-init c =
    let side = c.args.side.now in
    let s = c.byte-s in
    let u = c.byte-u in
    ap₂ (step_between side) (sym s.ensures.value) (sym u.ensures.value)
    ∙ between_start side u.result s.result (ap steps_left c.into_iter-j-iterator.ensures.into_iter_gives ∙ c.steps_from-j-items.ensures)

pub returns-then-to-u : goal.returns-then-to-u
returns-then-to-u c =
    let here = c.in-Some.ensures.steps in
    let e = c.loop-j.invariant ∙ between-here _ _ here (sym c.to.ensures ∙ c.if-to-u.true) in
    rw e (sym (some-i (left-below c.loop-j.j-iterator here)))

pub loop-j-preserved : goal.loop-j-preserved
loop-j-preserved c = c.loop-j.invariant ∙ between_next _ _ c.in-Some.ensures.steps (λ e. c.if-to-u.false (c.to.ensures ∙ e))

pub returns : goal.returns
returns c = let e = c.loop-j.invariant ∙ between-end _ _ c.in-None.ensures.steps.0 in rw e
