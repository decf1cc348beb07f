-- `sides::Side::entered_by` meets its contract: the walk along the links ends at the first step with the key, or past the last. Assumes nothing.
use mathlib.Core.Path.{sym, ap, ◌∙◌}
use Rattle.sides.specs.declared.StepsFrom.{StepsFrom}
use Rattle.sides.specs.Side.{steps_left, group_along}
use Rattle.sides.proofs.GroupLaws.{group-hit, group-miss, group-end, group-start, silent-start}
use Rattle.sides.proofs.Side.entered_by.Goals as goal

pub returns-then-by-eq0-clause-value : goal.returns-then-by-eq0-clause-value
returns-then-by-eq0-clause-value c = c.silent.ensures.value ∙ sym (silent-start c.args.self.now c.args.s c.args.by c.if-by-eq0.true)

pub loop-j-init : goal.loop-j-init
loop-j-init c =
    let a = c.args in
    ap (λ (walk : StepsFrom). group_along a.self.now a.by (steps_left walk)) c.into_iter-j-iterator.ensures.into_iter_gives
    ∙ ap (group_along a.self.now a.by) c.steps_from-j-items.ensures
    ∙ sym (group-start a.self.now a.s a.by c.if-by-eq0.false)

pub returns-then-key-by-clause-value : goal.returns-then-key-by-clause-value
returns-then-key-by-clause-value c =
    c.group.ensures.value
    ∙ sym (group-hit c.args.self.now c.args.by c.in-Some.ensures.steps (sym c.key.ensures ∙ c.if-key-by.true))
    ∙ c.loop-j.invariant

pub loop-j-preserved : goal.loop-j-preserved
loop-j-preserved c =
    sym (group-miss c.args.self.now c.args.by c.in-Some.ensures.steps (λ e. c.if-key-by.false (c.key.ensures ∙ e))) ∙ c.loop-j.invariant

pub returns-clause-value : goal.returns-clause-value
returns-clause-value c = c.empty.ensures ∙ sym (group-end c.args.self.now c.args.by c.in-None.ensures.steps.0) ∙ c.loop-j.invariant
