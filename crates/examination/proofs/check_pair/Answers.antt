-- `examination::check_pair` meets its contract: the labels, then our steps and theirs. Assumes nothing.
use mathlib.Core.Path.{sym, ◌∙◌}
use Rattle.answers.proofs.ExitLaws.{handed-on}
use Rattle.examination.proofs.PairLaws.{labels-differ, left-refused, right-decides}
use Rattle.examination.proofs.check_pair.Goals as goal

pub returns-then-label : goal.returns-then-label
returns-then-label c =
    let a = c.args in
    labels-differ a.view.ours.now a.view.theirs.now a.distances.now a.distances2.now a.s a.t
    (λ e. c.if-label.true (c.label.ensures ∙ e ∙ sym c.label-2.ensures))

pub returns-in_err-check_steps : goal.returns-in_err-check_steps
returns-in_err-check_steps c =
    let a = c.args in
    let same = sym c.label.ensures ∙ c.if-label.false ∙ c.label-2.ensures in
    handed-on c.from_residual.ensures.1
    ∙ left-refused a.view.ours.now a.view.theirs.now a.distances.now a.distances2.now a.s a.t same c.in_err-check_steps.ensures

pub returns : goal.returns
returns c =
    let a = c.args in
    let same = sym c.label.ensures ∙ c.if-label.false ∙ c.label-2.ensures in
    let turned = c.turned.ensures in
    c.check_steps-2.ensures
    ∙ rw (turned.ours, turned.theirs)
    (right-decides a.view.ours.now a.view.theirs.now a.distances.now a.distances2.now a.s a.t same c.in_ok-check_steps.ensures)
