-- `sweeps::check_pair` meets its contract: the labels, then the left sweep, then the right sweep from the tally that the left one leaves. Assumes nothing.
use mathlib.Core.Path.{◌≡◌, refl, sym, ◌∙◌}
use native.Mathlib.Omega.{arith}
use Rattle.std.proofs.lemmas.Result.{err_from_is_err_and}
use Rattle.sides.specs.Side.{system_in}
use Rattle.sweeps.specs.SideVerdicts.{progress}
use Rattle.sweeps.proofs.ProgressLaws.{progress-total}
use Rattle.sweeps.proofs.SweepLaws.{swept-few, swept-as}
use Rattle.sweeps.proofs.CheckLaws.{left_verdicts, labels-differ, left-stops, left-passes}
use Rattle.sweeps.proofs.check_pair.Goals as goal
use Rattle.sweeps.proofs.check_pair.Goals.{Else-label, After-sweep}

labels-equal : (c : Else-label) → let a = c.args in
    (system_in a.view.ours.now).label a.s ≡ (system_in a.view.theirs.now).label a.t
labels-equal c = sym c.label.ensures ∙ c.if-label.false ∙ c.label-2.ensures

-- the left sweep's tally
left-swept : (c : After-sweep) → let a = c.args in
    progress (left_verdicts a.view.ours.now a.view.theirs.now a.ranks.certificate.now a.ranks.left a.ranks.right a.s a.t) a.tally ≡ c.sweep.result
left-swept c =
    sym (c.sweep.ensures ∙ swept-as _ _ _ _ _ c.args.tally refl refl c.of_left-left.ensures.certificate c.of_left-left.ensures.run)

pub returns-then-label : goal.returns-then-label
returns-then-label c =
    let a = c.args in
    sym (labels-differ a.view.ours.now a.view.theirs.now a.ranks.certificate.now a.ranks.left a.ranks.right a.s a.t a.tally
    (λ e. c.if-label.true (c.label.ensures ∙ e ∙ sym c.label-2.ensures)))

pub returns-in_err-met : goal.returns-in_err-met
returns-in_err-met c =
    let a = c.args in
    let p = err_from_is_err_and c.from_residual.result c.from_residual.ensures.1 in
    rw (p.1, p.2)
    (sym (left-stops a.view.ours.now a.view.theirs.now a.ranks.certificate.now a.ranks.left a.ranks.right a.s a.t a.tally
    (labels-equal (goal.at.returns-in_err-met c).Else-label) _ (left-swept (goal.at.returns-in_err-met c).After-sweep ∙ c.in_err-met.was)))

pub sweep-requires-2 : goal.sweep-requires-2
sweep-requires-2 c =
    let a = c.args in
    let n = swept-few a.view.ours.now a.view.theirs.now a.ranks.certificate.now a.ranks.left (record { side = 0; own = a.s; other = a.t }) in
    let m = progress-total _ a.tally c.in_ok-met.met (left-swept (goal.at.sweep-requires-2 c).After-sweep ∙ c.in_ok-met.was) in
    omega arith

pub returns : goal.returns
returns c =
    let a = c.args in
    c.sweep-2.ensures
    ∙ swept-as _ _ _ _ _ c.in_ok-met.met c.turned-turned.ensures.ours c.turned-turned.ensures.theirs c.of_right-right.ensures.certificate
    c.of_right-right.ensures.run
    ∙ sym (left-passes a.view.ours.now a.view.theirs.now a.ranks.certificate.now a.ranks.left a.ranks.right a.s a.t a.tally
    (labels-equal (goal.at.returns c).Else-label) _ (left-swept (goal.at.returns c).After-sweep ∙ c.in_ok-met.was))
