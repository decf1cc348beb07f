-- `sweeps::sweep` meets its contract: the walk along the links meets each step from the place's own state. Assumes nothing.
use mathlib.Core.Path.{sym, ap, ◌∙◌}
use native.Mathlib.Omega.{arith}
use Rattle.std.proofs.lemmas.Result.{err_from_is_err_and}
use Rattle.sides.specs.Side.{steps_left}
use Rattle.sweeps.proofs.SweepLaws.{sweep-start, sweep-small, step-on, step-stop, sweep-end}
use Rattle.sweeps.proofs.sweep.Goals as goal

pub loop-j-init : goal.loop-j-init
loop-j-init c =
    let a = c.args in
    sweep-start a.view.ours.now a.view.theirs.now a.ranks.certificate.now a.ranks.run a.place a.tally
    (ap steps_left c.into_iter-j-iterator.ensures.into_iter_gives ∙ c.steps_from-j-items.ensures)

pub check_step-requires : goal.check_step-requires
check_step-requires c =
    let a = c.args in
    let n = sweep-small a.view.ours.now a.view.theirs.now a.ranks.certificate.now a.ranks.run a.place a.tally c.loop-j.met c.loop-j.invariant in
    omega (arith, n, c.requires)

pub returns-in_err-met : goal.returns-in_err-met
returns-in_err-met c =
    let a = c.args in
    let p = err_from_is_err_and c.from_residual.result c.from_residual.ensures.1 in
    let l = c.loop-j in
    rw (p.1, p.2)
    (sym (step-stop a.view.ours.now a.view.theirs.now a.ranks.certificate.now a.ranks.run a.place a.tally l.met l.invariant c.in-Some.ensures.steps
    (sym c.check_step.ensures ∙ c.in_err-met.was)))

pub loop-j-preserved : goal.loop-j-preserved
loop-j-preserved c =
    let a = c.args in
    let l = c.loop-j in
    step-on a.view.ours.now a.view.theirs.now a.ranks.certificate.now a.ranks.run a.place a.tally l.met l.invariant c.in-Some.ensures.steps
    (sym c.check_step.ensures ∙ c.in_ok-met.was)

pub returns : goal.returns
returns c =
    let a = c.args in
    let l = c.loop-j in
    sym (sweep-end a.view.ours.now a.view.theirs.now a.ranks.certificate.now a.ranks.run a.place a.tally l.met l.invariant c.in-None.ensures.steps.0)
