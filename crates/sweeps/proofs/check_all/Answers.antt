-- `sweeps::check_all` meets its contract: the left states are met in rising order. Assumes nothing.
use mathlib.Core.Path.{sym, ◌∙◌}
use native.Mathlib.Omega.{arith}
use Rattle.std.proofs.lemmas.Result.{err_from_is_err_and}
use Rattle.sweeps.specs.Tallies.{none}
use Rattle.sweeps.proofs.CheckLaws.{rows_start, row-stops, row-passes, rows_end}
use Rattle.sweeps.proofs.check_all.Goals as goal

pub loop-s-init : goal.loop-s-init
loop-s-init c = let a = c.args in rows_start a.view.ours.now a.view.theirs.now a.ranks.certificate.now a.ranks.left a.ranks.right none

pub returns-in_err-met : goal.returns-in_err-met
returns-in_err-met c =
    let a = c.args in
    let p = err_from_is_err_and c.from_residual.result c.from_residual.ensures.1 in
    let l = c.loop-s in
    rw (p.1, p.2)
    (sym (row-stops a.view.ours.now a.view.theirs.now a.ranks.certificate.now a.ranks.left a.ranks.right none l.met l.s l.invariant _ (omega arith)
    (sym c.check_row.ensures ∙ c.in_err-met.was)))

pub loop-s-preserved : goal.loop-s-preserved
loop-s-preserved c =
    let a = c.args in
    let l = c.loop-s in
    row-passes a.view.ours.now a.view.theirs.now a.ranks.certificate.now a.ranks.left a.ranks.right none l.met l.s l.invariant c.in_ok-met.met (omega arith)
    (sym c.check_row.ensures ∙ c.in_ok-met.was)

pub returns : goal.returns
returns c =
    let a = c.args in
    let l = c.loop-s in
    sym (rows_end a.view.ours.now a.view.theirs.now a.ranks.certificate.now a.ranks.left a.ranks.right none l.met l.s l.invariant (omega arith))
