-- `examination::check_pairs` meets its contract: every one of our states before s has passed. Assumes nothing.
use mathlib.Core.Path.{◌∙◌}
use native.Mathlib.Omega.{arith}
use Rattle.answers.proofs.ExitLaws.{handed-on}
use Rattle.examination.proofs.PairLaws.{rows-stop, rows_pass}
use Rattle.examination.proofs.check_pairs.Goals as goal

pub returns-in_err-check_row : goal.returns-in_err-check_row
returns-in_err-check_row c =
    let a = c.args in
    let n = c.states-s-end.ensures.value in
    handed-on c.from_residual.ensures.1
    ∙ rows-stop a.view.ours.now a.view.theirs.now a.distances.now a.distances2.now c.loop-s.invariant (omega arith) c.in_err-check_row.ensures

pub returns : goal.returns
returns c =
    let a = c.args in
    let n = c.states-s-end.ensures.value in
    rows_pass a.view.ours.now a.view.theirs.now a.distances.now a.distances2.now c.loop-s.invariant (omega arith)
