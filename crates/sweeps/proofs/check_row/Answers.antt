-- `sweeps::check_row` meets its contract: the word's states are met in rising order. Assumes nothing.
use mathlib.Core.Path.{refl, sym, ap, ◌∙◌}
use native.Mathlib.Omega.{arith}
use Rattle.std.proofs.lemmas.Result.{err_from_is_err_and}
use Rattle.words.specs.declared.Row.{Row}
use Rattle.sweeps.proofs.CheckLaws.{row-start, pair-stops, pair-passes, row-end}
use Rattle.sweeps.proofs.check_row.Goals as goal

pub loop-t-init : goal.loop-t-init
loop-t-init c =
    let a = c.args in
    let e = ap (λ (r : Row). r.0) c.into_iter-t-iterator.ensures.into_iter_gives in
    row-start a.view.ours.now a.view.theirs.now a.ranks.certificate.now a.ranks.left a.ranks.right a.s a.tally (e ∙ c.related-t-items.ensures.value) (omega arith) refl

pub returns-then-n-t : goal.returns-then-n-t
returns-then-n-t c =
    let a = c.args in
    let l = c.loop-t in
    let n = c.in-Some.ensures.steps in
    sym (row-end a.view.ours.now a.view.theirs.now a.ranks.certificate.now a.ranks.left a.ranks.right a.s a.tally l.met l.t-iterator.rest.0
    _ l.invariant (omega arith))

pub returns-in_err-met : goal.returns-in_err-met
returns-in_err-met c =
    let a = c.args in
    let p = err_from_is_err_and c.from_residual.result c.from_residual.ensures.1 in
    let l = c.loop-t in
    let n = c.in-Some.ensures.steps in
    rw (p.1, p.2)
    (sym (pair-stops a.view.ours.now a.view.theirs.now a.ranks.certificate.now a.ranks.left a.ranks.right a.s a.tally l.met l.t-iterator.rest.0 c.in-Some.t
    (rw (← n.1) at l.invariant) _ (omega arith) (sym c.check_pair.ensures ∙ c.in_err-met.was)))

pub loop-t-preserved : goal.loop-t-preserved
loop-t-preserved c =
    let a = c.args in
    let l = c.loop-t in
    let n = c.in-Some.ensures.steps in
    pair-passes a.view.ours.now a.view.theirs.now a.ranks.certificate.now a.ranks.left a.ranks.right a.s a.tally l.met l.t-iterator.rest.0 c.in-Some.t (rw (← n.1) at l.invariant)
    c.in_ok-met.met (omega arith) (sym c.check_pair.ensures ∙ c.in_ok-met.was) n.2 refl

pub returns : goal.returns
returns c =
    let a = c.args in
    let l = c.loop-t in
    let n = c.in-None.ensures.steps in
    sym (row-end a.view.ours.now a.view.theirs.now a.ranks.certificate.now a.ranks.left a.ranks.right a.s a.tally l.met l.t-iterator.rest.0
    _ l.invariant (omega arith))
