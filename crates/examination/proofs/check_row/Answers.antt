-- `examination::check_row` meets its contract: the states related to s are met in rising order, and those before t have passed. Assumes nothing.
use mathlib.Core.Path.{ap, ◌∙◌}
use native.Mathlib.Omega.{arith}
use Rattle.words.specs.declared.Row.{Row}
use Rattle.words.proofs.WalkLaws.{walk_all, before-all, met}
use Rattle.answers.proofs.ExitLaws.{handed-on}
use Rattle.sides.specs.Side.{related_to}
use Rattle.sides.proofs.ViewLaws.{states-few}
use Rattle.examination.specs.Walk.{pair_in}
use Rattle.examination.proofs.WordLaws.{word-start, word_next}
use Rattle.examination.proofs.PairLaws.{row-stops, row-passes}
use Rattle.examination.proofs.check_row.Goals as goal

pub loop-t-init : goal.loop-t-init
loop-t-init c =
    let a = c.args in
    let v = a.view in
    let related = c.related-t-items.ensures in
    let small = rw related.value at related.small in
    let e = ap (λ (r : Row). r.0) c.into_iter-t-iterator.ensures.into_iter_gives ∙ related.value in
    (walk_all small e, word-start (pair_in v.ours.now v.theirs.now a.distances.now a.distances2.now a.s) (related_to v.ours.now a.s) (before-all small e))

pub returns-in_err-check_pair : goal.returns-in_err-check_pair
returns-in_err-check_pair c =
    let a = c.args in
    let v = a.view in
    let i = c.loop-t.invariant in
    let m = met i.0 c.in-Some.ensures.steps in
    let n = c.states-n.ensures.value in
    handed-on c.from_residual.ensures.1
    ∙ row-stops v.ours.now v.theirs.now a.distances.now a.distances2.now a.s (rw (← m.first) at i.1) (omega arith) m.here
    c.in_err-check_pair.ensures

pub loop-t-preserved : goal.loop-t-preserved
loop-t-preserved c =
    let a = c.args in
    let v = a.view in
    let i = c.loop-t.invariant in
    let m = met i.0 c.in-Some.ensures.steps in (
      m.walk,
      word_next (pair_in v.ours.now v.theirs.now a.distances.now a.distances2.now a.s) (related_to v.ours.now a.s) (rw (← m.first) at i.1) m.here
          c.in_ok-check_pair.ensures m.gap,
    )

pub returns-then-n-t : goal.returns-then-n-t
returns-then-n-t c =
    let a = c.args in
    let v = a.view in
    let i = c.loop-t.invariant in
    let first = (met i.0 c.in-Some.ensures.steps).first in
    let n = c.states-n.ensures.value in
    row-passes v.ours.now v.theirs.now a.distances.now a.distances2.now a.s i.1 (omega arith)

pub returns-in-None : goal.returns-in-None
returns-in-None c =
    let a = c.args in
    let v = a.view in
    let few = states-few v.theirs.now in
    let past = c.in-None.ensures.steps in
    row-passes v.ours.now v.theirs.now a.distances.now a.distances2.now a.s c.loop-t.invariant.1 (omega arith)
