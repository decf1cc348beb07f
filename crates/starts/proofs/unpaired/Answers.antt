-- `starts::unpaired` meets its contract: their starts are met in rising order, and the states related to each are taken out. Assumes nothing.
use mathlib.Core.Path.{ap, ◌∙◌}
use native.Mathlib.Omega.{arith}
use Rattle.words.specs.declared.Row.{Row}
use Rattle.words.specs.Bits.{without_bits}
use Rattle.words.proofs.WalkLaws.{walk_all, before-all, met}
use Rattle.sides.proofs.ViewLaws.{states-few}
use Rattle.starts.proofs.UnpairingLaws.{unpairing-start, unpairing-next, unpairing-end}
use Rattle.starts.proofs.unpaired.Goals as goal

pub loop-t-init : goal.loop-t-init
loop-t-init c =
    let a = c.args in
    let starts = c.initial-t-items.ensures in
    let small = rw starts.value at starts.small in
    let e = ap (λ (r : Row). r.0) c.into_iter-t-iterator.ensures.into_iter_gives ∙ starts.value in
    (walk_all small e, unpairing-start a.view.ours.now a.view.theirs.now c.initial-alone.ensures.value (before-all small e))

pub loop-t-preserved : goal.loop-t-preserved
loop-t-preserved c =
    let a = c.args in
    let i = c.loop-t.invariant in
    let m = met i.0 c.in-Some.ensures.steps in
    let n = c.states-n.ensures.value in
    let word = c.without-alone.ensures ∙ ap (without_bits c.loop-t.alone.0) c.related.ensures.value in
    (m.walk, unpairing-next a.view.ours.now a.view.theirs.now (rw (← m.first) at i.1) (omega arith) m.here word m.gap)

pub returns-then-n-t : goal.returns-then-n-t
returns-then-n-t c =
    let a = c.args in
    let i = c.loop-t.invariant in
    let first = (met i.0 c.in-Some.ensures.steps).first in
    let n = c.states-n.ensures.value in
    unpairing-end a.view.ours.now a.view.theirs.now i.1 (omega arith)

pub returns-in-None : goal.returns-in-None
returns-in-None c =
    let a = c.args in
    let few = states-few a.view.theirs.now in
    let past = c.in-None.ensures.steps in
    unpairing-end a.view.ours.now a.view.theirs.now c.loop-t.invariant.1 (omega arith)
