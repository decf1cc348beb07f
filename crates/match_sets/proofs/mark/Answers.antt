-- `match_sets::mark` meets its contract: a walk over the states of the set, with a store at each. Assumes nothing.
use mathlib.Core.Path.{ap}
use native.Mathlib.Omega.{arith}
use Rattle.words.specs.declared.Row.{Row}
use Rattle.words.proofs.WalkLaws.{walk_all, before-all, met}
use Rattle.match_sets.proofs.MarkLaws.{marked-none, marked_more, marked_all}
use Rattle.match_sets.proofs.mark.Goals as goal

pub loop-t-init : goal.loop-t-init
loop-t-init c =
    let e = ap (λ (r : Row). r.0) c.into_iter-t-iterator.ensures.into_iter_gives in
    (walk_all (omega arith) e, marked-none _ _ _ (before-all (omega arith) e))

pub loop-t-preserved : goal.loop-t-preserved
loop-t-preserved c =
    let i = c.loop-t.invariant in
    let m = met i.0 c.in-Some.ensures.steps in
    (m.walk, marked_more _ _ _ (rw (← m.first) at i.1) c.told-row m.small m.rises m.here m.gap)

pub returns : goal.returns
returns c = marked_all _ _ _ c.loop-t.invariant.1 c.in-None.ensures.steps
