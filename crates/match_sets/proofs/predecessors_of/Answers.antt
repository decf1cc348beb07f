-- `match_sets::predecessors_of` meets its contract: a walk over the states of the set, whose words are joined. Assumes nothing.
use mathlib.Core.Path.{ap}
use native.Mathlib.Omega.{arith}
use Rattle.words.specs.declared.Row.{Row}
use Rattle.words.proofs.WalkLaws.{walk_all, before-all, met}
use Rattle.match_sets.proofs.PredecessorLaws.{come-none, come-more, come-all}
use Rattle.match_sets.proofs.predecessors_of.Goals as goal

pub loop-y-init : goal.loop-y-init
loop-y-init c =
    let e = ap (λ (r : Row). r.0) c.into_iter-y-iterator.ensures.into_iter_gives in
    (walk_all (omega arith) e, come-none _ _ c.empty-found.ensures (before-all (omega arith) e))

pub loop-y-preserved : goal.loop-y-preserved
loop-y-preserved c =
    let i = c.loop-y.invariant in
    let m = met i.0 c.in-Some.ensures.steps in
    (m.walk, come-more _ _ (rw (← m.first) at i.1) m.here (c.fits-predecessors _) c.union-found.ensures m.gap)

pub returns : goal.returns
returns c = come-all _ _ c.loop-y.invariant.1 c.in-None.ensures.steps
