-- `lengths::start` meets its contract: after e steps the row is 0 where one of them meets the obligation, and the number of states elsewhere. Assumes nothing.
use Prim.Native.Nat.{◌<◌}
use mathlib.Core.Path.{◌≡◌, refl, ap, ◌∙◌}
use native.Mathlib.Omega.{arith}
use lib.ListN.{replicate, length-replicate, get_or-replicate}
use Rattle.sides.specs.Side.{related_to, system_in}
use Rattle.lengths.proofs.RelaxingLaws.{bounds-none, met-from, start-hit, start-miss, zeroed-none, zeroed-more, zeroed-settled}
use Rattle.lengths.proofs.start.Goals as goal
use Rattle.lengths.proofs.start.Goals.{then-is_met, else-is_met, After-step_count-e-end}

-- the words of the states related to the two ends of our step
ends : (c : After-step_count-e-end)
    → (c.related-from_states.result.0 ≡ related_to c.args.view.ours.now ((system_in c.args.view.ours.now).from c.args.j))
    × (c.related-to_states.result.0 ≡ related_to c.args.view.ours.now ((system_in c.args.view.ours.now).to c.args.j))
ends c = (
  c.related-from_states.ensures.value ∙ ap (related_to c.args.view.ours.now) c.from.ensures,
  c.related-to_states.ensures.value ∙ ap (related_to c.args.view.ours.now) c.to.ensures,
)

pub loop-e-init : goal.loop-e-init
loop-e-init c =
    record {
      bounds = bounds-none _ _ (replicate 64 c.states.result) (length-replicate 64 c.states.result)
          (λ t h. get_or-replicate 64 t c.states.result 0 h ∙ c.states.ensures.value);
      zeroed = zeroed-none (replicate 64 c.states.result) c.empty-matched.ensures;
    }

pub bounds-row-x : goal.bounds-row-x
bounds-row-x c =
    let d = ends (goal.at.bounds-row-x c).After-step_count-e-end in
    rw c.from-x.ensures (met-from _ _ _ d.0 d.1 c.key-by.ensures c.loop-e.invariant.bounds c.is_met.ensures c.related-from_states.ensures.small c.if-is_met.true)

pub loop-e-preserved : goal.loop-e-preserved
loop-e-preserved c =
    let a = c.args in
    let ours = a.view.ours.now in
    let theirs = a.view.theirs.now in
    let d = ends (goal.at.loop-e-preserved c).After-step_count-e-end in
    let i = c.loop-e.invariant in
    let met = c.is_met.ensures in
    let small = c.related-from_states.ensures.small in
    let by = c.key-by.ensures in
    let below : c.loop-e.e < (system_in theirs).steps = omega (arith, c.step_count-e-end.ensures.value, c.loop-e-test.true) in
    elim c.if-is_met.branch [
      | then-is_met w ↦
          let x : w.from-x.result < 64 = rw w.from-x.ensures (met-from ours theirs a.j d.0 d.1 by i.bounds met small w.if-is_met.true) in
          rw (w.row-is, w.matched-is) (record {
            bounds = start-hit ours theirs a.j d.0 d.1 by i.bounds met below small w.if-is_met.true w.from-x.ensures;
            zeroed = zeroed-more i.zeroed x i.bounds.len w.add-matched.ensures;
          })
      | else-is_met w ↦
          rw (w.row-is, w.matched-is) (record {
            bounds = start-miss ours theirs a.j d.0 d.1 by i.bounds met w.if-is_met.false;
            zeroed = i.zeroed;
          })
    ]

pub returns-clause-settled : goal.returns-clause-settled
returns-clause-settled c =
    let d = ends (goal.at.returns-clause-settled c).After-step_count-e-end in
    zeroed-settled c.args.view.ours.now c.args.view.theirs.now c.args.j d.0 c.loop-e.invariant.zeroed c.without-rest.ensures c.is_empty.ensures refl
