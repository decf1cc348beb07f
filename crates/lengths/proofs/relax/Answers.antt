-- `lengths::relax` meets its contract: each turn tests one step, and a step that shortens a length keeps the bounds and makes the sum fall. Assumes nothing.
use Prim.Native.Nat.{ℕ, ◌<◌}
use mathlib.Core.Path.{◌≡◌, sym, ap, ◌∙◌, subst}
use native.Mathlib.Omega.{arith}
use lib.Dec.{T}
use Rattle.words.specs.Bits.{has_bit}
use Rattle.words.proofs.BitLaws.{has-lt}
use Rattle.sides.specs.Side.{related_to, system_in}
use Rattle.sides.specs.Views.{view_in}
use Rattle.lengths.proofs.RelaxingLaws.{shortens-e, round-lower, round-skip}
use Rattle.lengths.proofs.relax.Goals as goal
use Rattle.lengths.proofs.relax.Goals.{then-is_shorter, else-is_shorter}

pub bounds-row-y : goal.bounds-row-y
bounds-row-y c = (shortens-e _ _ _ _ _ c.is_shorter.ensures c.if-is_shorter.true).1

pub bounds-row-x : goal.bounds-row-x
bounds-row-x c = (shortens-e _ _ _ _ _ c.is_shorter.ensures c.if-is_shorter.true).0

pub loop-e-preserved : goal.loop-e-preserved
loop-e-preserved c =
    let related = c.related-from_states in
    let a = c.args in
    let ours = a.view.ours.now in
    let view = view_in ours a.view.theirs.now in
    let r = c.loop-e.invariant in
    let below : c.loop-e.e < (system_in a.view.theirs.now).steps = omega (arith, c.step_count-e-end.ensures.value, c.loop-e-test.true) in
    let word : related.result.0 ≡ related_to ours ((system_in ours).from a.j) = related.ensures.value ∙ ap (related_to ours) c.from.ensures in
    let is : (t : ℕ) → has_bit related.result.0 t ≡ has_bit (related_to ours ((system_in ours).from a.j)) t = λ t. ap (λ (w : ℕ). has_bit w t) word in
    let small : (t : ℕ) → T (has_bit (related_to ours ((system_in ours).from a.j)) t) → t < 64 =
    λ t h. has-lt related.result.0 t related.ensures.small (subst T (sym (is t)) h) in
    elim c.if-is_shorter.branch [
      | then-is_shorter w ↦
          rw (w.row-is, w.changed-is) (round-lower view a.j small _ is r c.from-x.ensures c.to-y.ensures below c.is_shorter.ensures w.if-is_shorter.true)
      | else-is_shorter w ↦
          rw (w.row-is, w.changed-is) (round-skip view a.j small _ is r c.from-x.ensures c.to-y.ensures c.is_shorter.ensures w.if-is_shorter.false)
    ]
