-- `match_sets::step_distances` meets its contract: the set after k rounds is the one of chase length at most k, and each round before it brought a state.
-- Assumes nothing.
use Prim.Native.Nat.{ℕ, min}
use mathlib.Core.Bool.{not}
use mathlib.Core.Path.{ap, ◌∙◌}
use native.Mathlib.Omega.{arith}
use lib.ListN.{replicate, length-replicate, get_or-replicate}
use Rattle.words.specs.Bits.{has_bit}
use Rattle.sides.specs.Side.{related_to}
use Rattle.match_sets.proofs.GrowingLaws.{grown-first, grown-more, few-rounds, rounds-none, rounds-more, rounds-all, some-fresh, none-fresh}
use Rattle.match_sets.proofs.step_distances.Goals as goal

pub loop-candidates-init : goal.loop-candidates-init
loop-candidates-init c =
    let states = c.states-n in
    record {
      grown = grown-first _ _ c.first_set-set.ensures;
      rounds = rounds-none _ _ (replicate 64 states.result) (length-replicate 64 states.result)
          (λ t h. get_or-replicate 64 t states.result 0 h ∙ states.ensures.value);
    }

pub overflow_add-k : goal.overflow_add-k
overflow_add-k c =
    omega (arith, few-rounds _ _ c.loop-candidates.invariant.grown (some-fresh c.is_empty.ensures (ap not c.loop-candidates-test.true)))

pub loop-candidates-smaller : goal.loop-candidates-smaller
loop-candidates-smaller c =
    omega (arith, few-rounds _ _ c.loop-candidates.invariant.grown (some-fresh c.is_empty.ensures (ap not c.loop-candidates-test.true)))

pub loop-candidates-preserved : goal.loop-candidates-preserved
loop-candidates-preserved c =
    let i = c.loop-candidates.invariant in
    let related = c.related-candidates.ensures in
    let fresh = some-fresh c.is_empty.ensures (ap not c.loop-candidates-test.true) in
    record {
      grown = grown-more _ _ i.grown c.requires related.small
          (λ t. ap (λ (w : ℕ). has_bit w t) (related.value ∙ ap (related_to c.args.view.ours.now) c.from.ensures))
          c.newcomers-fresh.ensures c.union-set.ensures fresh;
      rounds = rounds-more _ _ i.grown i.rounds (c.min.ensures ∙ ap (min _) c.states-n.ensures.value) c.mark.ensures;
    }

pub returns : goal.returns
returns c =
    let i = c.loop-candidates.invariant in
    rounds-all _ _ i.grown i.rounds (none-fresh c.is_empty.ensures (ap not c.loop-candidates-test.false))
