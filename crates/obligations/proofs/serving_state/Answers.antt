-- `obligations::serving_state` meets its contract: the words are read off the sides. Assumes nothing.
use Prim.Native.Nat.{ℕ}
use mathlib.Core.Path.{ap, ap₂, ◌∙◌}
use lib.Bits.{bit_and}
use Rattle.lists.specs.Below.{some_below}
use Rattle.words.specs.Bits.{first_bit}
use Rattle.sides.specs.Side.{related_to, entered_by}
use Rattle.outcomes.specs.Obligation.{serving_state}
use Rattle.obligations.proofs.serving_state.Goals as goal

pub returns : goal.returns
unfolding serving_state
returns c =
    let a = c.args in
    c.smallest.ensures
    ∙ ap (λ (w : ℕ). some_below 64 (first_bit w))
    (c.intersect-met.ensures
    ∙ ap₂ bit_and (c.entered_by-serving.ensures.value ∙ ap (entered_by a.view.theirs.now a.t) c.key.ensures)
    (c.related-target.ensures.value ∙ ap (related_to a.view.ours.now) c.to.ensures))
