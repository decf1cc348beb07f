-- `examination::is_long` meets its contract: the relation first, then the length. Assumes nothing.
use Prim.Native.Nat.{ℕ}
use mathlib.Core.Path.{ap, ◌∙◌}
use Rattle.words.specs.Bits.{has_bit}
use Rattle.sides.specs.Views.{view_in}
use Rattle.examination.proofs.KeptLaws.{long-related, long-unrelated}
use Rattle.examination.proofs.is_long.Goals as goal

pub returns-then-has : goal.returns-then-has
returns-then-has c =
    let a = c.args in
    long-related (view_in a.view.ours.now a.view.theirs.now) a.chains.now a.b a.c
    (c.has.ensures ∙ ap (λ (w : ℕ). has_bit w a.c) c.related.ensures.value) c.if-has.true c.byte.ensures.value
    c.states.ensures.value

pub returns-else-has : goal.returns-else-has
returns-else-has c =
    let a = c.args in
    c.if-has.false ∙ long-unrelated (view_in a.view.ours.now a.view.theirs.now) a.chains.now a.b a.c
    (c.has.ensures ∙ ap (λ (w : ℕ). has_bit w a.c) c.related.ensures.value) c.if-has.false
