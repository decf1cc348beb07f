-- `examination::is_kept` meets its contract: the distance first, then whether the step stays. Assumes nothing.
use Prim.Native.Nat.{ℕ}
use mathlib.Core.Path.{sym, ap, ◌∙◌}
use borrow.Author.Tests.{eq-eqb, ne_eqb, lt-ltb}
use Rattle.words.specs.Bits.{has_bit}
use Rattle.sides.specs.Side.{key_at, related_to}
use Rattle.sides.specs.Views.{view_in}
use Rattle.examination.proofs.KeptLaws.{kept_near, kept-far}
use Rattle.examination.proofs.is_kept.Goals as goal

pub returns-then-byte-states : goal.returns-then-byte-states
returns-then-byte-states c =
    let a = c.args in
    let v = a.view in
    lt-ltb c.byte.result c.states.result c.if-byte-states.true ∙ kept_near (view_in v.ours.now v.theirs.now) a.distances.now a.j a.t c.byte.ensures.value
    c.states.ensures.value c.if-byte-states.true

pub returns-then-key-eq0 : goal.returns-then-key-eq0
returns-then-key-eq0 c =
    let a = c.args in
    let v = a.view in
    let related = c.related.ensures.value ∙ ap (related_to v.ours.now) c.to.ensures in
    kept-far (view_in v.ours.now v.theirs.now) a.distances.now a.j a.t c.byte.ensures.value
    c.states.ensures.value c.if-byte-states.false
    (sym (rw (eq-eqb (key_at v.ours.now a.j) 0 (sym c.key.ensures ∙ c.if-key-eq0.true))
    (sym (c.has.ensures ∙ ap (λ (w : ℕ). has_bit w a.t) related))))

pub returns-else-key-eq0 : goal.returns-else-key-eq0
returns-else-key-eq0 c =
    let a = c.args in
    let v = a.view in
    ne_eqb c.key.result 0 c.if-key-eq0.false ∙ kept-far (view_in v.ours.now v.theirs.now) a.distances.now a.j a.t c.byte.ensures.value
    c.states.ensures.value c.if-byte-states.false
    (sym (rw (ne_eqb (key_at v.ours.now a.j) 0 (λ z. c.if-key-eq0.false (c.key.ensures ∙ z)))))
