-- `relation_words::column_word` meets its contract: each word that has t adds its state. Assumes nothing.
use Prim.Native.Nat.{ℕ}
use mathlib.Core.Path.{◌≡◌, sym, ap, ◌∙◌}
use native.Mathlib.Omega.{arith}
use Rattle.words.specs.Bits.{add_bit}
use Rattle.words.specs.declared.Row.{Row}
use Rattle.relation_words.specs.Relation.{column_word}
use Rattle.relation_words.proofs.RelationLaws.{column-in, column-out}
use Rattle.relation_words.proofs.column_word.Goals as goal
use Rattle.relation_words.proofs.column_word.Goals.{then-has, else-has}

pub loop-s-init : goal.loop-s-init
unfolding column_word
loop-s-init c = c.empty-states.ensures

pub loop-s-preserved : goal.loop-s-preserved
loop-s-preserved c =
    let l = c.loop-s in
    let a = c.args in
    let e = sym c.has.ensures in
    elim c.if-has.branch [
      | then-has w ↦ ap (λ (r : Row). r.0) w.states-is ∙ w.add-states.ensures ∙ ap (λ (x : ℕ). add_bit x l.s) l.invariant
          ∙ column-in a.words.now a.t l.s (e ∙ w.if-has.true)
      | else-has w ↦ ap (λ (r : Row). r.0) w.states-is ∙ l.invariant ∙ column-out a.words.now a.t l.s (e ∙ w.if-has.false)
    ]

pub returns : goal.returns
returns c = let h : c.loop-s.s ≡ 64 = omega arith in rw h at c.loop-s.invariant
