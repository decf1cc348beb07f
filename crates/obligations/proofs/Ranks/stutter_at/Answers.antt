-- `obligations::Ranks::stutter_at` meets its contract: states of 64 or more are told apart, and the place of any other fits. Assumes nothing.
use mathlib.Core.Path.{sym, ◌∙◌}
use mathlib.Core.Logic.{inl, inr}
use native.Mathlib.Omega.{arith}
use borrow.Author.Tests.{lt-ltb, le-ltb}
use Rattle.obligations.specs.OnSides.{stutter_at}
use Rattle.obligations.proofs.OnSidesLaws.{product_small}
use Rattle.obligations.proofs.Ranks.stutter_at.Goals as goal

pub returns-then-s-ge-MAX_STATES : goal.returns-then-s-ge-MAX_STATES
unfolding stutter_at
returns-then-s-ge-MAX_STATES c =
    elim c.then-s-ge-MAX_STATES.either [
      | inl h ↦ sym (rw (le-ltb _ 64 h))
      | inr h ↦ sym (rw (lt-ltb _ 64 h.0, le-ltb _ 64 h.1))
    ]

pub overflow_mul-s : goal.overflow_mul-s
overflow_mul-s c = let a = c.args in omega (arith, product_small a.s a.self.run.states (omega arith) (omega arith))

pub overflow_add-s : goal.overflow_add-s
overflow_add-s c = let a = c.args in omega (arith, product_small a.s a.self.run.states (omega arith) (omega arith))

pub overflow_add-at : goal.overflow_add-at
overflow_add-at c = let a = c.args in omega (arith, product_small a.s a.self.run.states (omega arith) (omega arith))

pub returns : goal.returns
unfolding stutter_at
returns c = c.byte.ensures.value ∙ sym (rw (lt-ltb _ 64 c.if-s-ge-MAX_STATES.false, lt-ltb _ 64 c.if-t-ge-MAX_STATES.false))
