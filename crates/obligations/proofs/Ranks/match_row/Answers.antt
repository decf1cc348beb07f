-- `obligations::Ranks::match_row` meets its contract: the rest of the certificate from the step's row on, and nothing for a step of 256 or more. Assumes nothing.
use Prim.Native.Nat.{ℕ, ◌+◌, ◌*◌, ◌-◌}
use mathlib.Core.Path.{◌≡◌, sym, ap, ◌∙◌}
use native.Mathlib.Nat.{le_refl}
use native.Mathlib.Omega.{arith}
use borrow.Author.Tests.{lt-ltb, le-ltb}
use lib.ListN.{length, take, drop}
use Rattle.lists.proofs.FillLaws.{part-rest}
use Rattle.obligations.specs.OnSides.{match_row}
use Rattle.obligations.proofs.OnSidesLaws.{product_small}
use Rattle.obligations.proofs.Ranks.match_row.Goals as goal

pub returns-then-j-ge-MAX_STEPS : goal.returns-then-j-ge-MAX_STEPS
unfolding match_row
returns-then-j-ge-MAX_STEPS c =
    let l = c.args.self.certificate.now in
    let z : length l - length l ≡ 0 = omega arith in
    c.part_of.ensures ∙ ap (λ (k : ℕ). take k (drop (length l) l)) z ∙ sym (rw (le-ltb _ 256 c.if-j-ge-MAX_STEPS.true))

pub overflow_mul-j : goal.overflow_mul-j
overflow_mul-j c = let a = c.args in omega (arith, product_small a.j a.self.run.states (omega arith) (omega arith))

pub overflow_add-at : goal.overflow_add-at
overflow_add-at c = let a = c.args in omega (arith, product_small a.j a.self.run.states (omega arith) (omega arith))

pub returns : goal.returns
unfolding match_row
returns c =
    let if1 = c.if-j-ge-MAX_STEPS in
    let a = c.args in
    c.part_of-2.ensures ∙ part-rest a.self.certificate.now (a.self.run.matches + a.j * a.self.run.states) _ (le_refl _) ∙ sym (rw (lt-ltb _ 256 if1.false))
