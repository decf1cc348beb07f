-- `path_matcher::next_move` meets its contract: by the obligation's outcome, and past the last state by the states that steps enter. Assumes nothing.
use Prim.Native.Nat.{ℕ}
use mathlib.Core.Path.{refl, sym, ap, ◌∙◌}
use mathlib.Core.Logic.{inl, inr}
use native.Mathlib.Omega.{arith}
use Rattle.std.specs.Option.{is_some}
use Rattle.lists.specs.Below.{some_below}
use Rattle.lists.specs.Numbers.{byte_at}
use Rattle.words.specs.Bits.{first_bit}
use Rattle.sides.specs.Side.{silent_from}
use Rattle.outcomes.specs.declared.Clause.TheVariants.{Step, Stutter, Match}
use Rattle.lists.proofs.SomeLaws.{some-e, none-e, there-i, not-there-i}
use Rattle.path_matcher.proofs.MoveLaws.{after-some, after_none, some-step, move-by, move-met, move-on, move-none}
use Rattle.path_matcher.proofs.next_move.Goals as goal

pub returns-in_default : goal.returns-in_default
returns-in_default c = absurd (some-step c.requires.all_met c.requires.stands_at (omega arith) c.in_default.is)

pub returns-in_default-obligation_at : goal.returns-in_default-obligation_at
returns-in_default-obligation_at c =
    let a = c.requires in
    move-by a.all_met a.stands_at (omega arith) c.in-Some.is _ c.obligation_at.ensures c.in_default-obligation_at.is

pub returns-in-Step : goal.returns-in-Step
returns-in-Step c =
    let a = c.requires in
    move-met a.all_met a.stands_at (omega arith) c.in-Some.is Step c.obligation_at.ensures c.in-Met.is c.in-Step.is

pub returns-in-Stutter : goal.returns-in-Stutter
returns-in-Stutter c =
    let a = c.requires in
    move-met a.all_met a.stands_at (omega arith) c.in-Some.is Stutter c.obligation_at.ensures c.in-Met.is c.in-Stutter.is

pub returns-in-Match : goal.returns-in-Match
returns-in-Match c =
    let a = c.requires in
    move-met a.all_met a.stands_at (omega arith) c.in-Some.is Match c.obligation_at.ensures c.in-Met.is c.in-Match.is

pub returns-then-is_some : goal.returns-then-is_some
returns-then-is_some c =
    let a = c.args in
    let e = c.smallest_after.ensures ∙ ap (λ (s : ℕ). some_below 64 (first_bit (silent_from a.view.ours.now s))) c.byte.ensures.value in
    let s = some-e (there-i 64 _ (ap is_some (sym e) ∙ sym c.is_some.ensures ∙ c.if-is_some.true)) in
    move-none c.requires.all_met c.requires.stands_at (omega arith)
    (inl (after-some c.requires.all_met.plain (byte_at a.path.now a.place) refl s.0).0)

pub returns-in-Some-smallest_after : goal.returns-in-Some-smallest_after
returns-in-Some-smallest_after c =
    let a = c.args in
    let e = c.smallest_after.ensures ∙ ap (λ (s : ℕ). some_below 64 (first_bit (silent_from a.view.ours.now s))) c.byte.ensures.value in
    let n = none-e (not-there-i 64 _ (ap is_some (sym e) ∙ sym c.is_some.ensures ∙ c.if-is_some.false)) in
    let s = some-e (sym c.in-Some-smallest_after.ensures) in
    let x = after-some c.requires.all_met.plain' a.state refl s.0 in
    move-on c.requires.all_met c.requires.stands_at (omega arith)
    (after_none c.requires.all_met.plain (byte_at a.path.now a.place) refl n) x.0 (sym s.1 ∙ x.1)

pub returns-in-None : goal.returns-in-None
returns-in-None c =
    let n = none-e (sym c.smallest_after-2.ensures ∙ c.in-None.is) in
    move-none c.requires.all_met c.requires.stands_at (omega arith) (inr (after_none c.requires.all_met.plain' c.args.state refl n))
