-- `sweeps::check_step` meets its contract: 2a is looked at first, and the ranks where it does not hold. Assumes nothing.
use Prim.Native.Nat.{ℕ}
use mathlib.Core.Path.{refl, sym, ap, ◌∙◌}
use Rattle.std.specs.Option.{is_some}
use Rattle.outcomes.specs.declared.Clause.TheVariants.{Step}
use Rattle.obligations.specs.CheckAnswers.{place_answer}
use Rattle.lists.proofs.SomeLaws.{there-i, not-there-i}
use Rattle.obligations.proofs.OnSidesLaws.{by-step, by-ranks}
use Rattle.sweeps.proofs.SweepLaws.{met-progress, failed-progress}
use Rattle.sweeps.proofs.check_step.Goals as goal

pub returns-then-is_some : goal.returns-then-is_some
returns-then-is_some c =
    let a = c.args in
    met-progress a.view.ours.now a.view.theirs.now a.ranks.certificate.now a.ranks.run a.place a.j a.tally
    (by-step a.view.ours.now a.view.theirs.now a.ranks.certificate.now a.ranks.run a.j a.place.other
    (there-i 64 _ (ap is_some (sym c.serving_state.ensures) ∙ sym c.is_some.ensures ∙ c.if-is_some.true))) Step _ refl c.add.ensures

pub returns-in-Met : goal.returns-in-Met
returns-in-Met c =
    let a = c.args in
    let o = c.outcome_by_ranks.ensures ∙ by-ranks a.view.ours.now a.view.theirs.now a.ranks.certificate.now a.ranks.run a.j a.place.other
    (not-there-i 64 _ (ap is_some (sym c.serving_state.ensures) ∙ sym c.is_some.ensures ∙ c.if-is_some.false)) in
    met-progress a.view.ours.now a.view.theirs.now a.ranks.certificate.now a.ranks.run a.place a.j a.tally o _ _ c.in-Met.is
    c.add-in-Met.ensures

pub returns-in-Failed : goal.returns-in-Failed
returns-in-Failed c =
    let a = c.args in
    let o = c.outcome_by_ranks.ensures ∙ by-ranks a.view.ours.now a.view.theirs.now a.ranks.certificate.now a.ranks.run a.j a.place.other
    (not-there-i 64 _ (ap is_some (sym c.serving_state.ensures) ∙ sym c.is_some.ensures ∙ c.if-is_some.false)) in
    failed-progress a.view.ours.now a.view.theirs.now a.ranks.certificate.now a.ranks.run a.place a.j a.tally o _ c.in-Failed.is
    (c.step_answer.ensures ∙ ap (λ (code : ℕ). place_answer a.place code a.j) c.from.ensures)
