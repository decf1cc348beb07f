-- `obligations::obligation_at` meets its contract: 2a is looked at first, and the ranks where it does not hold. Assumes nothing.
use mathlib.Core.Path.{sym, ◌∙◌}
use Rattle.obligations.proofs.OnSidesLaws.{by-step, by-ranks}
use Rattle.obligations.proofs.obligation_at.Goals as goal

pub returns-in-Some : goal.returns-in-Some
returns-in-Some c =
    let a = c.args in
    by-step a.view.ours.now a.view.theirs.now a.ranks.certificate.now a.ranks.run a.j a.t (sym c.in-Some.ensures)

pub returns : goal.returns
returns c =
    let a = c.args in
    c.outcome_by_ranks.ensures
    ∙ by-ranks a.view.ours.now a.view.theirs.now a.ranks.certificate.now a.ranks.run a.j a.t (sym c.in_default.ensures)
