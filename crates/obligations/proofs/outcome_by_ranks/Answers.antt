-- `obligations::outcome_by_ranks` meets its contract: 2b is looked at first, for a step that stays, and then 2c. Assumes nothing.
use mathlib.Core.Path.{◌≡◌, ap₂, ◌∙◌}
use mathlib.Core.Bool.{false}
use lib.Bits.{bit_and}
use Rattle.obligations.proofs.OnSidesLaws.{stutters, by-stutter, stutters-not, stutters-level, by-match}
use Rattle.obligations.proofs.outcome_by_ranks.Goals as goal
use Rattle.obligations.proofs.outcome_by_ranks.Goals.{else-staying-via-then-staying+else-stutter_at, else-staying-via-else-staying}

pub returns-then-stutter_at : goal.returns-then-stutter_at
returns-then-stutter_at c =
    let a = c.args in
    by-stutter a.view.ours.now a.view.theirs.now a.ranks.certificate.now a.ranks.run a.j a.t c.from-s.ensures c.to-u.ensures
    c.stays-staying.ensures c.if-staying.true
    c.stutter_at-then-staying.ensures c.stutter_at.ensures c.if-stutter_at.true

pub returns : goal.returns
returns c =
    let a = c.args in
    let es = c.from-s.ensures in
    let eu = c.to-u.ensures in
    let ey = c.stays-staying.ensures in
    let not-met : stutters a.view.ours.now a.view.theirs.now a.ranks.certificate.now a.ranks.run a.j a.t es eu ey ≡ false =
    elim c.else-staying.branch [
      | else-staying-via-then-staying+else-stutter_at w ↦ stutters-level a.view.ours.now a.view.theirs.now a.ranks.certificate.now a.ranks.run a.j a.t es eu ey
          w.stutter_at-then-staying.ensures w.stutter_at.ensures w.if-stutter_at.false
      | else-staying-via-else-staying w ↦ stutters-not a.view.ours.now a.view.theirs.now a.ranks.certificate.now a.ranks.run a.j a.t es eu ey w.if-staying.false
    ] in
    c.without_stutter.ensures
    ∙ by-match a.view.ours.now a.view.theirs.now a.ranks.certificate.now a.ranks.run a.j a.t es eu ey not-met
    (c.intersect-ahead.ensures ∙ ap₂ bit_and c.silent-quiet.ensures.value
    c.related.ensures.value)
    c.match_row.ensures
