-- Inner: the verdicts on a step, on a pair and on a state with all states related to it, as the walk over two sides meets them.
use Rattle.std.specs.Prelude.{ℕ, cond, List, []}
use Rattle.lists.specs.Lists.{join_below}
use Rattle.answers.specs.Verdicts.{Verdict, pass_if, first_in}
use Rattle.sides.specs.declared.Side.{Side}
use Rattle.sides.specs.Side.{system_in, steps_in}
use Rattle.sides.specs.Views.{view_in}
use Rattle.obligations.specs.CheckAnswers.{place_answer}
use Rattle.obligations.specs.Judging.{pair_checks}
use Rattle.obligations.specs.declared.Place.{Place}
use Rattle.examination.specs.OnSides.{kept_by, verdict_in}

-- Our step j at a place.
abbrev pub step_verdict_in : (ours theirs : Side) (distances : List ℕ) → Place → ℕ → Verdict (Unit {0})
step_verdict_in ours theirs distances place j = pass_if (kept_by (view_in ours theirs) distances j place.other) (place_answer place 22 j)

module _ (ours theirs : Side) (distances distances' : List ℕ) where
  -- The pair s, t, and our state s with the states related to it.
  abbrev pub pair_in : ℕ → ℕ → Verdict (Unit {0})
  pair_in s t = first_in (verdict_in ours theirs distances distances') (pair_checks (steps_in ours) (steps_in theirs) s t)

  abbrev pub row_in : ℕ → Verdict (Unit {0})
  row_in s =
      first_in (verdict_in ours theirs distances distances')
      (join_below (system_in theirs).states (λ t. cond ((view_in ours theirs).related s t) (pair_checks (steps_in ours) (steps_in theirs) s t) []))
