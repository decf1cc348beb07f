-- How the judge goes on over verdicts, and the verdicts on the checks, as they are read off two sides and a certificate.
use Rattle.std.specs.Prelude.{ℕ, cond, List, [], map, eqb, Ok, Err}
use Rattle.lists.specs.Lists.{join_below}
use Rattle.words.specs.Bits.{has_bit}
use Rattle.answers.specs.Verdicts.{Verdict, along}
use Rattle.answers.specs.declared.Answer.{Answer}
use Rattle.sides.specs.declared.Side.{Side}
use Rattle.sides.specs.Side.{system_in, related_to, steps_in}
use Rattle.obligations.specs.declared.Place.{Place}
use Rattle.obligations.specs.declared.Run.{Run}
use Rattle.obligations.specs.CheckAnswers.{labels_answer, left_state, right_state}
use Rattle.obligations.specs.Judging.{Check, labels_of, left_step, right_step, pair_checks, Finding, nothing, step_verdict}
use Rattle.obligations.specs.OnSides.{checks_in, obligation_in}
use Rattle.sweeps.specs.declared.Tally.{Tally}
use Rattle.sweeps.specs.Tallies.{tallied, acceptance}

-- ---- how the judge goes on

-- What was counted, or the first answer that refuses.
unfoldable pub progress : List (Verdict Finding) → Tally → Verdict Tally
progress verdicts y = along tallied verdicts y

-- The answer at the end of all checks.
abbrev pub end_answer : ℕ → Verdict Tally → Answer
end_answer pairs (Ok y) = acceptance pairs y
end_answer pairs (Err answer) = answer

-- ---- what is read off

-- The verdict on the obligation of our step j at the place.
unfoldable pub step_in : (ours theirs : Side) (certificate : List ℕ) → Run → Place → ℕ → Verdict Finding
step_in ours theirs certificate run place j =
    step_verdict place.side (left_state place) (right_state place) j (obligation_in ours theirs certificate run j place.other)

-- The verdicts on our steps from the place's own state.
unfoldable pub swept : (ours theirs : Side) (certificate : List ℕ) → Run → Place → List (Verdict Finding)
swept ours theirs certificate run place = map (step_in ours theirs certificate run place) (steps_in ours place.own)

-- Each side has its own runs of ranks.
module _ (ours theirs : Side) (certificate : List ℕ) (left right : Run) where
  -- The verdict on a check.
  unfoldable pub verdict_in : Check → Verdict Finding
  verdict_in (labels_of s t) = cond (eqb ((system_in ours).label s) ((system_in theirs).label t)) (Ok nothing) (Err (labels_answer s t))
  verdict_in (left_step s t j) = step_in ours theirs certificate left (record { side = 0; own = s; other = t }) j
  verdict_in (right_step s t j) = step_in theirs ours certificate right (record { side = 1; own = t; other = s }) j

  -- The verdicts on a pair, on a left state's pairs, and on all.
  unfoldable pub pair_verdicts : ℕ → ℕ → List (Verdict Finding)
  pair_verdicts s t = map verdict_in (pair_checks (steps_in ours) (steps_in theirs) s t)

  unfoldable pub row_verdicts : ℕ → List (Verdict Finding)
  row_verdicts s = join_below (system_in theirs).states (λ t. cond (has_bit (related_to ours s) t) (pair_verdicts s t) [])

  unfoldable pub all_verdicts : List (Verdict Finding)
  all_verdicts = map verdict_in (checks_in ours theirs)
