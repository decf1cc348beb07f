-- The causes 17 to 19, each worded as its row of document 01's table, and not through the judge's tests; and by which clause a check is met.
use Rattle.outcomes.specs.declared.Outcome.{Outcome}
use Rattle.std.specs.Prelude.{ℕ, ◌≡◌, List, [], ◌∷◌}
use Rattle.bisimulation.specs.Systems.{View, Ranks, flip, swap}
use Rattle.bisimulation.specs.Clauses.{Meets}
use Rattle.answers.specs.Causes.{Cause, ◌gives◌}
use Rattle.obligations.specs.CheckAnswers.{labels_answer, step_answer}
use Rattle.obligations.specs.Outcomes.{Apart, MetFirstBy, HasOutcome}
use Rattle.obligations.specs.Judging.{Check, labels_of, left_step, right_step}
use Rattle.outcomes.specs.declared.Clause.{Clause}

-- 17: the labels differ.
abbrev pub label_causes : View → ℕ → ℕ → List Cause
label_causes v s t = (¬ (v.own.label s ≡ v.other.label t)) gives labels_answer s t ∷ []

-- The obligation of the own step j at t is unmet: 18 where the two are apart, 19 otherwise.
abbrev pub unmet_causes : View → Ranks → ℕ → ℕ → ℕ → ℕ → ℕ → List Cause
unmet_causes v r j t side left right =
    ((¬ Meets v r j t) × Apart v j t) gives step_answer 18 side left right j
    ∷ (¬ Meets v r j t) gives step_answer 19 side left right j
    ∷ []

module _ (v : View) (r : Ranks) where
  -- The causes of a check of the judge.
  abbrev pub check_causes : Check → List Cause
  check_causes (labels_of s t) = label_causes v s t
  check_causes (left_step s t j) = unmet_causes v r j t 0 s t
  check_causes (right_step s t j) = unmet_causes (flip v) (swap r) j s 1 s t

  -- The check is an obligation that is met by the clause.
  abbrev pub CheckMetBy : Clause → Check → Type 0
  CheckMetBy clause (labels_of s t) = ⊥
  CheckMetBy clause (left_step s t j) = MetFirstBy v r j t clause
  CheckMetBy clause (right_step s t j) = MetFirstBy (flip v) (swap r) j s clause

  -- The check is an obligation with this outcome.
  abbrev pub CheckHasOutcome : Check → Outcome → Type 0
  CheckHasOutcome (labels_of s t) outcome = ⊥
  CheckHasOutcome (left_step s t j) outcome = HasOutcome v r j t outcome
  CheckHasOutcome (right_step s t j) outcome = HasOutcome (flip v) (swap r) j s outcome
