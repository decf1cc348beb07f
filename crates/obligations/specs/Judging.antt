-- The judging order after the starts (document 01, Duties and clauses): pairs, s rising, then t rising; in a pair the marks, then left steps from s in
-- table order, then right steps from t. And what becomes of each check, for the judge.
use Rattle.outcomes.specs.declared.Outcome.{Outcome}
use Rattle.outcomes.specs.declared.Outcome.TheVariants.{Met, Failed}
use Rattle.std.specs.Prelude.{ℕ, ◌+◌, Bool, cond, List, [], ◌∷◌, ◌++◌, map, eqb, Ok, Err}
use Rattle.lists.specs.Below.{sum_below, count_below}
use Rattle.lists.specs.Lists.{join_below}
use Rattle.bisimulation.specs.Systems.{System, View, Ranks, flip, swap, steps_from}
use Rattle.answers.specs.Verdicts.{Verdict}
use Rattle.outcomes.specs.Obligation.{failure_number, obligation_at}
use Rattle.obligations.specs.CheckAnswers.{labels_answer, step_answer}
use Rattle.outcomes.specs.declared.Clause.{Clause}

-- One thing that is looked at: the labels of the pair s, t; the obligation of left step j; the obligation of right step j.
pub data Check : Type 0 where
  labels_of : ℕ → ℕ → Check
  left_step : ℕ → ℕ → ℕ → Check
  right_step : ℕ → ℕ → ℕ → Check

-- The checks of the pair s, t, where `left s` are the left steps from s, and `right t` the right steps from t, in their order.
unfoldable pub pair_checks : (left right : ℕ → List ℕ) → ℕ → ℕ → List Check
pair_checks left right s t = labels_of s t ∷ map (left_step s t) (left s) ++ map (right_step s t) (right t)

-- The checks of the related pairs, for s below n and t below n'.
unfoldable pub checks_by : (n n' : ℕ) → (related : ℕ → ℕ → Bool) → (left right : ℕ → List ℕ) → List Check
checks_by n n' related left right = join_below n (λ s. join_below n' (λ t. cond (related s t) (pair_checks left right s t) []))

-- All checks of a view, in judging order.
unfoldable pub checks : View → List Check
checks v = checks_by v.own.states v.other.states v.related (steps_from v.own) (steps_from v.other)

-- What a check that goes on has found: nothing to count, or the clause that meets an obligation and the state that serves.
pub data Finding : Type 0 where
  nothing : Finding
  met_by : Clause → ℕ → Finding

-- The verdict on an obligation.
abbrev pub step_verdict : ℕ → ℕ → ℕ → ℕ → Outcome → Verdict Finding
step_verdict side s t j (Met clause x) = Ok (met_by clause x)
step_verdict side s t j (Failed failure) = Err (step_answer (failure_number failure) side s t j)

-- The judge's verdict on a check.
unfoldable pub check_verdict : View → Ranks → Check → Verdict Finding
check_verdict v r (labels_of s t) = cond (eqb (v.own.label s) (v.other.label t)) (Ok nothing) (Err (labels_answer s t))
check_verdict v r (left_step s t j) = step_verdict 0 s t j (obligation_at v r j t)
check_verdict v r (right_step s t j) = step_verdict 1 s t j (obligation_at (flip v) (swap r) j s)

-- How many of the checks are obligations.
abbrev pub is_obligation : Check → ℕ
is_obligation (labels_of s t) = 0
is_obligation (left_step s t j) = 1
is_obligation (right_step s t j) = 1

unfoldable pub count_obligations : List Check → ℕ
count_obligations [] = 0
count_obligations (c ∷ cs) = is_obligation c + count_obligations cs

-- How many steps leave s.
unfoldable pub degree : System → ℕ → ℕ
degree S s = count_below S.steps (λ j. eqb (S.from j) s)

-- The steps from s plus the steps from t, over all related pairs.
unfoldable pub obligations_of : View → ℕ
obligations_of v = sum_below v.own.states (λ s. sum_below v.other.states (λ t. cond (v.related s t) (degree v.own s + degree v.other t) 0))
