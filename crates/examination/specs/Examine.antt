-- What the maker examines before it writes (document 01, What is turned away, 16, 17, 22 and 23): the starts, then the checks in the judging order with the
-- maker's own test of a step, then the chains of as many steps as their side has states, left side first.
use Rattle.std.specs.Prelude.{ℕ, Bool, cond, ◌&&◌, ◌||◌, leb, eqb, Err}
use Rattle.bisimulation.specs.Systems.{View, flip, stays}
use Rattle.bisimulation.specs.Maker.{matched, chain_length}
use Rattle.answers.specs.Verdicts.{Verdict, ◌and_then◌, passed, pass_if, first_of, first_in}
use Rattle.starts.specs.StartsNamed.{StartsNamed}
use Rattle.obligations.specs.CheckAnswers.{labels_answer, step_answer, chain_answer}
use Rattle.obligations.specs.Judging.{Check, labels_of, left_step, right_step, checks}
use Rattle.starts.specs.StartsVerdict.{starts_verdict}

-- ---- 17 and 22

-- The own step j may be kept at t: it is matched there, or it stays.
unfoldable pub may_keep : View → ℕ → ℕ → Bool
may_keep v j t = matched v j t || stays v j t

-- The verdict on a check, by a test of the left steps at a right state and a test of the right steps at a left state.
unfoldable pub verdict_by : View → (ℕ → ℕ → Bool) → (ℕ → ℕ → Bool) → Check → Verdict (Unit {0})
verdict_by v left right (labels_of s t) = pass_if (eqb (v.own.label s) (v.other.label t)) (labels_answer s t)
verdict_by v left right (left_step s t j) = pass_if (left j t) (step_answer 22 0 s t j)
verdict_by v left right (right_step s t j) = pass_if (right j s) (step_answer 22 1 s t j)

-- The maker's verdict on a check.
unfoldable pub maker_verdict : View → Check → Verdict (Unit {0})
maker_verdict v = verdict_by v (may_keep v) (may_keep (flip v))

-- ---- 23

-- The own state c is related to the fixed state b, and a chain at b from c has as many steps as the side has states.
unfoldable pub endless_at : View → ℕ → ℕ → Bool
endless_at v b c = v.related c b && leb v.own.states (chain_length v b v.own.states c)

-- The first chain that the test finds: the smallest b below m, then the smallest c below n. Side is 0 left, 1 right.
unfoldable pub first_chain : ℕ → ℕ → ℕ → (ℕ → ℕ → Bool) → Verdict (Unit {0})
first_chain side m n long = first_of m (λ b. first_of n (λ c. cond (long b c) (Err (chain_answer side b c)) passed))

unfoldable pub endless : View → ℕ → Verdict (Unit {0})
endless v side = first_chain side v.other.states v.own.states (endless_at v)

-- ---- all of it

unfoldable pub examined : View → StartsNamed → Verdict (Unit {0})
examined v named =
    starts_verdict v named and_then λ x.
    first_in (maker_verdict v) (checks v) and_then λ y.
    endless v 0 and_then λ z.
    endless (flip v) 1
