-- The listing (document 02, Ask 2): where the judge accepts, one line for each obligation in judging order, and on a refusal the judge's six numbers.
use Rattle.outcomes.specs.declared.Outcome.{Outcome}
use Rattle.outcomes.specs.declared.Outcome.TheVariants.{Met, Failed}
use Rattle.std.specs.Prelude.{ℕ, cond, eqb}
use mathlib.Core.List.{List, [], ◌∷◌, flat_map}
use Rattle.bisimulation.specs.Systems.{View, Ranks, flip, swap}
use Rattle.certificates.specs.CertificateModel.{certified_view, certified_ranks}
use Rattle.outcomes.specs.Obligation.{clause_number, obligation_at}
use Rattle.obligations.specs.Judging.{Check, labels_of, left_step, right_step, checks}
use Rattle.checker.specs.Judge.{judge_answer}
use Rattle.texts.specs.Texts.{six_text, answer_text}

-- A line: the side, the pair's left and right state, the step, the clause as 1, 2 or 3, and the answering state.
pub record Line : Type 0 where
  pub side : ℕ
  pub left : ℕ
  pub right : ℕ
  pub step : ℕ
  pub clause : ℕ
  pub state : ℕ

-- The line of an obligation that is met, of step j of the side at the pair s, t. One that fails has none.
abbrev pub outcome_lines : (side s t j : ℕ) → Outcome → List Line
outcome_lines side s t j (Met clause x) = record { side = side; left = s; right = t; step = j; clause = clause_number clause; state = x } ∷ []
outcome_lines side s t j (Failed failure) = []

module _ (v : View) (r : Ranks) where
  -- The line of a check: labels are no obligation, and have none.
  unfoldable pub check_lines : Check → List Line
  check_lines (labels_of s t) = []
  check_lines (left_step s t j) = outcome_lines 0 s t j (obligation_at v r j t)
  check_lines (right_step s t j) = outcome_lines 1 s t j (obligation_at (flip v) (swap r) j s)

  -- The lines of all checks, in judging order.
  unfoldable pub listing : List Line
  listing = flat_map check_lines (checks v)

-- The listing of two tables and a certificate.
abbrev pub listing_of : (left right c : List ℕ) → List Line
listing_of left right c = listing (certified_view left right c) (certified_ranks left right c)

-- A line as it is printed.
abbrev pub line_text : Line → List ℕ
line_text l = six_text l.side l.left l.right l.step l.clause l.state

-- What the program prints.
unfoldable pub printed : (left right c : List ℕ) → List ℕ
printed left right c =
    cond (eqb (judge_answer left right c).code 0) (flat_map line_text (listing_of left right c)) (answer_text (judge_answer left right c))
