-- Demand 1 on bytes, of whatever bytes: the software either succeeds with the numbers that document 01 defines, or refuses with the one number whose condition
-- and place in the order fit, and then the output is untouched. The causes in their order are `judge_causes` and `maker_causes`.
use Rattle.std.specs.Prelude.{ℕ, ◌+◌, ◌*◌, ◌≤◌, ◌≡◌, List}
use Rattle.lists.specs.Below.{sum_below}
use Rattle.lists.specs.Lists.{Counts}
use Rattle.words.specs.Bits.{count_bits}
use Rattle.answers.specs.Numbers.{six_numbers}
use Rattle.answers.specs.Causes.{Answers}
use Rattle.answers.specs.declared.Answer.{Answer}
use Rattle.tables.specs.Table.{states_of, steps_of}
use Rattle.certificates.specs.Layout.{sizes_of, certificate_length, rows_part, row_of}
use Rattle.certificates.specs.CertificateModel.{certified_view as view, certified_ranks as ranks}
use Rattle.obligations.specs.CheckCauses.{CheckMetBy}
use Rattle.obligations.specs.Judging.{checks, obligations_of}
use Rattle.outcomes.specs.declared.Clause.TheVariants.{Step, Stutter, Match}
use Rattle.checker.specs.JudgeCauses.{judge_causes}
use Rattle.ranking.specs.MakerCauses.{maker_causes}

-- ---- the judge

-- The answer of an accepted certificate: the related pairs, as a count of one bits, and the obligations met by 2a, 2b and 2c.
pub record Accepted (left right c : List ℕ) (answer : Answer) : Type 0 where
  pub code-0 : answer.code ≡ 0
  pub file-0 : answer.file ≡ 0
  pub pairs : answer.a ≡ sum_below (states_of left) (λ s. count_bits (row_of (rows_part c (sizes_of left right)) s))
  pub by-2a : Counts (CheckMetBy (view left right c) (ranks left right c) Step) (checks (view left right c)) answer.b
  pub by-2b : Counts (CheckMetBy (view left right c) (ranks left right c) Stutter) (checks (view left right c)) answer.c
  pub by-2c : Counts (CheckMetBy (view left right c) (ranks left right c) Match) (checks (view left right c)) answer.d
  -- the last three sum to the steps from s plus the steps from t over all related pairs, at most m1 n2 + m2 n1
  pub together : answer.b + (answer.c + answer.d) ≡ obligations_of (view left right c)
  pub at_most : answer.b + (answer.c + answer.d) ≤ steps_of left * states_of right + steps_of right * states_of left

-- The judge's answer is that of the first cause that applies, or, where none does, counts as an acceptance should.
abbrev pub JudgeAnswers : (left right c : List ℕ) → Answer → Type 0
JudgeAnswers left right c = Answers (judge_causes left right c) (Accepted left right c)

-- ---- the maker

-- The maker succeeds with 0, 0, L.
abbrev pub Made : (left right : List ℕ) → Answer → Type 0
Made left right answer = answer ≡ six_numbers 0 0 (certificate_length (sizes_of left right))

-- The maker's answer is that of the first cause that applies, or 0, 0, L where none does, and a refusal leaves the output untouched.
pub record MakerAnswers (left right relation output : List ℕ) (answer : Answer) (after : List ℕ) : Type 0 where
  pub answers : Answers (maker_causes left right relation output) (Made left right) answer
  pub untouched : ¬ (answer.code ≡ 0) → after ≡ output
