-- Ask 8 of document 02 on bytes, of whatever bytes, slip and output: what the enquiry answers and puts on its slip, what the commit answers and writes, and
-- what the second does with the slip of the first.
use Rattle.std.specs.Prelude.{ℕ, ◌≤◌, ◌≡◌, ◌⊎◌, ◌↔◌, List, T, length}
use Rattle.answers.specs.Numbers.{six_numbers}
use Rattle.answers.specs.Causes.{Answers}
use Rattle.answers.specs.declared.Answer.{Answer}
use Rattle.inputs.specs.InputCauses.{input_code}
use Rattle.ranking.specs.declared.Slip.{Slip}
use Rattle.ranking.specs.Make.{length_for, make_answer, make_output}
use Rattle.ranking.specs.Enquire.{slip_for, blank_slip, commit_answer, commit_output}
use Rattle.ranking.specs.MakerCauses.{enquiry_causes, commit_causes, examination_code}
use Rattle.demands.specs.Demand1.{Made}

-- ---- the enquiry

-- What its answer and its slip are.
pub record EnquiryExact (left right relation : List ℕ) (answer : Answer) (slip : Slip) : Type 0 where
  -- The answer is that of the first cause that applies, of the maker's without 21; where none does, it is 0, 0, L.
  pub answers : Answers (enquiry_causes left right relation) (Made left right) answer
  -- On success the slip has the lengths of the three inputs and L; on a refusal zeros.
  pub true-numbers : answer.code ≡ 0 → slip ≡ slip_for left right relation
  pub zeros : ¬ (answer.code ≡ 0) → slip ≡ blank_slip
  -- The answer is the maker's, on every output to which 21 does not apply: the maker does not answer it, or the output has L bytes or more.
  pub not-21 : (output : List ℕ) → ¬ ((make_answer left right relation output).code ≡ 21) → make_answer left right relation output ≡ answer
  pub has_room : (output : List ℕ) → length_for left right ≤ length output → make_answer left right relation output ≡ answer

-- ---- the commit

-- What its answer and the output afterwards are, for this slip and this output.
pub record CommitExact (left right relation : List ℕ) (slip : Slip) (output : List ℕ) (answer : Answer) (after : List ℕ) : Type 0 where
  -- The answer is that of the first cause that applies, of the maker's with 29 before 21; where none does, it is 0, 0, L.
  pub answers : Answers (commit_causes left right relation slip output) (Made left right) answer
  -- A refusal leaves the output untouched.
  pub untouched : ¬ (answer.code ≡ 0) → after ≡ output
  -- It otherwise behaves as the maker: with the true slip it is the maker, six numbers and bytes, and it succeeds with no other.
  pub as-maker : slip ≡ slip_for left right relation → (answer ≡ make_answer left right relation output) × (after ≡ make_output left right relation output)
  pub no_other : answer.code ≡ 0 → slip ≡ slip_for left right relation

-- ---- one after the other, on unchanged inputs

-- The refusals of what is not read, 1 to 9, 15, 20, 24, 28 and 30, and those of what is read, 16, 17, 22 and 23.
abbrev pub OfReading : Answer → Type 0
OfReading answer = T (input_code answer.code)

abbrev pub OfExamination : Answer → Type 0
OfExamination answer = T (examination_code answer.code)

-- What a commit answers and writes with the slip of an enquiry that answered so.
pub record Committed (left right relation : List ℕ) (enquired : Answer) (slip : Slip) : Type 0 where
  -- With an output of L bytes or more, L as the slip has it, the commit succeeds exactly where the enquiry did.
  pub exactly : (output : List ℕ) → slip.certificate ≤ length output → ((commit_answer left right relation slip output).code ≡ 0) ↔ (enquired.code ≡ 0)
  -- Where the enquiry succeeded, the commit is the maker on every output.
  pub as-maker : enquired.code ≡ 0 → (output : List ℕ)
      → (commit_answer left right relation slip output ≡ make_answer left right relation output)
      × (commit_output left right relation slip output ≡ make_output left right relation output)
  -- Where it was refused, the commit is refused too and leaves every output as it was.
  pub refused : ¬ (enquired.code ≡ 0) → (output : List ℕ)
      → (¬ ((commit_answer left right relation slip output).code ≡ 0)) × (commit_output left right relation slip output ≡ output)
  -- Its refusal is the enquiry's for what is not read, and 29 for what is read; there is no other.
  pub same-refusal : OfReading enquired → (output : List ℕ) → commit_answer left right relation slip output ≡ enquired
  pub other-refusal : OfExamination enquired → (output : List ℕ) → commit_answer left right relation slip output ≡ six_numbers 29 2 0
  pub refusals : (enquired.code ≡ 0) ⊎ (OfReading enquired ⊎ OfExamination enquired)
