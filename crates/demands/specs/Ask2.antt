-- Ask 2 of document 02 on bytes, for any three files: where the judge accepts, the listing says how each obligation is met.
use Rattle.outcomes.specs.declared.Outcome.TheVariants.{Met}
use Rattle.std.specs.Prelude.{ℕ, ◌≡◌}
use mathlib.Core.List.{List, [], ◌∷◌, flat_map}
use Rattle.lists.specs.Lists.{Counts, Beside}
use Rattle.bisimulation.specs.Systems.{View, Ranks, flip, swap}
use Rattle.answers.specs.declared.Answer.{Answer}
use Rattle.certificates.specs.CertificateModel.{certified_view as view, certified_ranks as ranks}
use Rattle.outcomes.specs.declared.Clause.{Clause}
use Rattle.outcomes.specs.Obligation.{clause_number}
use Rattle.obligations.specs.Outcomes.{HasOutcome}
use Rattle.obligations.specs.Judging.{Check, labels_of, left_step, right_step, checks}
use Rattle.texts.specs.Texts.{answer_text}
use Rattle.lister.specs.Listing.{Line, listing_of, line_text, printed}

-- The obligations among checks, in their order.
abbrev pub obligations_in : List Check → List Check
obligations_in [] = []
obligations_in (labels_of s t ∷ cs) = obligations_in cs
obligations_in (left_step s t j ∷ cs) = left_step s t j ∷ obligations_in cs
obligations_in (right_step s t j ∷ cs) = right_step s t j ∷ obligations_in cs

-- The line says how the obligation of the own step j at the state `at` is met: it names the side, the pair s, t and the step, the first of 2a, 2b and 2c
-- that holds, and the smallest state that serves it by this clause.
pub record Says (v : View) (r : Ranks) (at side s t j : ℕ) (line : Line) : Type 0 where
  pub side-is : line.side ≡ side
  pub left_is : line.left ≡ s
  pub right_is : line.right ≡ t
  pub step_is : line.step ≡ j
  pub clause : Clause
  pub clause-is : line.clause ≡ clause_number clause
  pub met : HasOutcome v r j at (Met clause line.state)

-- It is the line of the check.
abbrev pub LineOf : View → Ranks → Check → Line → Type 0
LineOf v r (labels_of s t) line = ⊥
LineOf v r (left_step s t j) line = Says v r t 0 s t j line
LineOf v r (right_step s t j) line = Says (flip v) (swap r) s 1 s t j line

-- What is listed and printed, beside the judge's answer.
pub record ListingExact (left right c : List ℕ) (answer : Answer) : Type 0 where
  -- Where the judge accepts, there is one line for each obligation of every related pair, in judging order.
  pub lines : answer.code ≡ 0
      → Beside (LineOf (view left right c) (ranks left right c)) (obligations_in (checks (view left right c))) (listing_of left right c)
  -- The lines with clause 1, 2 and 3 are as many as the answer's b, c and d say.
  pub by-2a : answer.code ≡ 0 → Counts (λ l. l.clause ≡ 1) (listing_of left right c) answer.b
  pub by-2b : answer.code ≡ 0 → Counts (λ l. l.clause ≡ 2) (listing_of left right c) answer.c
  pub by-2c : answer.code ≡ 0 → Counts (λ l. l.clause ≡ 3) (listing_of left right c) answer.d
  -- These lines are printed and nothing else; on a refusal the six numbers only.
  pub accepted : answer.code ≡ 0 → printed left right c ≡ flat_map line_text (listing_of left right c)
  pub refused : ¬ (answer.code ≡ 0) → printed left right c ≡ answer_text answer
