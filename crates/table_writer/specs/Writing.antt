-- What the table writer answers and writes (document 02, Ask 7), for any marks, start word and steps and any output: the first refusal of 4, 28, 6, 8, 9 and
-- 21, all with file 3; or 0, 0 and the length, with the file at the front of the output. n is the number of marks, and m that of the steps given.
use Rattle.std.specs.Prelude.{ℕ, ◌/◌, ◌%◌, ◌<◌, ◌≡◌, Bool, not, ◌||◌, List, leb, ltb, eqb, length, get_or}
use Rattle.lists.specs.Below.{any_below}
use Rattle.answers.specs.Numbers.{six_numbers}
use Rattle.answers.specs.Verdicts.{Verdict, ◌and_then◌, pass_if, room_verdict, first_of, answer_of, output_after}
use Rattle.answers.specs.declared.Answer.{Answer}
use Rattle.tables.specs.Table.{max_steps}
use Rattle.table_reader.specs.TableReading.{states_fit, wrong_starts}
use Rattle.table_writer.specs.TableFile.{table_file, file_length}

-- Step j, as a number, and the states that it leaves and enters: from in the high byte, to in the low one.
abbrev pub step_at : List ℕ → ℕ → ℕ
step_at steps j = get_or steps j 0

abbrev pub from_at : List ℕ → ℕ → ℕ
from_at steps j = step_at steps j / 256

abbrev pub to_at : List ℕ → ℕ → ℕ
to_at steps j = step_at steps j % 256

-- The step from s to u stands in the list.
abbrev pub StepGiven : List ℕ → (s u : ℕ) → Type 0
StepGiven steps s u = (j : ℕ) × (j < length steps) × (from_at steps j ≡ s) × (to_at steps j ≡ u)

-- An end of a step is n or more, and of step j.
abbrev pub step_outside : (n step : ℕ) → Bool
step_outside n step = leb n (step / 256) || leb n (step % 256)

unfoldable pub end_outside : (n : ℕ) (steps : List ℕ) → ℕ → Bool
end_outside n steps j = leb n (from_at steps j) || leb n (to_at steps j)

-- Step j equals an earlier one.
unfoldable pub equals_earlier : List ℕ → ℕ → Bool
equals_earlier steps j = any_below j (λ i. eqb (step_at steps i) (step_at steps j))

module _ (marks : List ℕ) (starts : ℕ) (steps output : List ℕ) where
  -- The verdict on whatever is given.
  unfoldable pub write_verdict : Verdict (Unit {0})
  write_verdict =
      pass_if (states_fit (length marks)) (six_numbers 4 3 0) and_then λ x.
      pass_if (not (wrong_starts starts (length marks))) (six_numbers 28 3 0) and_then λ x.
      pass_if (not (ltb max_steps (length steps))) (six_numbers 6 3 0) and_then λ x.
      first_of (length steps) (λ j. pass_if (not (end_outside (length marks) steps j)) (six_numbers 8 3 j)) and_then λ x.
      first_of (length steps) (λ j. pass_if (not (equals_earlier steps j)) (six_numbers 9 3 j)) and_then λ x.
      room_verdict (file_length (length marks) (length steps)) (length output)

  -- Success is 0, 0 and the length.
  unfoldable pub write_answer : Answer
  write_answer = answer_of (λ x. six_numbers 0 0 (file_length (length marks) (length steps))) write_verdict

  -- The output afterwards.
  unfoldable pub write_output : List ℕ
  write_output = output_after write_verdict (table_file marks starts steps) output
