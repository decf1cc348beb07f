-- Ask 7 of document 02 on bytes, for any marks, start word and steps and any output: what the table writer answers and writes, that it is read back, and when
-- two tables that it writes are equal.
use Rattle.std.specs.Prelude.{ℕ, ◌+◌, ◌*◌, ◌^◌, ◌≤◌, ◌<◌, ◌≡◌, ◌↔◌, List, length, take, drop, get_or}
use Rattle.lists.specs.Lists.{All, StandsIn}
use Rattle.bisimulation.specs.Systems.{Step}
use Rattle.answers.specs.Numbers.{six_numbers}
use Rattle.answers.specs.Causes.{Answers}
use Rattle.answers.specs.declared.Answer.{Answer}
use Rattle.tables.specs.Table.{version_of, initial_of}
use Rattle.tables.specs.Model.{system_of}
use Rattle.table_reader.specs.TableCauses.{WellFormedTable}
use Rattle.table_writer.specs.Writing.{StepGiven}
use Rattle.table_writer.specs.WriteCauses.{write_causes}

-- What the types give: marks of 32 bits and a start word of 64. Nothing is asked of the steps.
pub record Typed (marks : List ℕ) (starts : ℕ) : Type 0 where
  pub marks< : All (λ x. x < 2 ^ 32) marks
  pub starts< : starts < 2 ^ 64

-- The table that stands in an output: its first bytes, as many as the answer says.
abbrev pub written_in : Answer → (output : List ℕ) → List ℕ
written_in answer output = take answer.a output

-- The bytes are a table with these marks, starts and steps.
pub record ReadBack (marks : List ℕ) (starts : ℕ) (steps bytes : List ℕ) : Type 0 where
  -- It is well formed, and of version 4.
  pub formed : WellFormedTable bytes
  pub version : version_of bytes ≡ 4
  -- It has a state for each mark, with this mark.
  pub states : (system_of bytes).states ≡ length marks
  pub marks-are : (s : ℕ) → s < length marks → (system_of bytes).label s ≡ get_or marks s 0
  -- Its word of starts is the one given.
  pub starts-are : initial_of bytes ≡ starts
  -- It has a step from s to u exactly where one is given.
  pub steps-are : (s u : ℕ) → Step (system_of bytes) s u ↔ StepGiven steps s u

-- What the answer and the output afterwards are, for these inputs and this output.
pub record WriteExact (marks : List ℕ) (starts : ℕ) (steps output : List ℕ) (answer : Answer) (after : List ℕ) : Type 0 where
  -- The answer is that of the first cause that applies; where none does, it is 0, 0 and the length.
  pub answers : Answers (write_causes marks starts steps output) (λ a. a ≡ six_numbers 0 0 (16 + 4 * length marks + 2 * length steps)) answer
  -- A refusal leaves the output untouched.
  pub untouched : ¬ (answer.code ≡ 0) → after ≡ output
  -- On success the table written is read back with the same marks, starts and steps.
  pub read_back : Typed marks starts → answer.code ≡ 0 → ReadBack marks starts steps (written_in answer after)
  -- The bytes after it stay, and so does the output's length.
  pub rest-stays : answer.code ≡ 0 → drop answer.a after ≡ drop answer.a output
  pub length-stays : length after ≡ length output
  -- A table has at most 784 bytes, so with these 21 never comes.
  pub most : answer.code ≡ 0 → answer.a ≤ 784
  pub enough : 784 ≤ length output → ¬ (answer.code ≡ 21)

-- The same marks, the same starts and the same set of steps: a step stands in the one list exactly where it stands in the other.
pub record SameDrawn (marks : List ℕ) (starts : ℕ) (steps marks' : List ℕ) (starts' : ℕ) (steps' : List ℕ) : Type 0 where
  pub same-marks : marks ≡ marks'
  pub same-starts : starts ≡ starts'
  pub same-steps : (x : ℕ) → StandsIn steps x ↔ StandsIn steps' x
