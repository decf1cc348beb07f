-- The causes for which no table is written, in document 02's order: 4, 28, 6, 8, 9 and 21, all with file 3.
use Rattle.std.specs.Prelude.{ℕ, ◌≤◌, ◌<◌, ◌≡◌, ◌⊎◌, Bool, ◌&&◌, ◌||◌, List, [], ◌∷◌, ◌++◌, eqb, length}
use Rattle.lists.specs.Lists.{join_below}
use Rattle.answers.specs.Numbers.{six_numbers}
use Rattle.answers.specs.Causes.{Cause, ◌gives◌, room_causes}
use Rattle.table_reader.specs.TableCauses.{StatesFit, WrongStarts}
use Rattle.table_writer.specs.TableFile.{file_length}
use Rattle.table_writer.specs.Writing.{step_at, from_at, to_at}

-- An end of step j, in the order given, is n or more.
abbrev pub EndOutside : (n : ℕ) (steps : List ℕ) → ℕ → Type 0
EndOutside n steps j = (n ≤ from_at steps j) ⊎ (n ≤ to_at steps j)

-- Step j equals an earlier one.
abbrev pub EqualsEarlier : List ℕ → ℕ → Type 0
EqualsEarlier steps j = (i : ℕ) × (i < j) × (step_at steps i ≡ step_at steps j)

-- Step end n or more, a the first such step.
abbrev pub end_causes : (n : ℕ) (steps : List ℕ) → List Cause
end_causes n steps = join_below (length steps) (λ j. EndOutside n steps j gives six_numbers 8 3 j ∷ [])

-- Step equal to an earlier one, a the first such step.
abbrev pub doubled_causes : List ℕ → List Cause
doubled_causes steps = join_below (length steps) (λ j. EqualsEarlier steps j gives six_numbers 9 3 j ∷ [])

-- The causes, in the document's order.
abbrev pub write_causes : (marks : List ℕ) (starts : ℕ) (steps output : List ℕ) → List Cause
write_causes marks starts steps output =
    -- n not 1 to 64
    ((¬ StatesFit (length marks)) gives six_numbers 4 3 0
    -- the start word is 0 or has a bit n or more
    ∷ WrongStarts starts (length marks) gives six_numbers 28 3 0
    -- m over 256
    ∷ (256 < length steps) gives six_numbers 6 3 0
    ∷ [])
    -- the steps, then an output under the needed length
    ++ (end_causes (length marks) steps ++ (doubled_causes steps ++ room_causes (file_length (length marks) (length steps)) output))

-- Their numbers and files: 4, 6, 8, 9, 21 and 28, all with the file 3.
abbrev pub write_number : (code file : ℕ) → Bool
write_number code file = (eqb code 4 || eqb code 28 || eqb code 6 || eqb code 8 || eqb code 9 || eqb code 21) && eqb file 3
