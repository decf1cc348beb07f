-- The writer's definition on a small drawing, every byte of it, and on one drawing for each refusal. Assumes nothing.
use Prim.Native.Nat.{ℕ}
use mathlib.Core.Path.{◌≡◌, refl}
use mathlib.Core.List.{List, [], ◌∷◌, flat_map}
use lib.ListN.{replicate}
use Rattle.lists.specs.Below.{any_below}
use Rattle.lists.specs.Lists.{stands_in, kept_below, put_at, put_front}
use Rattle.lists.specs.Numbers.{big_bytes}
use Rattle.words.specs.Bits.{has_bit, has_from}
use Rattle.answers.specs.Numbers.{six_numbers}
use Rattle.answers.specs.Verdicts.{room_verdict, first_of}
use Rattle.table_reader.specs.TableReading.{states_fit, wrong_starts}
use Rattle.table_writer.specs.TableFile.{steps_in_order, table_header, table_file}
use Rattle.table_writer.specs.Writing.{end_outside, equals_earlier, write_verdict, write_answer, write_output}

-- Two states with the marks 1 and 65538, the start 1, and the steps 1 to 0 and 0 to 1; an output of 29 bytes.
abbrev marks : List ℕ
marks = 1 ∷ 65538 ∷ []

abbrev steps : List ℕ
steps = 0x0100 ∷ 0x0001 ∷ []

abbrev output : List ℕ
output = replicate 29 0xff

-- the steps stand in rising order, and the last byte stays
pub written-bytes : write_output marks 2 steps output
    ≡ 0x54 ∷ 0x50 ∷ 0x54 ∷ 0 ∷ 4 ∷ 2 ∷ 0 ∷ 0 ∷ 0 ∷ 0 ∷ 0 ∷ 0 ∷ 0 ∷ 2 ∷ 0 ∷ 2 ∷ 0 ∷ 0 ∷ 0 ∷ 1 ∷ 0 ∷ 1 ∷ 0 ∷ 2 ∷ 0 ∷ 1 ∷ 1 ∷ 0 ∷ 0xff ∷ []
unfolding write_output write_verdict states_fit wrong_starts has_from has_bit any_below first_of end_outside equals_earlier room_verdict table_file table_header steps_in_order
    stands_in kept_below big_bytes flat_map put_at put_front
written-bytes = refl

pub written-answer : write_answer marks 2 steps output ≡ six_numbers 0 0 28
unfolding write_answer write_verdict states_fit wrong_starts has_from has_bit any_below first_of end_outside equals_earlier room_verdict
written-answer = refl

-- no state; the start 2, which is no state; 257 steps; a step to state 2; a step that stands twice, with another between; 27 bytes
pub refusals : (write_answer [] 2 steps output ≡ six_numbers 4 3 0)
    × (write_answer marks 4 steps output ≡ six_numbers 28 3 0)
    × (write_answer marks 2 (replicate 257 0) output ≡ six_numbers 6 3 0)
    × (write_answer marks 2 (0x0100 ∷ 0x0102 ∷ 0x0100 ∷ []) output ≡ six_numbers 8 3 1)
    × (write_answer marks 2 (0x0100 ∷ 0x0001 ∷ 0x0100 ∷ []) output ≡ six_numbers 9 3 2)
    × (write_answer marks 2 steps (replicate 27 0xff) ≡ six_numbers 21 3 28)
unfolding write_answer write_verdict states_fit wrong_starts has_from has_bit any_below first_of end_outside equals_earlier room_verdict
refusals = (refl, refl, refl, refl, refl, refl)
