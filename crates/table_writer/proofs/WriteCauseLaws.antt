-- The writer's verdict is decided by its causes: it refuses with the numbers of the first that applies, and goes on where none does. Assumes nothing.
use Prim.Native.Nat.{ℕ}
use mathlib.Core.List.{List}
use mathlib.Core.Bool.{not}
use lib.Dec.{ltb}
use lib.ListN.{length}
use Rattle.answers.specs.Numbers.{six_numbers}
use Rattle.answers.specs.Causes.{Numbered}
use Rattle.answers.specs.Verdicts.{pass_if, first_of}
use Rattle.answers.proofs.CauseLaws.{numbered-append, numbered_below}
use Rattle.answers.proofs.DecideLaws.{ltb-decides}
use Rattle.answers.proofs.VerdictLaws.{Decided, Anything, decided-pass, decided-fits, decided-below, decided-then, room-decided}
use Rattle.table_reader.specs.TableReading.{states_fit, wrong_starts}
use Rattle.table_reader.proofs.TestLaws.{states-decides, starts-decides}
use Rattle.table_writer.specs.TableFile.{file_length}
use Rattle.table_writer.specs.Writing.{end_outside, equals_earlier, write_verdict}
use Rattle.table_writer.specs.WriteCauses.{end_causes, doubled_causes, write_causes, write_number}
use Rattle.table_writer.proofs.TestLaws.{outside-decides, earlier-decides}

module _ (marks : List ℕ) (starts : ℕ) (steps output : List ℕ) where
  pub write-decided : Decided Anything (write_causes marks starts steps output) (write_verdict marks starts steps output)
  unfolding write_verdict
  write-decided =
      decided-then (pass_if (states_fit (length marks)) _) (decided-fits _ (states-decides (length marks))) λ x g n.
      decided-then (pass_if (not (wrong_starts starts (length marks))) _) (decided-pass _ (starts-decides starts (length marks))) λ x g n.
      decided-then (pass_if (not (ltb 256 (length steps))) _) (decided-pass _ (ltb-decides 256 (length steps))) λ x g n.
      decided-then (first_of (length steps) (λ j. pass_if (not (end_outside (length marks) steps j)) (six_numbers 8 3 j)))
      (decided-below (length steps) _ _ (λ j. decided-pass _ (outside-decides (length marks) steps j))) λ x g n.
      decided-then (first_of (length steps) (λ j. pass_if (not (equals_earlier steps j)) (six_numbers 9 3 j)))
      (decided-below (length steps) _ _ (λ j. decided-pass _ (earlier-decides steps j))) λ x g n.
      room-decided (file_length (length marks) (length steps)) output

  -- the numbers are 4, 6, 8, 9, 21 and 28, all with the file 3
  pub write-numbers : Numbered write_number (write_causes marks starts steps output)
  write-numbers = (
    tt,
    (
      tt,
      (
        tt,
        numbered-append write_number (end_causes (length marks) steps) _ (numbered_below write_number (length steps) _ (λ j. (tt, tt)))
            (numbered-append write_number (doubled_causes steps) _ (numbered_below write_number (length steps) _ (λ j. (tt, tt))) (tt, tt)),
      ),
    ),
  )
