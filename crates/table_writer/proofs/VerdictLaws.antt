-- Laws of the writer's verdict: which it is by the tests so far, in their order; and that the words are ready where they all pass. Assumes nothing.
use Rattle.std.specs.Prelude.{Err}
use Prim.Native.Nat.{ℕ, ◌*◌, ◌≤◌, ◌<◌}
use mathlib.Core.Path.{◌≡◌, sym, ◌∙◌, subst}
use mathlib.Core.Bool.{Bool, true, false, not}
use mathlib.Core.List.{List}
use native.Mathlib.Omega.{arith}
use lib.Dec.{ltb}
use lib.ListN.{length}
use borrow.Author.Tests.{lt-ltb, le-ltb}
use Rattle.lists.specs.Below.{first_below}
use Rattle.lists.specs.Lists.{stands_in, put_front}
use Rattle.lists.proofs.BelowLaws.{first-least, first-bound}
use Rattle.lists.proofs.BoolLaws.{T_true, not-T-false}
use Rattle.lists.proofs.KeptLaws.{kept-length, different-count}
use Rattle.answers.specs.Numbers.{six_numbers}
use Rattle.answers.specs.declared.Answer.{Answer}
use Rattle.answers.specs.Verdicts.{Verdict, passed, pass_if, room_verdict, first_of}
use Rattle.answers.proofs.VerdictLaws.{test-hit, test-none}
use Rattle.words.specs.declared.Row.{Row}
use Rattle.table_reader.specs.EndsSeen.{EndsBelow, EndsSeen}
use Rattle.table_reader.specs.TableReading.{states_fit, wrong_starts}
use Rattle.table_writer.specs.TableFile.{steps_in_order, table_file, file_length}
use Rattle.table_writer.specs.Writing.{step_at, from_at, to_at, end_outside, equals_earlier, write_verdict, write_answer, write_output}
use Rattle.table_writer.specs.WriteCauses.{EqualsEarlier}
use Rattle.table_writer.specs.Words.{Ready}
use Rattle.table_writer.specs.Noting.{Noted, Writable}
use Rattle.table_writer.proofs.TestLaws.{earlier-decides, outside-none}
use Rattle.table_writer.proofs.WordLaws.{words-in-order}

-- ---- a search: the first step that passes the test is refused

module _ (m : ℕ) (test : ℕ → Bool) (answer : ℕ → Answer) {k : ℕ} (e : k ≡ first_below m test) where
  abbrev search-verdict : Verdict (Unit {0})
  search-verdict = first_of m (λ j. pass_if (not (test j)) (answer j))

  first-refuses : k < m → search-verdict ≡ Err (answer k)
  first-refuses = test-hit m _ test answer (λ i h. rw (T_true (test i) h)) (λ i h. rw (not-T-false (test i) h)) e

  first_passes : m ≤ k → search-verdict ≡ passed
  first_passes = test-none m _ test answer (λ i h. rw (T_true (test i) h)) (λ i h. rw (not-T-false (test i) h)) e

-- ---- by the tests so far

module _ (marks : List ℕ) (starts : ℕ) (steps output : List ℕ) where
  abbrev verdict : Verdict (Unit {0})
  verdict = write_verdict marks starts steps output

  pub refused-4 : states_fit (length marks) ≡ false → verdict ≡ Err (six_numbers 4 3 0)
  unfolding write_verdict
  refused-4 h = rw h

  module _ (h4 : states_fit (length marks) ≡ true) where
    pub refused-28 : wrong_starts starts (length marks) ≡ true → verdict ≡ Err (six_numbers 28 3 0)
    unfolding write_verdict
    refused-28 h = rw (h4, h)

    module _ (h28 : wrong_starts starts (length marks) ≡ false) where
      pub refused-6 : 256 < length steps → verdict ≡ Err (six_numbers 6 3 0)
      unfolding write_verdict
      refused-6 h = rw (h4, h28, lt-ltb 256 (length steps) h)

      module _ (h6 : length steps ≤ 256) {o : ℕ} (e8 : o ≡ first_below (length steps) (end_outside (length marks) steps)) where
        few : ltb 256 (length steps) ≡ false
        few = le-ltb 256 (length steps) h6

        pub refused-8 : o < length steps → verdict ≡ Err (six_numbers 8 3 o)
        unfolding write_verdict
        refused-8 h = rw (h4, h28, few, first-refuses (length steps) (end_outside (length marks) steps) (six_numbers 8 3) e8 h)

        module _ (h8 : length steps ≤ o) {t : ℕ} (e9 : t ≡ first_below (length steps) (equals_earlier steps)) where
          inside : first_of (length steps) (λ j. pass_if (not (end_outside (length marks) steps j)) (six_numbers 8 3 j)) ≡ passed
          inside = first_passes (length steps) (end_outside (length marks) steps) (six_numbers 8 3) e8 h8

          pub refused-9 : t < length steps → verdict ≡ Err (six_numbers 9 3 t)
          unfolding write_verdict
          refused-9 h = rw (h4, h28, few, inside, first-refuses (length steps) (equals_earlier steps) (six_numbers 9 3) e9 h)

          module _ (h9 : length steps ≤ t) where
            once : first_of (length steps) (λ j. pass_if (not (equals_earlier steps j)) (six_numbers 9 3 j)) ≡ passed
            once = first_passes (length steps) (equals_earlier steps) (six_numbers 9 3) e9 h9

            pub by-room : verdict ≡ room_verdict (file_length (length marks) (length steps)) (length output)
            unfolding write_verdict
            by-room = rw (h4, h28, few, inside, once)

            pub refused-21 : length output < file_length (length marks) (length steps)
                → verdict ≡ Err (six_numbers 21 3 (file_length (length marks) (length steps)))
            unfolding room_verdict
            refused-21 h = by-room ∙ rw (lt-ltb (length output) (file_length (length marks) (length steps)) h)

            pub accepted : file_length (length marks) (length steps) ≤ length output → verdict ≡ passed
            unfolding room_verdict
            accepted h = by-room ∙ rw (le-ltb (length output) (file_length (length marks) (length steps)) h)

  -- a refusal is answered, and leaves the output as it was
  pub refused-is : {r a : Answer} → r ≡ a → verdict ≡ Err a
      → (r ≡ write_answer marks starts steps output) × (output ≡ write_output marks starts steps output)
  unfolding write_answer write_output
  refused-is e v = (rw v e, rw v)

  -- a success is answered with the length, and puts the file
  pub written_is : {after : List ℕ} → after ≡ put_front (table_file marks starts steps) output → verdict ≡ passed
      → (six_numbers 0 0 (file_length (length marks) (length steps)) ≡ write_answer marks starts steps output) × (after ≡ write_output marks starts steps output)
  unfolding write_answer write_output
  written_is e v = (rw v, rw v e)

-- ---- the words are ready

-- steps that are all different and have their ends below n are as many in order
pub once-each : (n : ℕ) (steps : List ℕ) → EndsBelow n (from_at steps) (to_at steps) (length steps) → ((j : ℕ) → j < length steps → ¬ EqualsEarlier steps j)
    → length (steps_in_order n steps) ≡ length steps
unfolding steps_in_order stands_in
once-each n steps below once =
    kept-length (256 * n) (stands_in steps)
    ∙ different-count (step_at steps) (256 * n) (length steps) (λ j l. let b = (below j l).0 in omega arith) (λ i j a l e. once j l (i, a, e))

pub ready : (marks steps : List ℕ) (ends : List Row) (output : List ℕ) {o t : ℕ} → length marks ≤ 64
    → o ≡ first_below (length steps) (end_outside (length marks) steps) → length steps ≤ o
    → t ≡ first_below (length steps) (equals_earlier steps) → length steps ≤ t
    → EndsSeen (from_at steps) (to_at steps) t ends → file_length (length marks) (length steps) ≤ length output → Ready marks steps ends output
ready marks steps ends output {o} {t} few e8 h8 e9 h9 noted room =
    let most = first-bound (length steps) (equals_earlier steps) in
    let all : t ≡ length steps = omega arith in
    record {
      few = few;
      in_order = words-in-order steps (subst (λ (k : ℕ). EndsSeen (from_at steps) (to_at steps) k ends) all noted)
          (outside-none (length marks) 64 steps e8 h8 few) (length marks) few;
      once = once-each (length marks) steps (outside-none (length marks) (length marks) steps e8 h8 (omega arith))
          (λ j l p. first-least (length steps) (equals_earlier steps) j (omega arith) ((earlier-decides steps j).complete p));
      room = room;
    }

-- where all tests pass, the words have the steps, and an output is refused for its room alone
pub writable : (marks : List ℕ) (starts : ℕ) (steps : List ℕ) {ends : List Row} {o : ℕ}
    → states_fit (length marks) ≡ true → wrong_starts starts (length marks) ≡ false → length steps ≤ 256 → length marks ≤ 64
    → o ≡ first_below (length steps) (end_outside (length marks) steps) → length steps ≤ o → Noted steps ends → Writable marks starts steps ends
writable marks starts steps fit right short few e8 h8 noted =
    record {
      few = few;
      few_steps = short;
      in_order = words-in-order steps noted.seen (outside-none (length marks) 64 steps e8 h8 few) (length marks) few;
      once = once-each (length marks) steps (outside-none (length marks) (length marks) steps e8 h8 (omega arith))
          (λ j l p. first-least (length steps) (equals_earlier steps) j (rw noted.once l) ((earlier-decides steps j).complete p));
      by_room = λ output. by-room marks starts steps output fit right short e8 h8 (sym noted.once) (omega arith);
    }
