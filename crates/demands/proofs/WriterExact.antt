-- Ask 7 of document 02, `write-exact` and `write_same`: where no cause applies, the table written is read back with the same marks, starts and steps; so two
-- tables written are equal exactly where these are. Assumes nothing.
use Prim.Native.Nat.{ℕ, zero, suc, ◌*◌, ◌^◌, ◌/◌, ◌%◌, ◌≤◌, ◌<◌}
use mathlib.Core.Path.{◌≡◌, refl, sym, ap, ap₂, ◌∙◌, subst}
use mathlib.Core.Logic.{◌↔◌, inl, inr, ⊎_elim}
use mathlib.Core.List.{List, [], ◌∷◌, ◌++◌}
use native.Mathlib.Nat.{not-suc-le-zero}
use native.Mathlib.Omega.{arith}
use lib.ListN.{length, take, drop, get_or}
use lib.Seq.{take_at, drop_at, ext_get_or}
use Rattle.lists.specs.Lists.{All, StandsIn, stands_in}
use Rattle.lists.proofs.BoolLaws.{same-T}
use Rattle.lists.proofs.JoinLaws.{all_append, all_join}
use Rattle.lists.proofs.KeptLaws.{stands-e, stands-i, kept-cong}
use Rattle.answers.specs.Numbers.{six_numbers}
use Rattle.answers.specs.Causes.{Cause, FirstCause, NoCause, Answers, room_causes}
use Rattle.answers.specs.Verdicts.{Verdict}
use Rattle.answers.specs.declared.Answer.{Answer}
use Rattle.answers.proofs.CauseLaws.{first_holds, zero-none}
use Rattle.answers.proofs.DecideLaws.{decides-stable}
use Rattle.answers.proofs.VerdictLaws.{none-on, decided-answer, refused-output, output_on, output-length}
use Rattle.table_reader.proofs.TestLaws.{states-decides}
use Rattle.table_writer.specs.TableFile.{steps_in_order, table_file, file_length}
use Rattle.table_writer.specs.Writing.{StepGiven, write_verdict, write_answer, write_output}
use Rattle.table_writer.specs.WriteCauses.{end_causes, doubled_causes, write_causes, write_number}
use Rattle.table_writer.proofs.VerdictLaws.{once-each}
use Rattle.table_writer.proofs.FileLaws.{version-is, file-length}
use Rattle.table_writer.proofs.WriteCauseLaws.{write-decided, write-numbers}
use Rattle.table_writer.proofs.ReadBackLaws.{Writable, writable, has_room, written-formed, same-states, same-marks, same-starts, same-steps}
use Rattle.demands.specs.Ask7.{Typed, written_in, ReadBack, WriteExact, SameDrawn}

each-small : (l : List ℕ) (b : ℕ) → All (λ x. x < b) l → (i : ℕ) → i < length l → get_or l i 0 < b
each-small [] b a i h = absurd (not-suc-le-zero h)
each-small (x ∷ l) b a zero h = a.0
each-small (x ∷ l) b a (suc i) h = each-small l b a.1 i (omega arith)

module _ (marks : List ℕ) (starts : ℕ) (steps output : List ℕ) where
  -- the length, the causes, the verdict, the answer and the output afterwards
  abbrev L : ℕ
  L = file_length (length marks) (length steps)

  abbrev causes : List Cause
  causes = write_causes marks starts steps output

  abbrev verdict : Verdict (Unit {0})
  verdict = write_verdict marks starts steps output

  abbrev answer : Answer
  answer = write_answer marks starts steps output

  abbrev after : List ℕ
  after = write_output marks starts steps output

  pub write-answers : Answers causes (λ a. a ≡ six_numbers 0 0 L) answer
  unfolding write_answer
  write-answers = decided-answer (λ a. a ≡ six_numbers 0 0 L) (λ x. six_numbers 0 0 L) verdict (write-decided marks starts steps output) (λ x e n. refl)

  -- ---- a success

  module _ (zeroed : answer.code ≡ 0) where
    success : NoCause causes × (answer ≡ six_numbers 0 0 L)
    success =
        zero-none (λ a. a ≡ six_numbers 0 0 L) causes answer write-answers write_number (write-numbers marks starts steps output) (λ file h. h)
        (λ a e. ap (λ (x : Answer). x.code) e) zeroed

    length-is : answer.a ≡ L
    length-is = ap (λ (x : Answer). x.a) success.1

    fine : Writable marks starts steps
    fine = writable marks starts steps output success.0

    once : length (steps_in_order (length marks) steps) ≡ length steps
    once = once-each (length marks) steps fine.inside fine.once

    long : length (table_file marks starts steps) ≡ L
    long = file-length marks starts steps once

    after_is : after ≡ table_file marks starts steps ++ drop L output
    unfolding write_output
    after_is =
        output_on (none-on verdict (write-decided marks starts steps output) success.0).1 (table_file marks starts steps) output long
        (has_room marks starts steps output success.0)

    -- the table written is the file
    pub written_is : written_in answer after ≡ table_file marks starts steps
    written_is = ap₂ (λ (k : ℕ) (x : List ℕ). take k x) length-is after_is ∙ take_at (table_file marks starts steps) (drop L output) L long

    rest-is : drop answer.a after ≡ drop answer.a output
    rest-is =
        ap₂ (λ (k : ℕ) (x : List ℕ). drop k x) length-is after_is ∙ drop_at (table_file marks starts steps) (drop L output) L long
        ∙ ap (λ (k : ℕ). drop k output) (sym length-is)

    few : answer.a ≤ 784
    few = let e = length-is in let n = fine.fits.1 in let m = fine.few in omega arith

    read_back : Typed marks starts → ReadBack marks starts steps (written_in answer after)
    read_back t =
        rw written_is (record {
          formed = written-formed marks starts steps fine t.starts<;
          version = version-is marks starts steps;
          states = same-states marks starts steps fine t.starts<;
          marks-are = λ s l. same-marks marks starts steps fine t.starts< s l (each-small marks (2 ^ 32) t.marks< s l);
          starts-are = same-starts marks starts steps fine t.starts<;
          steps-are = same-steps marks starts steps fine t.starts<;
        })

  -- ---- an output of 784 bytes

  never-21 : 784 ≤ length output → (a : Answer) → FirstCause causes a → ¬ (a.code ≡ 21)
  never-21 h a (inl p) e = let k = ap (λ (x : Answer). x.code) p.1 in omega arith
  never-21 h a (inr (fits, inl p)) e = let k = ap (λ (x : Answer). x.code) p.1 in omega arith
  never-21 h a (inr (fits, inr (starts-fine, inl p))) e = let k = ap (λ (x : Answer). x.code) p.1 in omega arith
  never-21 h a (inr (fits, inr (starts-fine, inr (few, f)))) e =
      first_holds (λ x. ¬ (x.code ≡ 21)) (end_causes (length marks) steps ++ (doubled_causes steps ++ room_causes L output)) a
      (all_append Other (end_causes (length marks) steps) _ (all_join Other (length steps) _ (λ j l. (λ p k. omega arith, tt)))
      (all_append Other (doubled_causes steps) (room_causes L output) (all_join Other (length steps) _ (λ j l. (λ p k. omega arith, tt)))
      (λ p k. let n = (decides-stable (states-decides (length marks)) fits).1 in let m : ¬ (256 < length steps) = few in omega arith, tt))) f e
    where
      Other : Cause → Type 0
      Other c = c.condition → ¬ (c.numbers.code ≡ 21)

  pub write-exact : WriteExact marks starts steps output answer after
  unfolding write_answer write_output
  write-exact =
      record {
        answers = write-answers;
        untouched = λ n. refused-output (λ x. six_numbers 0 0 L) (λ x. refl) verdict n (table_file marks starts steps) output;
        read_back = λ t z. read_back z t;
        rest-stays = rest-is;
        length-stays = output-length verdict (table_file marks starts steps) output;
        most = few;
        enough = λ h e. ⊎_elim (λ f. never-21 h answer f e) (λ p. let k = ap (λ (x : Answer). x.code) p.1 in omega arith) write-answers;
      }

-- ---- two tables

-- a step that stands in the list, by its ends, and the other way round
given-stands : (steps : List ℕ) (x : ℕ) → StepGiven steps (x / 256) (x % 256) → StandsIn steps x
given-stands steps x (j, l, p, q) = (j, l, omega arith)

stands-given : (steps : List ℕ) (x : ℕ) → StandsIn steps x → StepGiven steps (x / 256) (x % 256)
stands-given steps x (j, l, e) = (j, l, omega arith, omega arith)

-- equal bytes are read back with equal marks and starts, and with the same steps
module _ {marks marks' : List ℕ} {starts starts' : ℕ} {steps steps' bytes : List ℕ} (a : ReadBack marks starts steps bytes)
    (b : ReadBack marks' starts' steps' bytes) where
  pub read_same : SameDrawn marks starts steps marks' starts' steps'
  read_same =
      let n : length marks ≡ length marks' = sym a.states ∙ b.states in
      record {
        same-marks = ext_get_or 0 marks marks' n (λ s l. sym (a.marks-are s l) ∙ b.marks-are s (omega arith));
        same-starts = sym a.starts-are ∙ b.starts-are;
        same-steps = λ x. (
          λ p. given-stands steps' x ((b.steps-are (x / 256) (x % 256)).0 ((a.steps-are (x / 256) (x % 256)).1 (stands-given steps x p))),
          λ p. given-stands steps x ((a.steps-are (x / 256) (x % 256)).0 ((b.steps-are (x / 256) (x % 256)).1 (stands-given steps' x p))),
        );
      }

-- the same set of steps has one order
order_same : (n : ℕ) (steps steps' : List ℕ) → ((x : ℕ) → StandsIn steps x ↔ StandsIn steps' x) → steps_in_order n steps ≡ steps_in_order n steps'
unfolding steps_in_order
order_same n steps steps' same =
    kept-cong (256 * n) (stands_in steps) (stands_in steps')
    (λ x l. same-T _ _ (λ h. stands-i steps' x ((same x).0 (stands-e steps x h))) (λ h. stands-i steps x ((same x).1 (stands-e steps' x h))))

-- so they are written in one way
file-same : (marks : List ℕ) (starts : ℕ) (steps steps' : List ℕ) → ((x : ℕ) → StandsIn steps x ↔ StandsIn steps' x)
    → length (steps_in_order (length marks) steps) ≡ length steps → length (steps_in_order (length marks) steps') ≡ length steps'
    → table_file marks starts steps ≡ table_file marks starts steps'
unfolding table_file
file-same marks starts steps steps' same once once' =
    let order = order_same (length marks) steps steps' same in
    let count : length steps ≡ length steps' = sym once ∙ ap length order ∙ once' in
    rw (count, order)

module _ (marks : List ℕ) (starts : ℕ) (steps output marks' : List ℕ) (starts' : ℕ) (steps' output' : List ℕ) (t : Typed marks starts)
    (t' : Typed marks' starts') (zeroed : (write_answer marks starts steps output).code ≡ 0) (zeroed' : (write_answer marks' starts' steps' output').code ≡ 0) where
  abbrev bytes : List ℕ
  bytes = written_in (write_answer marks starts steps output) (write_output marks starts steps output)

  abbrev bytes' : List ℕ
  bytes' = written_in (write_answer marks' starts' steps' output') (write_output marks' starts' steps' output')

  -- two tables that are written are equal exactly where the marks, the starts and the sets of steps are
  pub write_same : (bytes ≡ bytes') ↔ SameDrawn marks starts steps marks' starts' steps'
  write_same = (
    λ e. read_same (read_back marks starts steps output zeroed t)
        (subst (ReadBack marks' starts' steps') (sym e) (read_back marks' starts' steps' output' zeroed' t')),
    λ s. written_is marks starts steps output zeroed ∙ equal s ∙ sym (written_is marks' starts' steps' output' zeroed'),
  )
    where
      equal : SameDrawn marks starts steps marks' starts' steps' → table_file marks starts steps ≡ table_file marks' starts' steps'
      equal s =
          file-same marks starts steps steps' s.same-steps (once marks starts steps output zeroed)
          (rw (← s.same-marks) at (once marks' starts' steps' output' zeroed'))
          ∙ ap₂ (λ (m : List ℕ) (w : ℕ). table_file m w steps') s.same-marks s.same-starts
