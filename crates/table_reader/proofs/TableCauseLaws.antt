-- The table reader's part of demand 1: a table is refused with the six numbers of the first cause that applies to its bytes, and read where none does.
-- The reader is a chain of tests in the order of the causes, and each test decides its cause. Assumes nothing.
use Rattle.std.specs.Prelude.{Result, Ok, Err}
use Rattle.refusals.specs.declared.TableRefusal.{TableRefusal}
use Prim.Native.Nat.{ℕ}
use mathlib.Core.Path.{◌≡◌, refl, ap, ◌∙◌, subst}
use mathlib.Core.Logic.{inl}
use mathlib.Core.Bool.{Bool, not, ◌||◌}
use mathlib.Core.List.{List, [], ◌∷◌, ◌++◌}
use native.Mathlib.Omega.{arith}
use lib.Dec.{T, eqb}
use lib.ListN.{length}
use Rattle.lists.specs.Lists.{All}
use Rattle.lists.proofs.JoinLaws.{all_append, all_join, all_map}
use Rattle.answers.specs.declared.Answer.{Answer}
use Rattle.answers.specs.Numbers.{six_numbers}
use Rattle.answers.specs.Causes.{Cause, only, FirstCause, NoCause, Numbered, allows}
use Rattle.answers.specs.Verdicts.{Verdict, ◌and_then◌}
use Rattle.answers.proofs.CauseLaws.{first_holds, numbered-append, numbered_below, numbered-only, allowed}
use Rattle.answers.proofs.DecideLaws.{test-decides, ltb-decides, leb-decides, eqb-decides, not-decides, and-decides}
use Rattle.answers.proofs.VerdictLaws.{
  Decided,
  decided-none,
  decided-end,
  decided-test,
  decided-search,
  decided-either,
  decided-then,
  none-on,
  on_none,
}
use Rattle.tables.specs.declared.Head.{Head}
use Rattle.tables.specs.Table.{layout_in, states_of, start_of, starts_of, start_word, steps_of, table_length, format_in, steps_part}
use Rattle.refusals.specs.declared.TableRefusal.TheVariants.{
  Short,
  Magic,
  Version,
  States,
  Start,
  Starts,
  Steps,
  Length,
  StepEnd,
  Doubled,
  NotGreater,
}
use Rattle.table_reader.specs.declared.Known.{Known}
use Rattle.table_reader.specs.declared.Known.TheVariants.{Both, Plain}
use Rattle.table_reader.specs.TableReading.{head_of, read_length, read_sizes, read_header, read_steps, with_steps, read_known, read_table}
use Rattle.table_reader.specs.TableVerdicts.{table_verdict}
use Rattle.table_reader.specs.TableCauses.{
  StartWord,
  StepsRise,
  header_causes,
  end_causes,
  doubled_causes,
  not_greater_causes,
  order_causes,
  known_causes,
  WellFormedTable,
}
use Rattle.table_reader.proofs.TestLaws.{
  known-decides,
  version-decides,
  states-decides,
  starts-decides,
  outside-decides,
  doubled-decides,
  not-greater-decides,
}

-- a verdict that goes on is that of a header
pub on-good : (file : ℕ) (x : Result Head TableRefusal) {h : Head} → table_verdict file x ≡ Ok h → x ≡ Ok h
on-good file (Ok k) e = ap Ok (cc e)
on-good file (Err r) e = cc e

module _ (known : Known) (file : ℕ) (s : List ℕ) where
  abbrev on : Result Head TableRefusal → Verdict Head
  on = table_verdict file

  -- the header's tests decide its causes
  header-decided : Decided (λ h. h ≡ head_of s) (header_causes known file s) (on (read_header known s))
  unfolding read_header read_sizes read_length
  header-decided =
      decided-test on (Err Short) _ (ltb-decides (length s) 9) refl
      (decided-test on (Err Magic) _ (not-decides (known-decides known s)) refl
      (decided-test on (Err Version) _ (not-decides (version-decides s)) refl
      (decided-test on (Err Short) _ (ltb-decides (length s) (layout_in s).header) refl
      (decided-test on (Err States) _ (not-decides (states-decides (states_of s))) refl
      (decided-test on (Err Start) _ (and-decides (not-decides (test-decides (start_word s))) (leb-decides (states_of s) (start_of s))) refl
      (decided-test on (Err Starts) _ (and-decides (test-decides (start_word s)) (starts-decides (starts_of s) (states_of s))) refl
      (decided-test on (Err Steps) _ (ltb-decides 256 (steps_of s)) refl
      (decided-test on (Err Length) _ (not-decides (eqb-decides (length s) (table_length s))) refl
      (decided-none refl)))))))))

  -- and those of the steps theirs
  steps-decided : Decided (λ h. h ≡ head_of s) (end_causes file s ++ order_causes file s) (on (read_steps (head_of s) (steps_part s)))
  unfolding read_steps
  steps-decided =
      decided-search on (steps_of s) (six_numbers 8 file) (λ j. Err (StepEnd j)) _ (outside-decides (format_in s) (steps_part s) (states_of s)) (λ j. refl)
      (decided-either on {xs = not_greater_causes file s} {ys = doubled_causes file s} _ _ _ (test-decides (layout_in s).rising)
      (decided-end (decided-search on (steps_of s) (six_numbers 24 file) (λ j. Err (NotGreater j)) _ (not-greater-decides s) (λ j. refl)
      (decided-none refl)))
      (decided-end (decided-search on (steps_of s) (six_numbers 9 file) (λ j. Err (Doubled j)) _ (doubled-decides (format_in s) (steps_part s)) (λ j. refl)
      (decided-none refl))))

  header-then-steps : (x : Result Head TableRefusal) → (on x and_then λ h. on (read_steps h (steps_part s))) ≡ on (with_steps s x)
  header-then-steps (Ok h) = refl
  header-then-steps (Err r) = refl

  -- the reader goes on with the header where no cause applies, and refuses with the numbers of the first that does
  pub table-decided : Decided (λ h. h ≡ head_of s) (known_causes known file s) (on (read_known known s))
  unfolding read_known
  table-decided =
      subst (Decided (λ h. h ≡ head_of s) (known_causes known file s)) (header-then-steps (read_header known s))
      (decided-then (on (read_header known s)) header-decided (λ h e n. rw e steps-decided))

  -- a good header is what the bytes say, and no cause of the header applies
  pub header-none : {h : Head} → read_header known s ≡ Ok h → (h ≡ head_of s) × NoCause (header_causes known file s)
  header-none e = on_none (ap on e) header-decided

  -- what is read is the header, and no cause applies
  pub good_none : {h : Head} → read_known known s ≡ Ok h → (h ≡ head_of s) × NoCause (known_causes known file s)
  good_none e = on_none (ap on e) table-decided

  pub none-good : NoCause (known_causes known file s) → read_known known s ≡ Ok (head_of s)
  none-good n = let q = none-on (on (read_known known s)) table-decided n in on-good file (read_known known s) (q.1 ∙ ap Ok q.2)

-- a table that is read is well formed, whatever the kinds that are known and whichever file it is
pub good-formed : (known : Known) (s : List ℕ) {h : Head} → read_known known s ≡ Ok h → WellFormedTable s
good-formed Both s e = (good_none Both 0 s e).1
good-formed Plain s e = let n = (good_none Plain 0 s e).1 in (n.0, (λ unknown. n.1.0 (λ m. unknown (inl m)), n.1.1))

-- and the other way round where both kinds are known
pub formed-good : (s : List ℕ) → WellFormedTable s → read_table s ≡ Ok (head_of s)
formed-good = none-good Both 0

-- ---- the numbers are 1 to 9, 24 and 28, with the file given

abbrev pub table_numbers : List ℕ
table_numbers = 1 ∷ 2 ∷ 3 ∷ 4 ∷ 5 ∷ 6 ∷ 7 ∷ 8 ∷ 9 ∷ 24 ∷ 28 ∷ []

pub table-numbers : (f : ℕ → ℕ → Bool) (known : Known) (file : ℕ) → T (allows f file table_numbers) → (s : List ℕ) → Numbered f (known_causes known file s)
table-numbers f known file h s = go (allowed f file table_numbers h)
  where
    go : All (λ code. T (f code file)) table_numbers → Numbered f (known_causes known file s)
    go (h1, (h2, (h3, (h4, (h5, (h6, (h7, (h8, (h9, (h24, (h28, none))))))))))) =
        numbered-append f (header_causes known file s) (end_causes file s ++ order_causes file s) (h1, (h2, (h3, (h1, (h4, (h5, (h28, (h6, (h7, tt)))))))))
        (numbered-append f (end_causes file s) (order_causes file s) (numbered_below f (steps_of s) _ (λ j. (h8, tt)))
        (numbered-append f (only (StepsRise s) (not_greater_causes file s)) (only (¬ StepsRise s) (doubled_causes file s))
        (numbered-only f (StepsRise s) (not_greater_causes file s) (numbered_below f (steps_of s) _ (λ j. (h24, tt))))
        (numbered-only f (¬ StepsRise s) (doubled_causes file s) (numbered_below f (steps_of s) _ (λ j. (h9, tt))))))

-- ---- by the version: 9 only where the steps may stand in any order, 24 only where they rise, 5 only of one start, 28 only of a start word

module _ (known : Known) (file : ℕ) (s : List ℕ) where
  abbrev Told : Answer → Type 0
  Told a = (a.code ≡ 9 → ¬ StepsRise s) × (a.code ≡ 24 → StepsRise s) × (a.code ≡ 5 → ¬ StartWord s) × (a.code ≡ 28 → StartWord s)

  abbrev Tells : Cause → Type 0
  Tells c = c.condition → Told c.numbers

  -- any other number tells nothing
  other : {C : Type 0} (code : ℕ) → T (not (eqb code 9 || eqb code 24 || eqb code 5 || eqb code 28)) → C
      → (code ≡ 9 → ¬ StepsRise s) × (code ≡ 24 → StepsRise s) × (code ≡ 5 → ¬ StartWord s) × (code ≡ 28 → StartWord s)
  other code h p = (λ e. absurd (rw e at h), λ e. absurd (rw e at h), λ e. absurd (rw e at h), λ e. absurd (rw e at h))

  pub version-told : (a : Answer) → FirstCause (known_causes known file s) a
      → (a.code ≡ 9 → ¬ StepsRise s) × (a.code ≡ 24 → StepsRise s) × (a.code ≡ 5 → ¬ StartWord s) × (a.code ≡ 28 → StartWord s)
  version-told a =
      first_holds Told (known_causes known file s) a
      (all_append Tells (header_causes known file s) (end_causes file s ++ order_causes file s)
      (other 1 tt, (other 2 tt, (other 3 tt, (other 1 tt, (other 4 tt, (one-start, (start_word_lem, (other 6 tt, (other 7 tt, tt)))))))))
      (all_append Tells (end_causes file s) (order_causes file s)
      (all_join Tells (steps_of s) _ (λ j l. (other 8 tt, tt)))
      (all_append Tells (only (StepsRise s) (not_greater_causes file s)) (only (¬ StepsRise s) (doubled_causes file s))
      (all_map Tells _ (not_greater_causes file s) (all_join _ (steps_of s) _ (λ j l. (late j, tt))))
      (all_map Tells _ (doubled_causes file s) (all_join _ (steps_of s) _ (λ j l. (twice j, tt)))))))
    where
      one-start : {C : Type 0} → (¬ StartWord s) × C → Told (six_numbers 5 file 0)
      one-start p = (λ e. absurd (omega arith), λ e. absurd (omega arith), λ e. p.0, λ e. absurd (omega arith))

      start_word_lem : {C : Type 0} → StartWord s × C → Told (six_numbers 28 file 0)
      start_word_lem p = (λ e. absurd (omega arith), λ e. absurd (omega arith), λ e. absurd (omega arith), λ e. p.0)

      late : (j : ℕ) {C : Type 0} → StepsRise s × C → Told (six_numbers 24 file j)
      late j p = (λ e. absurd (omega arith), λ e. p.0, λ e. absurd (omega arith), λ e. absurd (omega arith))

      twice : (j : ℕ) {C : Type 0} → (¬ StepsRise s) × C → Told (six_numbers 9 file j)
      twice j p = (λ e. p.0, λ e. absurd (omega arith), λ e. absurd (omega arith), λ e. absurd (omega arith))
