-- The verdict on two tables is decided by their causes, whatever the kinds that are known. Assumes nothing.
use Prim.Native.Nat.{ℕ}
use mathlib.Core.Path.{◌≡◌, sym, ◌∙◌}
use mathlib.Core.Logic.{⊎_elim}
use mathlib.Core.Bool.{Bool, false, not}
use mathlib.Core.List.{List, ◌++◌}
use lib.Dec.{T, eqb}
use Rattle.answers.specs.Causes.{Cause, FirstCause, NoCause, Numbered, allows}
use Rattle.answers.specs.Numbers.{six_numbers}
use Rattle.answers.specs.declared.Answer.{Answer}
use Rattle.answers.specs.Verdicts.{Verdict, ◌and_then◌, pass_if}
use Rattle.answers.proofs.CauseLaws.{append-none, none-append, none-at, append-first, numbered-append, numbered-first}
use Rattle.answers.proofs.DecideLaws.{decides-stable}
use Rattle.answers.proofs.VerdictLaws.{Decided, Anything, decided-then, decided-go, decided-fits, none-on}
use Rattle.tables.specs.Table.{keyed}
use Rattle.table_reader.specs.declared.Known.{Known}
use Rattle.table_reader.specs.declared.Known.TheVariants.{Both, Plain}
use Rattle.table_reader.specs.TableReading.{head_of, read_known}
use Rattle.table_reader.specs.TableVerdicts.{table_verdict}
use Rattle.table_reader.specs.TableCauses.{known_causes}
use Rattle.table_reader.proofs.TableCauseLaws.{table-decided, good-formed, formed-good, good_none, none-good, table_numbers, table-numbers}
use Rattle.table_reader.proofs.PlainLaws.{plain-good}
use Rattle.table_pairs.specs.TablePairs.{same_kind, tables_verdict}
use Rattle.table_pairs.specs.PairCauses.{kind_causes, tables_causes, WellFormedTables}
use Rattle.table_pairs.proofs.PairLaws.{kind-decides, BothRead, plain-read}

module _ (known : Known) (left right : List ℕ) where
  pub tables-decided : Decided Anything (tables_causes known left right) (tables_verdict known left right)
  unfolding tables_verdict
  tables-decided =
      decided-then (table_verdict 0 (read_known known left)) (table-decided known 0 left) λ h e n.
      decided-then (table_verdict 1 (read_known known right)) (table-decided known 1 right) λ k f m.
      decided-go (pass_if (same_kind left right) (six_numbers 30 1 0)) _ (decided-fits (same_kind left right) (kind-decides left right))

  -- where none applies, both are well formed and of one kind
  pub tables-none : NoCause (tables_causes known left right) → WellFormedTables left right
  tables-none n =
      let a = append-none (known_causes known 0 left) (known_causes known 1 right ++ kind_causes left right) n in
      let b = append-none (known_causes known 1 right) (kind_causes left right) a.1 in
      record {
        left-formed = good-formed known left (none-good known 0 left a.0);
        right-formed = good-formed known right (none-good known 1 right b.0);
        one-kind = decides-stable (kind-decides left right) (none-at (kind_causes left right) b.1 0);
      }

  -- the tables' causes, then those of what follows
  pub after-tables : {B : Type 0} {Fine : B → Type 0} {later : List Cause} {rest : Verdict B} → (WellFormedTables left right → Decided Fine later rest)
      → Decided Fine (tables_causes known left right ++ later) (tables_verdict known left right and_then λ h. rest)
  after-tables d = decided-then (tables_verdict known left right) tables-decided (λ h e n. d (tables-none n))

  pub tables-numbers : (f : ℕ → ℕ → Bool) → T (allows f 0 table_numbers) → T (allows f 1 table_numbers) → T (f 30 1)
      → Numbered f (tables_causes known left right)
  tables-numbers f h k t =
      numbered-append f (known_causes known 0 left) (known_causes known 1 right ++ kind_causes left right) (table-numbers f known 0 h left)
      (numbered-append f (known_causes known 1 right) (kind_causes left right) (table-numbers f known 1 k right) (t, tt))

-- A number other than 30.
abbrev pub is_not30 : (code file : ℕ) → Bool
is_not30 code file = not (eqb code 30)

module _ (left right : List ℕ) where
  -- where both kinds are known, the other way round
  pub none-tables : WellFormedTables left right → NoCause (tables_causes Both left right)
  none-tables w =
      none-append (known_causes Both 0 left) (known_causes Both 1 right ++ kind_causes left right) w.left-formed
      (none-append (known_causes Both 1 right) (kind_causes left right) (good_none Both 1 right (formed-good right w.right-formed)).1
      (λ n. n w.one-kind, tt))

  -- and so both are read
  pub formed-read : WellFormedTables left right → BothRead left right (record { left = head_of left; right = head_of right })
  formed-read w =
      record { left-good = formed-good left w.left-formed; right-good = formed-good right w.right-formed; one-kind = w.one-kind }

  -- where "TPT" alone is known and none applies, neither has keys
  pub plain-none : NoCause (tables_causes Plain left right) → (keyed left ≡ false) × (keyed right ≡ false)
  plain-none n = plain-read left right (none-on (tables_verdict Plain left right) (tables-decided Plain left right) n).1

  -- so 30 never comes there
  pub plain-not-30 : (a : Answer) → FirstCause (tables_causes Plain left right) a → T (not (eqb a.code 30))
  plain-not-30 a f =
      ⊎_elim (of-table 0 tt left)
      (λ g.
      ⊎_elim (of-table 1 tt right)
      (λ k.
      let p = plain-good left (none-good Plain 0 left g.0) in
      let q = plain-good right (none-good Plain 1 right k.0) in
      ⊎_elim (λ h. absurd (h.0 (p ∙ sym q))) (λ h. absurd h.1) k.1)
      (append-first (known_causes Plain 1 right) (kind_causes left right) a g.1))
      (append-first (known_causes Plain 0 left) (known_causes Plain 1 right ++ kind_causes left right) a f)
    where
      of-table : (file : ℕ) → T (allows is_not30 file table_numbers) → (s : List ℕ) → FirstCause (known_causes Plain file s) a → T (not (eqb a.code 30))
      of-table file h s = numbered-first is_not30 (known_causes Plain file s) a (table-numbers is_not30 Plain file h s)
