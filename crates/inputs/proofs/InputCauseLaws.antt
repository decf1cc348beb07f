-- The verdict on two tables and a relation is decided by their causes, and where none applies all three are read. Assumes nothing.
use Prim.Native.Nat.{ℕ}
use mathlib.Core.Logic.{⊎_elim}
use mathlib.Core.Bool.{Bool, ◌&&◌, ◌||◌}
use mathlib.Core.List.{List, [], ◌∷◌}
use lib.Dec.{T, leb, eqb}
use Rattle.lists.proofs.BoolLaws.{and_l, or-e, or_l, or_r}
use Rattle.answers.specs.Causes.{FirstCause, NoCause, Numbered, allows}
use Rattle.answers.specs.declared.Answer.{Answer}
use Rattle.answers.proofs.CauseLaws.{numbered-append, numbered-first}
use Rattle.answers.proofs.VerdictLaws.{Decided, Anything, decided-then, decided-go, none-on}
use Rattle.table_reader.specs.declared.Known.TheVariants.{Both}
use Rattle.table_reader.specs.TableCauses.{table_number}
use Rattle.table_reader.proofs.TableCauseLaws.{table_numbers}
use Rattle.table_pairs.specs.TablePairs.{tables_verdict}
use Rattle.table_pairs.specs.PairCauses.{tables_causes, tables_number}
use Rattle.table_pairs.proofs.PairCauseLaws.{tables-decided, tables-numbers}
use Rattle.certificates.specs.Layout.{sizes_of}
use Rattle.certificate_reader.specs.CertificateReading.{read_relation}
use Rattle.certificate_reader.specs.CertificateVerdicts.{relation_verdict}
use Rattle.certificate_reader.specs.CertificateCauses.{relation_causes}
use Rattle.certificate_reader.proofs.CertificateCauseLaws.{relation-decided, relation-numbers}
use Rattle.inputs.specs.Inputs.{InputsRead, read_verdict}
use Rattle.inputs.specs.InputCauses.{input_causes, input_code, input_number}
use Rattle.inputs.proofs.InputLaws.{inputs_read}

module _ (left right relation : List ℕ) where
  pub inputs-decided : Decided Anything (input_causes left right relation) (read_verdict left right relation)
  unfolding read_verdict
  inputs-decided =
      decided-then (tables_verdict Both left right) (tables-decided Both left right) λ h e n.
      decided-go (relation_verdict 2 (read_relation (sizes_of left right) relation)) _ (relation-decided 2 (sizes_of left right) relation)

  pub none_read : NoCause (input_causes left right relation) → InputsRead left right relation
  none_read n = (inputs_read left right relation (none-on (read_verdict left right relation) inputs-decided n).1).2

  -- the numbers: 1 to 9, 24 and 28 with the file 0 or 1, 30 with the file 1; 20 and 15 with the file 2
  pub input-numbers : (f : ℕ → ℕ → Bool) → T (allows f 0 table_numbers) → T (allows f 1 table_numbers) → T (f 30 1) → T (allows f 2 (20 ∷ 15 ∷ []))
      → Numbered f (input_causes left right relation)
  input-numbers f h k t r =
      numbered-append f (tables_causes Both left right) (relation_causes 2 (sizes_of left right) relation) (tables-numbers Both left right f h k t)
      (relation-numbers f 2 r (sizes_of left right) relation)

  pub input-first : (a : Answer) → FirstCause (input_causes left right relation) a → T (input_code a.code)
  input-first a first =
      ⊎_elim of-tables
      (λ r. or_r (table_number k) _ (or_r (eqb k 30) (eqb k 15 || eqb k 20) (and_l (eqb k 15 || eqb k 20) (eqb a.file 2) r)))
      (or-e (tables_number k a.file) ((eqb k 15 || eqb k 20) && eqb a.file 2)
      (numbered-first input_number (input_causes left right relation) a (input-numbers input_number tt tt tt tt) first))
    where
      k : ℕ
      k = a.code

      of-tables : T (tables_number k a.file) → T (input_code k)
      of-tables h =
          ⊎_elim (λ t. or_l (table_number k) _ (and_l (table_number k) (leb a.file 1) t))
          (λ t. or_r (table_number k) _ (or_l (eqb k 30) (eqb k 15 || eqb k 20) (and_l (eqb k 30) (eqb a.file 1) t)))
          (or-e (table_number k && leb a.file 1) (eqb k 30 && eqb a.file 1) h)
