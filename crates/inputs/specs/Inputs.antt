-- Two tables and a relation, read together: the first file that is refused, left table, right table, 30 where the tables are of different kinds, then the
-- relation; or the headers of the tables.
use Rattle.std.specs.Prelude.{ℕ, ◌≡◌, List, Ok}
use Rattle.answers.specs.Verdicts.{Verdict, ◌and_then◌}
use Rattle.tables.specs.declared.Head.{Head}
use Rattle.table_reader.specs.declared.Known.TheVariants.{Both}
use Rattle.table_reader.specs.TableReading.{read_table}
use Rattle.table_pairs.specs.TablePairs.{tables_verdict}
use Rattle.table_pairs.specs.PairCauses.{OneKind}
use Rattle.table_pairs.specs.declared.Heads.{Heads}
use Rattle.certificates.specs.Layout.{sizes_of}
use Rattle.certificates.specs.declared.Sizes.{Sizes}
use Rattle.certificate_reader.specs.CertificateReading.{read_relation}
use Rattle.certificate_reader.specs.CertificateVerdicts.{relation_verdict}

-- Both tables and the relation are read, and the tables are of one kind.
pub record InputsRead (left right relation : List ℕ) : Type 0 where
  pub head : Head
  pub head' : Head
  pub sizes : Sizes
  pub left-good : read_table left ≡ Ok head
  pub right-good : read_table right ≡ Ok head'
  pub one-kind : OneKind left right
  pub relation-good : read_relation (sizes_of left right) relation ≡ Ok sizes

-- The verdict on the three files: the headers of the tables, or the first refusal.
unfoldable pub read_verdict : List ℕ → List ℕ → List ℕ → Verdict Heads
read_verdict left right relation =
    tables_verdict Both left right and_then λ heads.
    relation_verdict 2 (read_relation (sizes_of left right) relation) and_then λ sizes.
    Ok heads
