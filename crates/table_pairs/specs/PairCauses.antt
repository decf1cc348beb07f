-- The causes that turn two tables away, in the documents' order: the left table's, the right table's (1 to 9, 24, 28), then 30, tested after both are read
-- (document 02, Ask 9).
use Rattle.std.specs.Prelude.{ℕ, ◌≡◌, Bool, ◌&&◌, ◌||◌, List, [], ◌∷◌, ◌++◌, leb, eqb}
use Rattle.answers.specs.Numbers.{six_numbers}
use Rattle.answers.specs.Causes.{Cause, ◌gives◌}
use Rattle.tables.specs.Table.{keyed}
use Rattle.table_reader.specs.declared.Known.{Known}
use Rattle.table_reader.specs.TableCauses.{known_causes, table_number, WellFormedTable}

-- The two tables are of one kind: both TPT, or both TPK.
abbrev pub OneKind : (left right : List ℕ) → Type 0
OneKind left right = keyed left ≡ keyed right

-- 30: one table is TPT and the other TPK.
abbrev pub kind_causes : (left right : List ℕ) → List Cause
kind_causes left right = (¬ OneKind left right) gives six_numbers 30 1 0 ∷ []

-- The causes of two tables of the kinds that are known. Where that is "TPT" alone, 30 never comes.
abbrev pub tables_causes : Known → (left right : List ℕ) → List Cause
tables_causes known left right = known_causes known 0 left ++ (known_causes known 1 right ++ kind_causes left right)

-- Their numbers and files: a table's with the file 0 or 1, and 30 with the file 1.
abbrev pub tables_number : (code file : ℕ) → Bool
tables_number code file = (table_number code && leb file 1) || (eqb code 30 && eqb file 1)

-- Two tables are well formed, and of one kind, where none of these applies.
pub record WellFormedTables (left right : List ℕ) : Type 0 where
  pub left-formed : WellFormedTable left
  pub right-formed : WellFormedTable right
  pub one-kind : OneKind left right
