-- The causes that turn two tables and a relation away, in the documents' order: the left table's, the right table's (1 to 9, 24, 28), 30, then 20 and 15.
use Rattle.std.specs.Prelude.{ℕ, Bool, ◌&&◌, ◌||◌, List, ◌++◌, eqb}
use Rattle.answers.specs.Causes.{Cause}
use Rattle.table_reader.specs.declared.Known.TheVariants.{Both}
use Rattle.table_reader.specs.TableCauses.{table_number}
use Rattle.table_pairs.specs.PairCauses.{tables_causes, tables_number}
use Rattle.certificates.specs.Layout.{sizes_of}
use Rattle.certificate_reader.specs.CertificateCauses.{relation_causes}

abbrev pub input_causes : (left right relation : List ℕ) → List Cause
input_causes left right relation = tables_causes Both left right ++ relation_causes 2 (sizes_of left right) relation

-- Their numbers: a table's, 30, 15 and 20.
abbrev pub input_code : ℕ → Bool
input_code code = table_number code || (eqb code 30 || (eqb code 15 || eqb code 20))

-- And their files: a table's with the file 0 or 1, and 30 with the file 1; 15 and 20 with the file 2.
abbrev pub input_number : (code file : ℕ) → Bool
input_number code file = tables_number code file || ((eqb code 15 || eqb code 20) && eqb file 2)
