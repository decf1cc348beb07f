-- The causes that turn a certificate away from the judge, in the documents' order: left table, right table, 30, 10 to 15, then
-- 16 to 19 in judging order.
use Rattle.std.specs.Prelude.{ℕ, Bool, ◌&&◌, ◌||◌, leb, eqb}
use mathlib.Core.List.{List, ◌++◌, flat_map}
use Rattle.answers.specs.Causes.{Cause}
use Rattle.table_reader.specs.declared.Known.{Known}
use Rattle.table_reader.specs.declared.Known.TheVariants.{Both}
use Rattle.table_pairs.specs.PairCauses.{tables_causes, tables_number}
use Rattle.certificates.specs.Layout.{sizes_of}
use Rattle.certificates.specs.CertificateModel.{certified_view, certified_ranks}
use Rattle.certificate_reader.specs.CertificateCauses.{certificate_causes}
use Rattle.starts.specs.StartsNamed.{starts_named}
use Rattle.obligations.specs.CheckCauses.{check_causes}
use Rattle.starts.specs.StartsCauses.{starts_causes}
use Rattle.obligations.specs.Judging.{checks}

-- Of a judge that knows these kinds of table.
abbrev pub known_judge_causes : Known → (left right c : List ℕ) → List Cause
known_judge_causes known left right c =
    tables_causes known left right
    ++ (certificate_causes 2 (sizes_of left right) c
    ++ (starts_causes (certified_view left right c) (starts_named left right)
    ++ flat_map (check_causes (certified_view left right c) (certified_ranks left right c)) (checks (certified_view left right c))))

-- The judge's. It knows both kinds.
abbrev pub judge_causes : (left right c : List ℕ) → List Cause
judge_causes = known_judge_causes Both

-- Their numbers and files: a table's with the file 0 or 1, 30 with the file 1, and 10 to 19 with the file 2.
abbrev pub judge_number : (code file : ℕ) → Bool
judge_number code file = tables_number code file || ((leb 10 code && leb code 19) && eqb file 2)
