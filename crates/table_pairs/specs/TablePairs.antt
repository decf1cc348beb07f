-- Two tables, read together: the first that is refused, left table, then right table, then 30 where one has keys and the other has none; or both headers.
use Rattle.std.specs.Prelude.{ℕ, Bool, cond, not, List, Ok}
use Rattle.answers.specs.Numbers.{six_numbers}
use Rattle.answers.specs.Verdicts.{Verdict, ◌and_then◌, pass_if}
use Rattle.tables.specs.Table.{keyed}
use Rattle.table_reader.specs.declared.Known.{Known}
use Rattle.table_reader.specs.TableReading.{read_known}
use Rattle.table_reader.specs.TableVerdicts.{table_verdict}
use Rattle.table_pairs.specs.declared.Heads.{Heads}

-- Both have keys, or neither has.
unfoldable pub same_kind : (left right : List ℕ) → Bool
same_kind left right = cond (keyed left) (keyed right) (not (keyed right))

-- The headers of the two tables, of the kinds that are known, or the first refusal.
unfoldable pub tables_verdict : Known → (left right : List ℕ) → Verdict Heads
tables_verdict known left right =
    table_verdict 0 (read_known known left) and_then λ head.
    table_verdict 1 (read_known known right) and_then λ head'.
    pass_if (same_kind left right) (six_numbers 30 1 0) and_then λ x.
    Ok (record { left = head; right = head' })
