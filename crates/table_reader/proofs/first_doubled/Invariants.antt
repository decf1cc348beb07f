-- `table_reader::first_doubled` meets its contract: of the steps below j the ends were seen, and none of those steps equals an earlier one. Assumes nothing.
use mathlib.Core.Path.{◌≡◌}
use Rattle.lists.specs.Below.{first_below}
use Rattle.tables.specs.Table.{from_of, to_of}
use Rattle.table_reader.specs.TableReading.{doubled}
use Rattle.table_reader.specs.EndsSeen.{EndsSeen}
use Rattle.table_reader.proofs.first_doubled.Given as goal

abbrev pub invariant-loop-j : goal.invariant-loop-j
invariant-loop-j l =
    (first_below l.j (doubled l.format l.steps) ≡ l.j) × EndsSeen (from_of l.format l.steps) (to_of l.format l.steps) l.j l.seen
