-- `files::put_row` meets its contract: the row is filled by index. Assumes nothing.
use Rattle.lists.proofs.FillLaws.{Filled}
use Rattle.files.specs.Writer.{cell_in}
use Rattle.files.proofs.put_row.Given as goal

abbrev pub invariant-loop-t : goal.invariant-loop-t
invariant-loop-t l = Filled l.t (cell_in l.ranks l.i) l.initial.row l.row
