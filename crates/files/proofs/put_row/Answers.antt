-- `files::put_row` meets its contract: the row is filled by index. Assumes nothing.
use native.Mathlib.Omega.{arith}
use Rattle.lists.proofs.FillLaws.{filled_none, filled_more}
use Rattle.files.specs.Writer.{cell_in}
use Rattle.files.proofs.put_row.Goals as goal

pub loop-t-init : goal.loop-t-init
loop-t-init c = filled_none _ _

pub loop-t-preserved : goal.loop-t-preserved
unfolding cell_in
loop-t-preserved c = filled_more c.loop-t.invariant (omega arith) c.byte.ensures.value
