-- `files::put_run` meets its contract: the rows are lent one after the other, each as a part, and filled. Assumes nothing.
use Prim.Native.Nat.{◌*◌}
use Rattle.lists.proofs.FillLaws.{Rows}
use Rattle.files.specs.Writer.{cell_in}
use Rattle.files.proofs.put_run.Given as goal

abbrev pub invariant-loop-i : goal.invariant-loop-i
invariant-loop-i l = Rows l.i (l.i * l.m) l.m (cell_in l.ranks) l.initial.run l.run
