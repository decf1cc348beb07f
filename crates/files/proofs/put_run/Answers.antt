-- `files::put_run` meets its contract: the rows are lent one after the other, each as a part, and filled. Assumes nothing.
use Prim.Native.Nat.{◌+◌, ◌*◌}
use mathlib.Core.Path.{◌≡◌}
use native.Mathlib.Nat.{zero-mul}
use native.Mathlib.Omega.{arith}
use Rattle.lists.proofs.FillLaws.{rows_none, rows_more}
use Rattle.files.proofs.put_run.Goals as goal

pub loop-i-init : goal.loop-i-init
loop-i-init c = rw zero-mul (rows_none _ _ _)

pub loop-i-preserved : goal.loop-i-preserved
loop-i-preserved c =
    let i = c.loop-i.i in
    let m = c.args.m in
    let next : i * m + m ≡ (i + 1) * m = omega arith in
    rw (← next) (rows_more c.args.n c.loop-i.invariant c.loop-i-test.true c.requires.2 c.put_row.ensures)
