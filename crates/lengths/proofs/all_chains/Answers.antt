-- `lengths::all_chains` meets its contract: the rows are lent one after the other, each as a part, and written. Assumes nothing.
use Prim.Native.Nat.{ℕ}
use native.Mathlib.Omega.{arith}
use lib.ListN.{replicate, length-replicate}
use Rattle.lists.proofs.FillLaws.{rows_none}
use Rattle.lengths.proofs.CellLaws.{rows-copied}
use Rattle.lengths.proofs.all_chains.Goals as goal

pub loop-t-init : goal.loop-t-init
loop-t-init c = rows_none 64 _ (replicate 4096 0)

pub loop-t-preserved : goal.loop-t-preserved
loop-t-preserved c =
    rows-copied 64 c.loop-t.invariant (length-replicate {A = ℕ} 4096 0) (omega (arith, c.loop-t-test.true)) c.chains_at-row.ensures c.copy_from_slice.ensures.after
