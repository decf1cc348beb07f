-- `lengths::all_chains` meets its contract: the rows are lent one after the other, each as a part, and written. Assumes nothing.
use Prim.Native.Nat.{◌*◌}
use lib.ListN.{replicate}
use Rattle.lists.proofs.FillLaws.{Rows}
use Rattle.sides.specs.Views.{view_in}
use Rattle.lengths.specs.Chains.{chain_by}
use Rattle.lengths.proofs.all_chains.Given as goal

abbrev pub invariant-loop-t : goal.invariant-loop-t
invariant-loop-t l = Rows l.t (l.t * 64) 64 (chain_by (view_in l.view.ours.now l.view.theirs.now) l.distances) (replicate 4096 0) l.at
