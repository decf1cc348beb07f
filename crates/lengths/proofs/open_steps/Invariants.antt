-- `lengths::open_steps` meets its contract: after j steps the open ones among them are kept, in their order. Assumes nothing.
use Prim.Native.Nat.{◌≤◌}
use lib.ListN.{take}
use Rattle.sides.specs.Side.{system_in}
use Rattle.sides.specs.Views.{view_in}
use Rattle.lengths.specs.Chains.{open_by}
use Rattle.lengths.specs.OpenSteps.{Open}
use Rattle.lengths.proofs.open_steps.Given as goal

abbrev pub invariant-loop-j : goal.invariant-loop-j
invariant-loop-j l =
    record {
      few : l.count ≤ l.j;
      are : Open (system_in l.view.ours.now) (open_by (view_in l.view.ours.now l.view.theirs.now) l.distances l.t) l.j (take l.count l.kept);
    }
