-- `examination::check_chains` meets its contract: no chain is found at a fixed state before b. Assumes nothing.
use Prim.Native.Nat.{ℕ, ◌<◌}
use mathlib.Core.Path.{◌≡◌}
use Rattle.answers.specs.Numbers.{which_number}
use Rattle.answers.specs.Verdicts.{passed}
use Rattle.sides.specs.Side.{system_in}
use Rattle.sides.specs.Views.{view_in}
use Rattle.examination.specs.OnSides.{long_by}
use Rattle.examination.proofs.ChainLaws.{chains_at}
use Rattle.examination.proofs.check_chains.Given as goal

abbrev pub invariant-loop-b : goal.invariant-loop-b
invariant-loop-b l = (i : ℕ) → i < l.b
    → chains_at (which_number l.side) (system_in l.view.ours.now).states (system_in l.view.theirs.now).states
    (long_by (view_in l.view.ours.now l.view.theirs.now) l.chains) i ≡ passed
