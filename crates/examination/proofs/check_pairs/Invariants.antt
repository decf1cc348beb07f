-- `examination::check_pairs` meets its contract: every one of our states before s has passed. Assumes nothing.
use Prim.Native.Nat.{ℕ, ◌<◌}
use mathlib.Core.Path.{◌≡◌}
use Rattle.answers.specs.Verdicts.{passed}
use Rattle.examination.specs.Walk.{row_in}
use Rattle.examination.proofs.check_pairs.Given as goal

abbrev pub invariant-loop-s : goal.invariant-loop-s
invariant-loop-s l = (i : ℕ) → i < l.s → row_in l.view.ours.now l.view.theirs.now l.distances l.distances2 i ≡ passed
