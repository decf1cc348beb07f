-- `match_sets::distances` meets its contract: the rows of the steps are lent one after the other, each as a part, and written; the others stay zeros.
-- Assumes nothing.
use Prim.Native.Nat.{◌+◌, ◌*◌, ◌<◌}
use mathlib.Core.Path.{◌≡◌, refl}
use native.Mathlib.Omega.{arith}
use Rattle.sides.specs.Side.{system_in}
use Rattle.match_sets.proofs.DistanceRowLaws.{distance-rows-none, distance-rows-copied, distance-rows-all}
use Rattle.match_sets.proofs.distances.Goals as goal

pub loop-j-init : goal.loop-j-init
loop-j-init c = distance-rows-none _ refl (omega arith)

pub loop-j-preserved : goal.loop-j-preserved
loop-j-preserved c =
    let a = c.args in
    let j = c.loop-j.j in
    let k : j < (system_in a.view.ours.now).steps = omega (arith, c.step_count-j-end.ensures.value, c.loop-j-test.true) in
    let next : (j + 1) * 64 ≡ j * 64 + 64 = omega arith in
    rw next (distance-rows-copied c.loop-j.invariant k c.step_distances-row.ensures c.copy_from_slice.ensures.after)

pub returns : goal.returns
returns c = distance-rows-all c.loop-j.invariant (omega (arith, c.step_count-j-end.ensures.value, c.loop-j-test.false))
