-- `lengths::open_steps` meets its contract: after j steps the open ones among them are kept, in their order. Assumes nothing.
use Prim.Native.Nat.{◌<◌, zero-le}
use native.Mathlib.Omega.{arith}
use mathlib.Core.Path.{ap}
use lib.ListN.{length, length-set}
use Rattle.std.proofs.lemmas.List.{take_more_set}
use Rattle.sides.specs.Side.{system_in}
use Rattle.sides.specs.Views.{view_in}
use Rattle.lengths.specs.Chains.{open_by}
use Rattle.lengths.proofs.OpenStepLaws.{open-start, open-keep, open-skip, open-below}
use Rattle.lengths.proofs.open_steps.Goals as goal
use Rattle.lengths.proofs.open_steps.Goals.{then-is_open, else-is_open}

pub loop-j-init : goal.loop-j-init
loop-j-init c = record { few = zero-le; are = open-start _ _ }

pub overflow_cast-kept : goal.overflow_cast-kept
overflow_cast-kept c =
    let a = c.args in
    omega (arith, open-below a.view.ours.now a.view.theirs.now a.distances.now a.t c.loop-j.j c.is_open.ensures c.if-is_open.true, c.from.ensures)

pub overflow_cast-kept-then-is_open : goal.overflow_cast-kept-then-is_open
overflow_cast-kept-then-is_open c =
    let a = c.args in
    omega (arith, open-below a.view.ours.now a.view.theirs.now a.distances.now a.t c.loop-j.j c.is_open.ensures c.if-is_open.true, c.to.ensures)

pub loop-j-preserved : goal.loop-j-preserved
loop-j-preserved c =
    let o = c.is_open.ensures in
    let a = c.args in
    let l = c.loop-j in
    let i = l.invariant in
    let S = system_in a.view.ours.now in
    let test = open_by (view_in a.view.ours.now a.view.theirs.now) a.distances.now a.t in
    elim c.if-is_open.branch [
      | then-is_open w ↦
          let room : l.count < length l.kept = omega (arith, c.if-is_open.array_long, simp length-set at (ap length w.kept-is)) in
          rw (w.kept-is, w.count-is)
          (record {
            few = omega arith;
            are = rw (take_more_set l.kept l.count _ room)
                (open-keep S test i.are o w.if-is_open.true w.from.ensures w.to.ensures
                (rw w.to.ensures (open-below a.view.ours.now a.view.theirs.now a.distances.now a.t l.j o w.if-is_open.true).1));
          })
      | else-is_open w ↦ rw (w.kept-is, w.count-is) (record { few = omega arith; are = open-skip S test i.are o w.if-is_open.false })
    ]
