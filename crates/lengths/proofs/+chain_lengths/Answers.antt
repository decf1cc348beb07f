-- The proof of `lengths::chain_lengths`, which calls itself: a round after the lengths for k - 1 gives those for k. Assumes nothing.
use Prim.Native.Nat.{◌+◌, ◌-◌}
use mathlib.Core.Path.{◌≡◌}
use native.Mathlib.Omega.{arith}
use Rattle.lengths.proofs.OpenStepLaws.{kept-none, kept-room, kept-round}
use Rattle.lengths.proofs.+chain_lengths.Goals as goal

pub returns-then-k-eq0 : goal.returns-then-k-eq0
returns-then-k-eq0 t c = rw c.if-k-eq0.true (kept-none c.args.kept.now)

pub lengthen-requires-clause-room : goal.lengthen-requires-clause-room
lengthen-requires-clause-room t c = kept-room c.args.kept.now (omega arith) c.chain_lengths-before.ensures

pub returns : goal.returns
returns t c =
    let k = c.args.k in
    let e : k - 1 + 1 ≡ k = omega arith in
    rw e at (kept-round c.args.kept.now (k - 1) c.requires c.chain_lengths-before.ensures c.lengthen.ensures)
