-- `lengths::step_distances` meets its contract: each round but the last makes the sum of the lengths fall, and the row
-- that the last leaves is settled. Assumes nothing.
use Rattle.words.proofs.BitLaws.{has-lt}
use Rattle.lengths.proofs.RelaxingLaws.{row-distances}
use Rattle.lengths.proofs.step_distances.Goals as goal

pub returns-after-loop : goal.returns-after-loop
returns-after-loop c =
    let r = c.relax.ensures in
    row-distances _ c.args.j (λ t h. has-lt _ t c.start.ensures.small h) r.bounds (r.settled c.loop-test.false)

pub returns-else-start : goal.returns-else-start
returns-else-start c =
    let s = c.start.ensures in
    row-distances _ c.args.j (λ t h. has-lt _ t s.small h) s.row (s.settled c.if-start.false)
