-- `next` of `sides::StepsFrom` meets its contract: the walk goes on from step to step, and ends past the last. Assumes nothing.
use mathlib.Core.Path.{ap}
use native.Mathlib.Omega.{arith}
use lib.ListN.{length}
use Rattle.std.proofs.Common.{rules}
use Rattle.sides.proofs.WalkLaws.{left-none, left-past, left-next}
use Rattle.sides.proofs.StepsFromIterator.next.Goals as goal
use Rattle.sides.proofs.StepsFromIterator.next.Goals.{else-self-j-via-then-self-j+else-j-lt-MAX_STEPS, else-self-j-via-else-self-j}

pub returns-then-j-lt-MAX_STEPS-clause-steps : goal.returns-then-j-lt-MAX_STEPS-clause-steps
returns-then-j-lt-MAX_STEPS-clause-steps c = left-next c.args.self.now c.if-self-j.true c.if-j-lt-MAX_STEPS.true c.next-self.ensures

pub returns-then-j-lt-MAX_STEPS-clause-goes : goal.returns-then-j-lt-MAX_STEPS-clause-goes
returns-then-j-lt-MAX_STEPS-clause-goes c =
    let e = left-next c.args.self.now c.if-self-j.true c.if-j-lt-MAX_STEPS.true c.next-self.ensures in
    let m = ap length e in
    record { on = λ _. (search rules, search rules, omega (arith, m)); keeps = search rules; rests = search rules }

pub returns-clause-steps : goal.returns-clause-steps
returns-clause-steps c =
    let walk = c.args.self.now in
    elim c.else-self-j.branch [
      | else-self-j-via-then-self-j+else-j-lt-MAX_STEPS w ↦ let e = left-past walk (omega arith) in (e, e)
      | else-self-j-via-else-self-j w ↦ let e = left-none walk (omega arith) in (e, e)
    ]
