-- `outcomes::without_stutter` meets its contract: each return is the first of the definition's tests that passes, the ones before it having failed.
-- Assumes nothing.
use mathlib.Core.Path.{sym}
use native.Mathlib.Omega.{arith}
use borrow.Author.Tests.{lt-ltb, le-ltb}
use Rattle.outcomes.specs.Obligation.{without_stutter}
use Rattle.lists.proofs.SomeLaws.{some-e, none-e}
use Rattle.outcomes.proofs.ObligationLaws.{some-state}
use Rattle.outcomes.proofs.without_stutter.Goals as goal
use Rattle.outcomes.proofs.without_stutter.Goals.{then-stays-via-then-stays, then-stays-via-else-stays+then-not-is_empty}

pub returns-in-Some : goal.returns-in-Some
unfolding without_stutter
returns-in-Some c = let s = some-e (sym c.in-Some.ensures) in sym (rw (lt-ltb _ 64 s.0, s.1))

pub returns-then-stays : goal.returns-then-stays
unfolding without_stutter
returns-then-stays c =
    let n = le-ltb _ 64 (none-e (sym c.in_default.ensures)) in
    elim c.then-stays.branch [
      | then-stays-via-then-stays w ↦ sym (rw (n, w.if-stays.true))
      | then-stays-via-else-stays+then-not-is_empty w ↦ sym (rw (n, w.if-stays.false, some-state c.args.ahead.0 (omega arith), sym (w.is_empty.ensures), w.if-not-is_empty.true))
    ]

pub returns : goal.returns
unfolding without_stutter
returns c =
    let n = le-ltb _ 64 (none-e (sym c.in_default.ensures)) in
    sym (rw (n, c.if-stays.false, some-state c.args.ahead.0 (omega arith), sym c.is_empty.ensures, c.if-not-is_empty.false))
