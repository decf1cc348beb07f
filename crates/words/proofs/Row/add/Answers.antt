-- `words::Row::add` meets its contract: the test at the start is the definition's, and below 64 the shifted 1 is the bit's weight.
-- Assumes nothing.
use native.Mathlib.Omega.{arith}
use borrow.Author.Tests.{lt-ltb, le-ltb}
use Rattle.words.specs.Bits.{add_bit}
use Rattle.words.proofs.BitLaws.{shift_one}
use Rattle.words.proofs.Row.add.Goals as goal

pub returns-then-t-ge64 : goal.returns-then-t-ge64
unfolding add_bit
returns-then-t-ge64 c = simp (le-ltb c.args.t 64 c.if-t-ge64.true)

pub returns : goal.returns
unfolding add_bit
returns c =
    let t = c.args.t in
    simp (lt-ltb t 64 (omega arith), shift_one t (omega arith))
