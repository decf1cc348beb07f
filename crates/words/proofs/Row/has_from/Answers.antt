-- `words::Row::has_from` meets its contract: below 64 the shifted word is 0 just where no state of n or more is left, and no state is 64 or more.
-- Assumes nothing.
use mathlib.Core.Path.{sym}
use native.Mathlib.Omega.{arith}
use Rattle.words.proofs.BitLaws.{from-64, from-shift}
use Rattle.words.proofs.Row.has_from.Goals as goal

pub returns-then-n-lt64 : goal.returns-then-n-lt64
returns-then-n-lt64 c = sym (from-shift c.args.self.0 c.args.n (omega arith))

pub returns-else-n-lt64 : goal.returns-else-n-lt64
returns-else-n-lt64 c = sym (from-64 c.args.self.0 c.args.n (omega arith) c.if-n-lt64.false)
