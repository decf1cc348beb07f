-- `words::Row::first` meets its contract: the zeros below the lowest set bit are as many as its state, and at most 64. Assumes nothing.
use native.Mathlib.Omega.{arith}
use lib.Count.{trailing_le}
use Rattle.words.proofs.BitLaws.{zeros-first}
use Rattle.words.proofs.Row.first.Goals as goal

pub overflow_cast-result : goal.overflow_cast-result
overflow_cast-result c = omega (arith, trailing_le 64 c.args.self.0)

pub returns : goal.returns
returns c = zeros-first c.args.self.0
