-- `words::Row::count` meets its contract: the machine's count of ones is the number of states, and at most 64. Assumes nothing.
use native.Mathlib.Omega.{arith}
use lib.Count.{ones-le}
use Rattle.words.proofs.BitLaws.{ones-count}
use Rattle.words.proofs.Row.count.Goals as goal

pub overflow_cast-result : goal.overflow_cast-result
overflow_cast-result c = omega (arith, ones-le 64 c.args.self.0 (omega arith))

pub returns : goal.returns
returns c = ones-count c.args.self.0 (omega arith)
