-- `pieces::missing` meets its contract: the difference is 0 where it would be below 0. Assumes nothing.
use Rattle.std.proofs.Common.{arith}
use Rattle.pieces.specs.Pieces.{wanted, missing_of}
use Rattle.pieces.proofs.missing.Goals as goal

pub returns-clause-value : goal.returns-clause-value
unfolding missing_of wanted
returns-clause-value c = omega arith
