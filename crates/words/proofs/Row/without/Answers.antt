-- `words::Row::without` meets its contract: the code is the definition. Assumes nothing.
use mathlib.Core.Path.{refl}
use Rattle.words.specs.Bits.{without_bits}
use Rattle.words.proofs.Row.without.Goals as goal

pub returns : goal.returns
unfolding without_bits
returns c = refl
