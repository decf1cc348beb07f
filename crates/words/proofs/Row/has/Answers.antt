-- `words::Row::has` meets its contract: the code's test is the definition's, and a word has no bit of 64 or more. Assumes nothing.
use mathlib.Core.Path.{refl, sym}
use native.Mathlib.Omega.{arith}
use Rattle.words.specs.Bits.{has_bit}
use Rattle.words.proofs.BitLaws.{has-high}
use Rattle.words.proofs.Row.has.Goals as goal

pub returns-then-t-ge64 : goal.returns-then-t-ge64
returns-then-t-ge64 c = sym (has-high c.args.self.0 64 c.args.t (omega arith) c.if-t-ge64.true)

pub returns : goal.returns
unfolding has_bit
returns c = refl
