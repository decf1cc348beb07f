-- `stutter::slip_in` meets its contract: the numbers in the first four places. Assumes nothing.
use mathlib.Core.Path.{refl}
use Rattle.stutter.specs.Interface.{slip_in}
use Rattle.stutter.proofs.slip_in.Goals as goal

pub returns : goal.returns
unfolding slip_in
returns c = refl
