-- `stutter::has_room` meets its contract: six places. Assumes nothing.
use mathlib.Core.Path.{refl}
use Rattle.stutter.specs.Interface.{has_room}
use Rattle.stutter.proofs.has_room.Goals as goal

pub returns : goal.returns
unfolding has_room
returns c = refl
