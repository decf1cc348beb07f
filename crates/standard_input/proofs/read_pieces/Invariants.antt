-- `standard_input::read_pieces` meets its contract: each call is lent as many places as bytes are missing, and reading goes on while a call answers more than
-- 0. The measure is the places that are left, and each turn that goes on fills one or more. Assumes nothing.
use Rattle.std.proofs.Common.{◌≤◌, ◌-◌, ◌≡◌, length, take}
use Rattle.pieces.specs.Pieces.{Reading}
use Rattle.standard_input.proofs.read_pieces.Given as goal

abbrev pub invariant-loop-places : goal.invariant-loop-places
invariant-loop-places l = (l.n ≤ length l.places) × (length l.places ≡ length l.initial.places) × Reading (take l.n l.places)

abbrev pub decreases-loop-places : goal.decreases-loop-places
decreases-loop-places l = length l.initial.places - l.n
