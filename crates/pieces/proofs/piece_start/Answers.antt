-- `pieces::piece_start` meets its contract: it is two bytes after the beginning of the length. Assumes nothing.
use Rattle.pieces.specs.Pieces.{piece_start}
use Rattle.pieces.proofs.piece_start.Goals as goal

pub returns : goal.returns
unfolding piece_start
returns c = cc
