-- `pieces::piece` meets its contract: it is the part between the start and the end. Assumes nothing.
use Rattle.pieces.specs.Pieces.{piece_of}
use Rattle.pieces.proofs.piece.Goals as goal

pub returns : goal.returns
unfolding piece_of
returns c = cc
