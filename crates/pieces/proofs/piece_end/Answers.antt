-- `pieces::piece_end` meets its contract: a piece ends where the next length begins. Assumes nothing.
use Rattle.std.proofs.Common.{◌≡◌, ◌+◌, suc, ap, ◌∙◌, arith}
use Rattle.pieces.specs.Pieces.{length_at, piece_end}
use Rattle.pieces.proofs.piece_end.Goals as goal

pub returns : goal.returns
unfolding piece_end
returns c =
    let next : c.from.result + 1 ≡ suc c.args.i = omega arith in
    c.length_at.ensures.value ∙ ap (length_at c.args.input.now) next
