-- The turns of `pieces::length_at`: the length read is the one that the definition adds.
use Rattle.std.proofs.Common.{◌≡◌, ℕ, refl, ap, sym, ◌∙◌, arith}
use Rattle.lists.specs.Numbers.{big_endian}
use Rattle.pieces.specs.Pieces.{length_at}
use Rattle.pieces.proofs.PieceLaws.{length-at-more}
use Rattle.pieces.proofs.length_at.Goals as goal

pub loop-init : goal.loop-init
unfolding length_at
loop-init c = (refl, omega arith)

pub loop-preserved : goal.loop-preserved
loop-preserved c =
    let s = c.args.input.now in
    let l = c.loop in
    let n : big_endian s (length_at s l.counter) 2 ≡ c.read_be16.result = ap (λ (a : ℕ). big_endian s a 2) (sym l.invariant.0) ∙ sym c.read_be16.ensures.value in
    let e = length-at-more s l.counter in
    (omega arith, omega arith)
