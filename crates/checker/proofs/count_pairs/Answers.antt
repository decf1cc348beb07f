-- `checker::count_pairs` meets its contract: the ones of each word are added. Assumes nothing.
use Prim.Native.Nat.{ℕ, ◌+◌, ◌≤◌}
use mathlib.Core.Path.{◌≡◌, refl, sym, ap₂, ◌∙◌}
use native.Mathlib.Omega.{arith}
use lib.ListN.{get_or}
use Rattle.lists.specs.Below.{sum_below}
use Rattle.lists.proofs.BelowLaws.{sum_more, count-bound}
use Rattle.words.specs.Bits.{has_bit, count_bits}
use Rattle.checker.proofs.count_pairs.Goals as goal

-- a word has at most 64 ones
one-row : (w : ℕ) {x : ℕ} → x ≡ count_bits w → x ≤ 64
unfolding count_bits
one-row w e = rw e (count-bound 64 (has_bit w))

pub loop-word-init : goal.loop-word-init
unfolding sum_below
loop-word-init c = (refl, omega arith)

pub overflow_add-pairs : goal.overflow_add-pairs
overflow_add-pairs c =
    let k = one-row _ c.count-pairs.ensures in
    let i = c.loop-word.invariant.1 in
    omega arith

pub loop-word-preserved : goal.loop-word-preserved
loop-word-preserved c =
    let l = c.loop-word in
    let k = one-row _ c.count-pairs.ensures in
    let i = l.invariant.1 in
    (ap₂ ◌+◌ l.invariant.0 c.count-pairs.ensures ∙ sym (sum_more l.word-index (λ s. count_bits (get_or c.args.words.now s 0))), omega arith)

pub returns : goal.returns
returns c =
    let h : c.loop-word.word-index ≡ 64 = omega arith in
    rw h at c.loop-word.invariant.0
