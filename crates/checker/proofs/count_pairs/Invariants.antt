-- `checker::count_pairs` meets its contract: the ones of each word are added. Assumes nothing.
use Prim.Native.Nat.{◌*◌, ◌≤◌}
use mathlib.Core.Path.{◌≡◌}
use lib.ListN.{get_or}
use Rattle.lists.specs.Below.{sum_below}
use Rattle.words.specs.Bits.{count_bits}
use Rattle.checker.proofs.count_pairs.Given as goal

abbrev pub invariant-loop-word : goal.invariant-loop-word
invariant-loop-word l = (l.pairs ≡ sum_below l.word-index (λ i. count_bits (get_or l.words i 0))) × (l.pairs ≤ 64 * l.word-index)
