-- The proof of `lengths::chain_lengths`, which calls itself: a round after the lengths for k - 1 gives those for k. The measure is k. Assumes nothing.
use Rattle.lengths.proofs.+chain_lengths.Given as goal

abbrev pub decreases-chain_lengths : goal.decreases-chain_lengths
decreases-chain_lengths l = l.k
