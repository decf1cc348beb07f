-- Inner: a side's unpaired starts as a word.
use Rattle.std.specs.Prelude.{ℕ, ◌≡◌}
use Rattle.words.specs.Bits.{has_bit}
use Rattle.starts.specs.StartsVerdict.{unpaired, view_by_theirs}
use Rattle.sides.specs.declared.Side.{Side}

-- The word has our starts that are related to none of theirs.
pub record UnpairedWord (ours theirs : Side) (word : ℕ) : Type 0 where
  pub starts-are : (s : ℕ) → has_bit word s ≡ unpaired (view_by_theirs ours theirs) s
