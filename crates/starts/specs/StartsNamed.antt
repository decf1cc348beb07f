-- How 16 names the starts (document 02, Ask 5): the left start and the right start where neither table has a start word, and the side and the first
-- unpaired start where either has one.
use Rattle.std.specs.Prelude.{ℕ, cond, ◌||◌, List}
use Rattle.tables.specs.Table.{start_word, start_of}
use Rattle.sides.specs.declared.Side.{Side}
use Rattle.sides.specs.Side.{start_in, start_word_in}

pub data StartsNamed : Type 0 where
  both_starts : ℕ → ℕ → StartsNamed
  unpaired_start : StartsNamed

-- By the bytes of two tables.
unfoldable pub starts_named : (left right : List ℕ) → StartsNamed
starts_named left right = cond (start_word left || start_word right) unpaired_start (both_starts (start_of left) (start_of right))

-- By two sides.
unfoldable pub starts_named_in : (ours theirs : Side) → StartsNamed
starts_named_in ours theirs = cond (start_word_in ours || start_word_in theirs) unpaired_start (both_starts (start_in ours) (start_in theirs))
