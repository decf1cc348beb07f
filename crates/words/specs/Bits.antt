-- The bits of a word of 64: a set of states. Document 01's rows are such words: s and t are related when row s has the bit of weight 2 to the power t.
use Rattle.std.specs.Prelude.{ℕ, ◌/◌, ◌%◌, ◌^◌, ◌≤◌, ◌<◌, Bool, cond, ◌&&◌, T, leb, ltb, eqb}
use Rattle.std.specs.Int.Bits.{bit_and, bit_or, bit_xor}
use Rattle.lists.specs.Below.{any_below, first_below, count_below}

-- Whether the word has the bit of weight 2 to the power t.
unfoldable pub has_bit : ℕ → ℕ → Bool
has_bit x t = eqb (x / 2 ^ t % 2) 1

-- The word with state t. A state of 64 or more is in no word, and changes nothing.
unfoldable pub add_bit : ℕ → ℕ → ℕ
add_bit x t = cond (ltb t 64) (bit_or x (2 ^ t)) x

-- The word without state t. A state of 64 or more changes nothing.
unfoldable pub remove_bit : ℕ → ℕ → ℕ
remove_bit x t = cond (ltb t 64) (bit_xor x (bit_and x (2 ^ t))) x

-- The states of the first word that are not in the second.
unfoldable pub without_bits : ℕ → ℕ → ℕ
without_bits x y = bit_xor x (bit_and x y)

-- The word, of 64 bits, has a bit n or more. As a test, and as a statement.
unfoldable pub has_from : ℕ → ℕ → Bool
has_from x n = any_below 64 (λ t. leb n t && has_bit x t)

abbrev pub HasFrom : ℕ → ℕ → Type 0
HasFrom x n = (t : ℕ) × (t < 64) × (n ≤ t) × T (has_bit x t)

-- How many states the word has.
unfoldable pub count_bits : ℕ → ℕ
count_bits x = count_below 64 (has_bit x)

-- The smallest state of the word, and 64 where it has none.
unfoldable pub first_bit : ℕ → ℕ
first_bit x = first_below 64 (has_bit x)
