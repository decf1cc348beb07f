-- Numbers in bytes, the high byte first.
use Rattle.std.specs.Prelude.{ℕ, zero, suc, ◌+◌, ◌*◌, ◌/◌, ◌%◌, List, [], ◌∷◌, ◌++◌, get_or}

-- The byte at index i, and 0 past the end.
abbrev pub byte_at : List ℕ → ℕ → ℕ
byte_at s i = get_or s i 0

-- The number in the k bytes of s from index `at` on; past the end stand zeros.
unfoldable pub big_endian : List ℕ → ℕ → ℕ → ℕ
big_endian s at zero = 0
big_endian s at (suc k) = big_endian s at k * 256 + byte_at s (at + k)

-- The k bytes of the number x, of which the low 8 k bits count.
unfoldable pub big_bytes : ℕ → ℕ → List ℕ
big_bytes zero x = []
big_bytes (suc k) x = big_bytes k (x / 256) ++ (x % 256 ∷ [])
