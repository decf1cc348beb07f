-- The relation of two tables as words, 64 for each side.
use Rattle.std.specs.Prelude.{ℕ, zero, suc, cond, List, ltb, get_or}
use Rattle.lists.specs.Lists.{tabulate}
use Rattle.words.specs.Bits.{has_bit, add_bit}
use Rattle.certificates.specs.Layout.{row_of}

-- Row s for s below n1, and the empty word for any other.
unfoldable pub row_word : List ℕ → ℕ → ℕ → ℕ
row_word rows n1 s = cond (ltb s n1) (row_of rows s) 0

-- The rows as 64 words.
unfoldable pub row_words : List ℕ → ℕ → List ℕ
row_words rows n1 = tabulate 64 (row_word rows n1)

-- The states below n whose word has t.
unfoldable pub column_word : List ℕ → ℕ → ℕ → ℕ
column_word words t zero = 0
column_word words t (suc n) = cond (has_bit (get_or words n 0) t) (add_bit (column_word words t n) n) (column_word words t n)

-- The relation turned round, as 64 words.
unfoldable pub column_words : List ℕ → List ℕ
column_words words = tabulate 64 (λ t. column_word words t 64)
