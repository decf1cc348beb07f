-- The causes 10 to 15 and 20, each worded as its row of document 01's table, and not through the readers.
use Rattle.std.specs.Prelude.{ℕ, ◌*◌, ◌<◌, ◌≡◌, List, [], ◌∷◌, length}
use Rattle.lists.specs.Lists.{join_below}
use Rattle.lists.specs.Numbers.{byte_at, big_endian}
use Rattle.words.specs.Bits.{HasFrom}
use Rattle.answers.specs.Numbers.{six_numbers}
use Rattle.answers.specs.Causes.{Cause, ◌gives◌}
use Rattle.table_reader.specs.TableCauses.{MagicFits}
use Rattle.certificates.specs.Layout.{certificate_header_length, row_length, certificate_length, rows_part, row_of}
use Rattle.certificates.specs.declared.Sizes.{Sizes}

-- The four sizes are the tables'.
abbrev pub SizesFit : Sizes → List ℕ → Type 0
SizesFit z c = (byte_at c 5 ≡ z.n1) × (byte_at c 6 ≡ z.n2) × (big_endian c 7 2 ≡ z.m1) × (big_endian c 9 2 ≡ z.m2)

-- Row s has a bit n2 or more.
abbrev pub HasWideBit : List ℕ → ℕ → ℕ → Type 0
HasWideBit rows n2 s = HasFrom (row_of rows s) n2

-- Row bit n2 or more, a the first such row.
abbrev pub row_causes : ℕ → List ℕ → ℕ → ℕ → List Cause
row_causes file rows n1 n2 = join_below n1 (λ s. HasWideBit rows n2 s gives six_numbers 15 file s ∷ [])

-- The causes that turn a certificate away, in the order of their numbers.
abbrev pub certificate_causes : ℕ → Sizes → List ℕ → List Cause
certificate_causes file z c =
    -- certificate under 11 bytes
    (length c < certificate_header_length) gives six_numbers 10 file 0
    -- its first three bytes, "TPC"
    ∷ (¬ MagicFits 0x43 c) gives six_numbers 11 file 0
    -- its version not 1
    ∷ (¬ (big_endian c 3 2 ≡ 1)) gives six_numbers 12 file 0
    -- a size unlike the tables'
    ∷ (¬ SizesFit z c) gives six_numbers 13 file 0
    -- its length
    ∷ (¬ (length c ≡ certificate_length z)) gives six_numbers 14 file 0
    ∷ row_causes file (rows_part c z) z.n1 z.n2

-- The causes that turn a relation away, in the maker's order.
abbrev pub relation_causes : ℕ → Sizes → List ℕ → List Cause
relation_causes file z r =
    -- relation not 8 n1 bytes
    (¬ (length r ≡ row_length * z.n1)) gives six_numbers 20 file 0
    ∷ row_causes file r z.n1 z.n2
