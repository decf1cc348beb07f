-- The causes 1 to 9, 24 and 28, each worded as its row of document 01's table or as Ask 1, 5, 6 or 9 of document 02, and not through the reader. `file` is the
-- number of the file in the answer.
use Rattle.std.specs.Prelude.{ℕ, zero, suc, ◌≤◌, ◌<◌, ◌≡◌, ◌⊎◌, Bool, ◌&&◌, ◌||◌, List, [], ◌∷◌, ◌++◌, T, leb, eqb, length}
use Rattle.lists.specs.Lists.{join_below}
use Rattle.lists.specs.Numbers.{byte_at}
use Rattle.words.specs.Bits.{HasFrom}
use Rattle.answers.specs.Numbers.{six_numbers}
use Rattle.answers.specs.Causes.{Cause, ◌gives◌, only, NoCause}
use Rattle.tables.specs.Table.{version_of, last_version, layout_in, states_of, start_of, starts_of, start_word, steps_of, table_length, from_in, to_in, key_in}
use Rattle.table_reader.specs.declared.Known.{Known}
use Rattle.table_reader.specs.declared.Known.TheVariants.{Both, Plain}

-- Bytes 0 to 2 are "TP" and this third one.
abbrev pub MagicFits : ℕ → List ℕ → Type 0
MagicFits third s = (byte_at s 0 ≡ 0x54) × (byte_at s 1 ≡ 0x50) × (byte_at s 2 ≡ third)

-- They are those of a kind that the reader knows: "TPT" or "TPK", or "TPT" alone.
abbrev pub MagicKnown : Known → List ℕ → Type 0
MagicKnown Both s = MagicFits 0x54 s ⊎ MagicFits 0x4B s
MagicKnown Plain s = MagicFits 0x54 s

-- An end of step j is n or more.
abbrev pub EndOutside : List ℕ → ℕ → Type 0
EndOutside s j = (states_of s ≤ from_in s j) ⊎ (states_of s ≤ to_in s j)

-- Step j equals an earlier one.
abbrev pub EqualsEarlier : List ℕ → ℕ → Type 0
EqualsEarlier s j = (i : ℕ) × (i < j) × (from_in s i ≡ from_in s j) × (to_in s i ≡ to_in s j)

-- Step j is greater than step i: by from, then by to, then by key. Without keys, where all are 0, the ends decide.
abbrev pub Greater : List ℕ → ℕ → ℕ → Type 0
Greater s j i =
    (from_in s i < from_in s j)
    ⊎ ((from_in s i ≡ from_in s j) × ((to_in s i < to_in s j) ⊎ ((to_in s i ≡ to_in s j) × (key_in s i < key_in s j))))

-- Step j is not greater than the one before it; step 0 has none before it.
abbrev pub NotGreater : List ℕ → ℕ → Type 0
NotGreater s zero = ⊥
NotGreater s (suc i) = ¬ Greater s (suc i) i

-- The file has a start word, by its format.
abbrev pub StartWord : List ℕ → Type 0
StartWord s = T (start_word s)

-- n is 1 to 64.
abbrev pub StatesFit : ℕ → Type 0
StatesFit n = (1 ≤ n) × (n ≤ 64)

-- The start word of n states is 0 or has a bit n or more.
abbrev pub WrongStarts : (word n : ℕ) → Type 0
WrongStarts word n = (word ≡ 0) ⊎ HasFrom word n

-- The causes of the header and the length, in their order.
abbrev pub header_causes : Known → ℕ → List ℕ → List Cause
header_causes known file s =
    -- table under 9 bytes
    (length s < 9) gives six_numbers 1 file 0
    -- first three bytes: those of no kind that is known
    ∷ (¬ MagicKnown known s) gives six_numbers 2 file 0
    -- version other than 1 to 4, of a table with keys other than 1
    ∷ (¬ ((1 ≤ version_of s) × (version_of s ≤ last_version s))) gives six_numbers 3 file 0
    -- under the length of its header: 16 bytes with a start word, and 9, tested above, without
    ∷ (length s < (layout_in s).header) gives six_numbers 1 file 0
    -- n not 1 to 64
    ∷ (¬ StatesFit (states_of s)) gives six_numbers 4 file 0
    -- start n or more
    ∷ ((¬ StartWord s) × (states_of s ≤ start_of s)) gives six_numbers 5 file 0
    -- in its place for a start word: the word is 0 or has a bit n or more
    ∷ (StartWord s × WrongStarts (starts_of s) (states_of s)) gives six_numbers 28 file 0
    -- m over 256
    ∷ (256 < steps_of s) gives six_numbers 6 file 0
    -- table length
    ∷ (¬ (length s ≡ table_length s)) gives six_numbers 7 file 0
    ∷ []

-- Step end n or more, a the first such step.
abbrev pub end_causes : ℕ → List ℕ → List Cause
end_causes file s = join_below (steps_of s) (λ j. EndOutside s j gives six_numbers 8 file j ∷ [])

-- Step equal to an earlier one, a the first such step.
abbrev pub doubled_causes : ℕ → List ℕ → List Cause
doubled_causes file s = join_below (steps_of s) (λ j. EqualsEarlier s j gives six_numbers 9 file j ∷ [])

-- Step not greater than the one before it, a the first such step.
abbrev pub not_greater_causes : ℕ → List ℕ → List Cause
not_greater_causes file s = join_below (steps_of s) (λ j. NotGreater s j gives six_numbers 24 file j ∷ [])

-- The steps rise, by the format; otherwise they may stand in any order.
abbrev pub StepsRise : List ℕ → Type 0
StepsRise s = T (layout_in s).rising

-- 24 where the steps rise, and in its place 9 where they may stand in any order.
abbrev pub order_causes : ℕ → List ℕ → List Cause
order_causes file s = only (StepsRise s) (not_greater_causes file s) ++ only (¬ StepsRise s) (doubled_causes file s)

-- The causes that turn a table of the kinds that are known away, in the documents' order.
abbrev pub known_causes : Known → ℕ → List ℕ → List Cause
known_causes known file s = header_causes known file s ++ (end_causes file s ++ order_causes file s)

-- The same where both kinds are known.
abbrev pub table_causes : ℕ → List ℕ → List Cause
table_causes = known_causes Both

-- Their numbers: 1 to 9, 24 and 28.
abbrev pub table_number : ℕ → Bool
table_number code = (leb 1 code && leb code 9) || eqb code 24 || eqb code 28

-- A table is well formed where no cause for turning a table away applies to it; which file it is makes no difference.
abbrev pub WellFormedTable : List ℕ → Type 0
WellFormedTable s = NoCause (table_causes 0 s)
