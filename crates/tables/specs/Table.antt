-- State tables (document 01, Table; document 02, Asks 1, 5, 6 and 9): where each part stands. Numbers of two bytes or more have the high byte first.
use Rattle.std.specs.Prelude.{ℕ, ◌+◌, ◌*◌, ◌%◌, ◌^◌, List, Bool, true, false, cond, ◌&&◌, eqb}
use Rattle.lists.specs.Lists.{part}
use Rattle.lists.specs.Numbers.{byte_at, big_endian}
use Rattle.words.specs.Bits.{add_bit}
use Rattle.tables.specs.declared.Format.{Format}
use Rattle.tables.specs.declared.Format.TheVariants.{Version1, Version2, Version3, Version4, Keyed}
use Rattle.tables.specs.declared.Layout.{Layout}

-- The limits: n is 1 to 64, m is 0 to 256.
abbrev pub max_states : ℕ
max_states = 64

abbrev pub max_steps : ℕ
max_steps = 256

-- ---- the formats

-- The bytes of a header with one start, and of one with a start word.
abbrev pub start_header : ℕ
start_header = 9

abbrev pub word_header : ℕ
word_header = 16

-- A layout is the bytes of the header, whether the starts are a word, where m stands, the bytes of a mark and of a step, whether the steps rise, and whether
-- each has a key.
-- With one start, marks of 16 bits; the steps rise, or may stand in any order.
abbrev pub one_start_layout : Bool → Layout
one_start_layout rising = record { header = start_header; word = false; count = 7; label = 2; step = 2; rising = rising; keyed = false }

-- With a start word, marks and steps of so many bytes; the steps rise, and have keys or not.
abbrev pub start_word_layout : (label step : ℕ) → Bool → Layout
start_word_layout label step keyed =
    record { header = word_header; word = true; count = 14; label = label; step = step; rising = true; keyed = keyed }

-- Version 2 has the layout of version 1, but its steps rise. Version 3 has a start word besides. Version 4 is version 3 with marks of four bytes. A table with
-- keys has the header, start word and marks of version 4, and steps of three bytes: from, to, key.
unfoldable pub layout_of : Format → Layout
layout_of Version1 = one_start_layout false
layout_of Version2 = one_start_layout true
layout_of Version3 = start_word_layout 2 2 false
layout_of Version4 = start_word_layout 4 2 false
layout_of Keyed = start_word_layout 4 3 true

-- The format of a version, of a table with or without keys. A number that is no version, which 3 turns away, counts as the last.
unfoldable pub format_of : (keyed : Bool) → ℕ → Format
format_of keyed version = cond keyed Keyed (cond (eqb version 1) Version1 (cond (eqb version 2) Version2 (cond (eqb version 3) Version3 Version4)))

-- ---- the header

-- Bytes 0 to 2: "TP" and a third, which is "T" for a table without keys and "K" for one with keys.
unfoldable pub magic_fits : ℕ → List ℕ → Bool
magic_fits third s = eqb (byte_at s 0) 0x54 && eqb (byte_at s 1) 0x50 && eqb (byte_at s 2) third

-- The kind of the table: whether its steps have keys, by the third byte.
unfoldable pub keyed : List ℕ → Bool
keyed s = eqb (byte_at s 2) 0x4B

-- Bytes 3, 4: version. Kind and version give the format, and the format the layout.
unfoldable pub version_of : List ℕ → ℕ
version_of s = big_endian s 3 2

unfoldable pub format_in : List ℕ → Format
format_in s = format_of (keyed s) (version_of s)

-- The last version of each kind; the first is 1.
unfoldable pub last_version : List ℕ → ℕ
last_version s = cond (keyed s) 1 4

abbrev pub layout_in : List ℕ → Layout
layout_in s = layout_of (format_in s)

-- Byte 5: n, states.
unfoldable pub states_of : List ℕ → ℕ
states_of s = byte_at s 5

-- Byte 6: start. In place of it, bytes 6 to 13: the 64-bit word of starts. Of a list whose numbers are no bytes the low 64 bits count.
unfoldable pub start_of : List ℕ → ℕ
start_of s = byte_at s 6

unfoldable pub starts_of : List ℕ → ℕ
starts_of s = big_endian s 6 8 % 2 ^ 64

-- Whether the file has a start word, by its format.
unfoldable pub start_word : List ℕ → Bool
start_word s = (layout_in s).word

-- The set of initial states, as a word: the start word, or the start alone.
unfoldable pub initial_of : List ℕ → ℕ
initial_of s = cond (start_word s) (starts_of s) (add_bit 0 (start_of s))

-- Two bytes: m, steps. They are the last of the header.
unfoldable pub steps_of : List ℕ → ℕ
steps_of s = big_endian s (layout_in s).count 2

-- ---- the two parts after it

-- After the header n marks, then m steps. Where the steps begin, and the length of it all.
unfoldable pub steps_at : List ℕ → ℕ
steps_at s = (layout_in s).header + states_of s * (layout_in s).label

unfoldable pub table_length : List ℕ → ℕ
table_length s = steps_at s + steps_of s * (layout_in s).step

-- The parts of the file that hold the labels and the steps; each starts in the middle of the file.
unfoldable pub labels_part : List ℕ → List ℕ
labels_part s = part s (layout_in s).header (steps_at s)

unfoldable pub steps_part : List ℕ → List ℕ
steps_part s = part s (steps_at s) (table_length s)

-- Of the labels' part, the label of a state; of the steps' part, the states that step j leaves and enters.
unfoldable pub label_of : Format → List ℕ → ℕ → ℕ
label_of f labels state = big_endian labels (state * (layout_of f).label) (layout_of f).label

unfoldable pub from_of : Format → List ℕ → ℕ → ℕ
from_of f steps j = byte_at steps (j * (layout_of f).step)

unfoldable pub to_of : Format → List ℕ → ℕ → ℕ
to_of f steps j = byte_at steps (j * (layout_of f).step + 1)

-- The key of step j, its third byte, and 0 where steps have no keys. Key 0 is silent.
unfoldable pub key_of : Format → List ℕ → ℕ → ℕ
key_of f steps j = cond (layout_of f).keyed (byte_at steps (j * (layout_of f).step + 2)) 0

-- Of the whole file, the states that step j leaves and enters, and its key.
abbrev pub from_in : List ℕ → ℕ → ℕ
from_in s = from_of (format_in s) (steps_part s)

abbrev pub to_in : List ℕ → ℕ → ℕ
to_in s = to_of (format_in s) (steps_part s)

abbrev pub key_in : List ℕ → ℕ → ℕ
key_in s = key_of (format_in s) (steps_part s)
