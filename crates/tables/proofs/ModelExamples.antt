-- The systems that bytes give, by computation. Q (document 01, Bench examples): 3 states, start 0, marks 0 0 1, steps 0-1, 1-2, 2-0; the same table in
-- version 3 with the starts 0 and 2; in version 4 with these and marks that 16 bits just have and have not; and with keys, 1, 0 and 255, of
-- which the second is silent. Assumes nothing.
use Prim.Native.Nat.{ℕ}
use mathlib.Core.Path.{◌≡◌, refl}
use mathlib.Core.Bool.{Bool, true, false}
use mathlib.Core.List.{List, [], ◌∷◌, ◌++◌}
use Rattle.lists.specs.Numbers.{big_endian}
use Rattle.words.specs.Bits.{has_bit, add_bit}
use Rattle.bisimulation.specs.Systems.{System}
use Rattle.tables.specs.Table.{
  layout_of,
  format_of,
  keyed,
  version_of,
  format_in,
  states_of,
  start_of,
  starts_of,
  start_word,
  steps_of,
  initial_of,
  steps_at,
  table_length,
  labels_part,
  steps_part,
  label_of,
  from_of,
  to_of,
  key_of,
  key_in,
}
use Rattle.tables.specs.Model.{system_of}

abbrev marks : List ℕ
marks = 0 ∷ 0 ∷ 0 ∷ 0 ∷ 0 ∷ 1 ∷ []

abbrev marks4 : List ℕ
marks4 = 0 ∷ 0 ∷ 0xff ∷ 0xff ∷ 0 ∷ 1 ∷ 0 ∷ 0 ∷ 1 ∷ 2 ∷ 3 ∷ 4 ∷ []

abbrev steps : List ℕ
steps = 0 ∷ 1 ∷ 1 ∷ 2 ∷ 2 ∷ 0 ∷ []

abbrev Q : List ℕ
Q = (0x54 ∷ 0x50 ∷ 0x54 ∷ 0 ∷ 1 ∷ 3 ∷ 0 ∷ 0 ∷ 3 ∷ []) ++ marks ++ steps

-- In this version, with the starts 0 and 2 and these marks.
abbrev two_starts : ℕ → List ℕ → List ℕ
two_starts version marks =
    (0x54 ∷ 0x50 ∷ 0x54 ∷ 0 ∷ version ∷ 3 ∷ 0 ∷ 0 ∷ 0 ∷ 0 ∷ 0 ∷ 0 ∷ 0 ∷ 0x05 ∷ 0 ∷ 3 ∷ []) ++ marks ++ steps

-- The first three values.
abbrev three : {A : Type 0} → (ℕ → A) → List A
three f = f 0 ∷ f 1 ∷ f 2 ∷ []

pub record ThreeStates (v : System) (initial : List Bool) (labels : List ℕ) : Type 0 where
  pub states-are : v.states ≡ 3
  pub steps-are : v.steps ≡ 3
  pub initial-are : three v.initial ≡ initial
  pub labels-are : three v.label ≡ labels
  pub from-are : three v.from ≡ 0 ∷ 1 ∷ 2 ∷ []
  pub to-are : three v.to ≡ 1 ∷ 2 ∷ 0 ∷ []

pub system-Q : ThreeStates (system_of Q) (true ∷ false ∷ false ∷ []) (0 ∷ 0 ∷ 1 ∷ [])
unfolding system_of layout_of format_of keyed version_of format_in start_word states_of start_of starts_of steps_of initial_of steps_at table_length labels_part steps_part
    label_of from_of to_of big_endian has_bit add_bit
system-Q = record { states-are = refl; steps-are = refl; initial-are = refl; labels-are = refl; from-are = refl; to-are = refl }

pub system-two-starts : ThreeStates (system_of (two_starts 3 marks)) (true ∷ false ∷ true ∷ []) (0 ∷ 0 ∷ 1 ∷ [])
unfolding system_of layout_of format_of keyed version_of format_in start_word states_of start_of starts_of steps_of initial_of steps_at table_length labels_part steps_part
    label_of from_of to_of big_endian has_bit add_bit
system-two-starts = record { states-are = refl; steps-are = refl; initial-are = refl; labels-are = refl; from-are = refl; to-are = refl }

pub system-wide-marks : ThreeStates (system_of (two_starts 4 marks4)) (true ∷ false ∷ true ∷ []) (65535 ∷ 65536 ∷ 0x01020304 ∷ [])
unfolding system_of layout_of format_of keyed version_of format_in start_word states_of start_of starts_of steps_of initial_of steps_at table_length labels_part steps_part
    label_of from_of to_of big_endian has_bit add_bit
system-wide-marks = record { states-are = refl; steps-are = refl; initial-are = refl; labels-are = refl; from-are = refl; to-are = refl }

-- The same with keys on the steps.
abbrev keyed_steps : List ℕ
keyed_steps = 0 ∷ 1 ∷ 1 ∷ 1 ∷ 2 ∷ 0 ∷ 2 ∷ 0 ∷ 255 ∷ []

abbrev with_keys : List ℕ
with_keys = (0x54 ∷ 0x50 ∷ 0x4B ∷ 0 ∷ 1 ∷ 3 ∷ 0 ∷ 0 ∷ 0 ∷ 0 ∷ 0 ∷ 0 ∷ 0 ∷ 0x05 ∷ 0 ∷ 3 ∷ []) ++ marks4 ++ keyed_steps

pub system-keys : ThreeStates (system_of with_keys) (true ∷ false ∷ true ∷ []) (65535 ∷ 65536 ∷ 0x01020304 ∷ [])
unfolding system_of layout_of format_of keyed version_of format_in start_word states_of start_of starts_of steps_of initial_of steps_at table_length labels_part steps_part
    label_of from_of to_of big_endian has_bit add_bit
system-keys = record { states-are = refl; steps-are = refl; initial-are = refl; labels-are = refl; from-are = refl; to-are = refl }

pub keys-are : three (key_in with_keys) ≡ 1 ∷ 0 ∷ 255 ∷ []
unfolding layout_of format_of keyed version_of format_in states_of steps_of steps_at table_length steps_part key_of big_endian
keys-are = refl

pub silent-are : three (system_of with_keys).silent ≡ false ∷ true ∷ false ∷ []
unfolding system_of layout_of format_of keyed version_of format_in states_of steps_of steps_at table_length steps_part key_of big_endian
silent-are = refl
