-- Laws of the file that is written: its length, and that its fields, its marks and its steps are read back. Assumes nothing.
use Prim.Native.Nat.{ℕ, ◌+◌, ◌*◌, ◌^◌, ◌/◌, ◌%◌, ◌<◌}
use mathlib.Core.Path.{◌≡◌, refl, sym, ap, ap₂, ◌∙◌}
use mathlib.Core.List.{List, [], ◌++◌, flat_map, append-nil}
use native.Mathlib.Nat.{add-zero, mod-eq_of_lt}
use native.Mathlib.Omega.{arith}
use lib.ListN.{length, get_or, length-append}
use Rattle.lists.specs.Lists.{part}
use Rattle.lists.specs.Numbers.{byte_at, big_endian, big_bytes}
use Rattle.lists.proofs.FillLaws.{part-between}
use Rattle.lists.proofs.FlatLaws.{flat-length, flat-at}
use Rattle.lists.proofs.NumberLaws.{length-bytes, bytes_back}
use Rattle.tables.specs.declared.Format.{Format}
use Rattle.tables.specs.declared.Format.TheVariants.{Version4}
use mathlib.Core.Bool.{false}
use Rattle.tables.specs.Table.{layout_of, format_of, keyed, version_of, last_version, format_in, layout_in}
use Rattle.tables.specs.Table.{states_of, starts_of, steps_of, steps_at, table_length, labels_part, steps_part}
use Rattle.tables.specs.Table.{from_of, to_of, from_in, to_in}
use Rattle.table_reader.specs.TableCauses.{MagicFits}
use Rattle.table_writer.specs.TableFile.{steps_in_order, table_header, table_file, file_length}

pub header-length : (n starts m : ℕ) → length (table_header n starts m) ≡ 16
unfolding table_header big_bytes
header-length n starts m = refl

module _ (marks : List ℕ) (starts : ℕ) (steps : List ℕ) where
  abbrev table : List ℕ
  table = table_file marks starts steps

  abbrev marks_bytes : List ℕ
  marks_bytes = flat_map (big_bytes 4) marks

  abbrev order : List ℕ
  order = steps_in_order (length marks) steps

  abbrev steps_bytes : List ℕ
  steps_bytes = flat_map (big_bytes 2) order

  -- ---- the header

  pub magic-is : MagicFits 0x54 table
  unfolding table_file table_header
  magic-is = (refl, refl, refl)

  pub version-is : version_of table ≡ 4
  unfolding version_of table_file table_header big_bytes big_endian
  version-is = refl

  pub plain : keyed table ≡ false
  unfolding keyed table_file table_header
  plain = refl

  pub last-is : last_version table ≡ 4
  unfolding last_version keyed table_file table_header
  last-is = refl

  pub format-is : format_in table ≡ Version4
  unfolding keyed format_in format_of version_of table_file table_header big_bytes big_endian
  format-is = refl

  pub states-is : length marks < 256 → states_of table ≡ length marks
  unfolding states_of table_file table_header big_bytes
  states-is h = mod-eq_of_lt h

  pub starts_is : starts < 2 ^ 64 → starts_of table ≡ starts
  unfolding starts_of table_file table_header big_bytes big_endian
  starts_is h = ap (λ (x : ℕ). x % 2 ^ 64) (bytes_back 8 starts (big_bytes 2 (length steps) ++ marks_bytes ++ steps_bytes) h) ∙ mod-eq_of_lt h

  pub count-is : length steps < 65536 → steps_of table ≡ length steps
  unfolding steps_of keyed format_in format_of layout_of version_of table_file table_header big_bytes big_endian
  count-is h = omega arith

  -- ---- the length

  marks-length : length marks_bytes ≡ 4 * length marks
  marks-length = flat-length 4 (big_bytes 4) (length-bytes 4) marks

  steps-length : length steps_bytes ≡ 2 * length order
  steps-length = flat-length 2 (big_bytes 2) (length-bytes 2) order

  before-steps : length (table_header (length marks) starts (length steps) ++ marks_bytes) ≡ 16 + 4 * length marks
  before-steps =
      length-append (table_header (length marks) starts (length steps)) marks_bytes ∙ ap₂ ◌+◌ (header-length (length marks) starts (length steps)) marks-length

  pub file-length : length order ≡ length steps → length table ≡ file_length (length marks) (length steps)
  unfolding table_file
  file-length once =
      length-append (table_header (length marks) starts (length steps) ++ marks_bytes) steps_bytes
      ∙ ap₂ ◌+◌ before-steps (steps-length ∙ ap (λ (k : ℕ). 2 * k) once)

  -- ---- the parts

  module _ (few : length marks < 256) (small : length steps < 65536) (once : length order ≡ length steps) where
    steps-start : steps_at table ≡ 16 + 4 * length marks
    unfolding steps_at layout_of
    steps-start = rw (format-is, states-is few) (omega arith)

    pub table-length : table_length table ≡ file_length (length marks) (length steps)
    unfolding table_length layout_of
    table-length = rw (steps-start, count-is small, format-is) (omega arith)

    pub labels-are : labels_part table ≡ marks_bytes
    unfolding labels_part layout_of table_file
    labels-are =
        part-between (table_header (length marks) starts (length steps)) marks_bytes steps_bytes
        (ap (λ (f : Format). (layout_of f).header) format-is ∙ sym (header-length (length marks) starts (length steps)))
        (steps-start ∙ ap₂ ◌+◌ (sym (ap (λ (f : Format). (layout_of f).header) format-is)) (sym marks-length))

    pub steps-are : steps_part table ≡ steps_bytes
    unfolding steps_part table_file
    steps-are =
        ap (λ (s : List ℕ). part s (steps_at table) (table_length table)) (sym (append-nil table))
        ∙ part-between (table_header (length marks) starts (length steps) ++ marks_bytes) steps_bytes [] (steps-start ∙ sym before-steps)
        (table-length ∙ ap₂ ◌+◌ (sym steps-start) (ap (λ (k : ℕ). 2 * k) (sym once) ∙ sym steps-length))

    -- ---- step j of the file is the one in order

    module _ (j : ℕ) (l : j < length order) where
      byte-is : (o : ℕ) → o < 2 → byte_at (steps_part table) (j * (layout_in table).step + o) ≡ byte_at (big_bytes 2 (get_or order j 0)) o
      unfolding layout_of
      byte-is o h =
          let place : j * (layout_in table).step + o ≡ 2 * j + o = rw format-is (omega arith) in
          ap₂ (λ (s : List ℕ) (i : ℕ). byte_at s i) (steps-are ∙ sym (append-nil steps_bytes)) place
          ∙ flat-at 2 (big_bytes 2) (length-bytes 2) 0 0 order [] j o l h

      pub from_is : from_in table j ≡ get_or order j 0 / 256 % 256
      unfolding from_of big_bytes
      from_is = ap (byte_at (steps_part table)) (sym (add-zero (j * (layout_in table).step))) ∙ byte-is 0 (omega arith)

      pub to_is : to_in table j ≡ get_or order j 0 % 256
      unfolding to_of big_bytes
      to_is = byte-is 1 (omega arith)
