-- What is written is read back: the file of marks, starts and steps that no cause turns away is a well-formed table, with the same marks, starts and steps.
-- Assumes nothing.
use Prim.Native.Nat.{ℕ, zero, suc, ◌*◌, ◌^◌, ◌/◌, ◌%◌, ◌≤◌, ◌<◌}
use mathlib.Core.Path.{◌≡◌, refl, sym, ap, ap₂, ◌∙◌}
use mathlib.Core.Logic.{◌↔◌, inl, inr, ⊎_elim}
use mathlib.Core.Bool.{true}
use mathlib.Core.List.{List, [], ◌++◌, flat_map, append-nil}
use native.Mathlib.Omega.{arith}
use native.Mathlib.Decide.{dec_lt}
use lib.ListN.{length, get_or}
use Rattle.lists.specs.Lists.{stands_in}
use Rattle.lists.specs.Numbers.{big_bytes}
use Rattle.lists.proofs.BoolLaws.{true-T}
use Rattle.lists.proofs.KeptLaws.{stands-e, stands-i, kept_at, kept_in, kept-rise}
use Rattle.answers.specs.Numbers.{six_numbers}
use Rattle.answers.specs.Causes.{NoCause, only, room_causes}
use Rattle.answers.proofs.CauseLaws.{none-append, append-none, none_below, below_none, only_none, only_out}
use Rattle.answers.proofs.DecideLaws.{decides-stable}
use Rattle.bisimulation.specs.Systems.{Step}
use Rattle.tables.specs.declared.Format.{Format}
use Rattle.tables.specs.declared.Format.TheVariants.{Version4}
use Rattle.tables.specs.Table.{layout_of, layout_in, states_of, start_word, initial_of, steps_of, table_length, label_of, from_in, to_in}
use Rattle.tables.specs.Model.{system_of}
use Rattle.tables.proofs.LabelLaws.{label-back}
use Rattle.table_reader.specs.TableCauses.{StatesFit, WrongStarts, EndOutside as Outside, Greater, NotGreater, StepsRise, WellFormedTable}
use Rattle.table_reader.specs.declared.Known.TheVariants.{Both}
use Rattle.table_reader.specs.TableCauses.{header_causes, end_causes as table_end_causes, doubled_causes as table_doubled_causes, not_greater_causes, order_causes}
use Rattle.table_reader.specs.EndsSeen.{EndsBelow}
use Rattle.table_reader.proofs.TestLaws.{states-decides}
use Rattle.table_writer.specs.TableFile.{steps_in_order, table_file, file_length}
use Rattle.table_writer.specs.Writing.{step_at, from_at, to_at, StepGiven}
use Rattle.table_writer.specs.WriteCauses.{EndOutside, EqualsEarlier, end_causes, doubled_causes, write_causes}
use Rattle.table_writer.proofs.VerdictLaws.{once-each}
use Rattle.table_writer.proofs.FileLaws as file

-- ---- what the causes leave

-- The marks, the starts and the steps are those of a table.
pub record Writable (marks : List ℕ) (starts : ℕ) (steps : List ℕ) : Type 0 where
  pub fits : StatesFit (length marks)
  pub starts-fine : ¬ WrongStarts starts (length marks)
  pub few : length steps ≤ 256
  pub inside : EndsBelow (length marks) (from_at steps) (to_at steps) (length steps)
  pub once : (j : ℕ) → j < length steps → ¬ EqualsEarlier steps j

module _ (marks : List ℕ) (starts : ℕ) (steps output : List ℕ) (none : NoCause (write_causes marks starts steps output)) where
  -- the causes after the first three
  rest : NoCause (end_causes (length marks) steps ++ (doubled_causes steps ++ room_causes (file_length (length marks) (length steps)) output))
  rest = none.1.1.1

  after-ends : NoCause (doubled_causes steps ++ room_causes (file_length (length marks) (length steps)) output)
  after-ends = (append-none (end_causes (length marks) steps) _ rest).1

  ends : (j : ℕ) → j < length steps → ¬ EndOutside (length marks) steps j
  ends = below_none (length steps) (EndOutside (length marks) steps) (six_numbers 8 3) (append-none (end_causes (length marks) steps) _ rest).0

  pub writable : Writable marks starts steps
  writable =
      record {
        fits = decides-stable (states-decides (length marks)) none.0;
        starts-fine = none.1.0;
        few = elim (dec_lt 256 (length steps)) [ yes p ↦ absurd (none.1.1.0 p) | no p ↦ omega arith ];
        inside = λ j l.
            let from : length marks ≤ from_at steps j → ⊥ = λ p. ends j l (inl p) in
            let to : length marks ≤ to_at steps j → ⊥ = λ p. ends j l (inr p) in
            (omega arith, omega arith);
        once = below_none (length steps) (EqualsEarlier steps) (six_numbers 9 3) (append-none (doubled_causes steps) _ after-ends).0;
      }

  pub has_room : file_length (length marks) (length steps) ≤ length output
  has_room = let p = (append-none (doubled_causes steps) _ after-ends).1.0 in omega arith

-- ---- the file is a table

module _ (marks : List ℕ) (starts : ℕ) (steps : List ℕ) (w : Writable marks starts steps) (word : starts < 2 ^ 64) where
  abbrev table : List ℕ
  table = table_file marks starts steps

  abbrev order : List ℕ
  order = steps_in_order (length marks) steps

  -- ---- the fields

  pub once-in-order : length order ≡ length steps
  once-in-order = once-each (length marks) steps w.inside w.once

  narrow : length marks < 256
  narrow = let n = w.fits.1 in omega arith

  short : length steps < 65536
  short = let m = w.few in omega arith

  states-are : states_of table ≡ length marks
  states-are = file.states-is marks starts steps narrow

  count-is : steps_of table ≡ length steps
  count-is = file.count-is marks starts steps short

  length-is : length table ≡ table_length table
  length-is = file.file-length marks starts steps once-in-order ∙ sym (file.table-length marks starts steps narrow short once-in-order)

  start_word_lem : start_word table ≡ true
  unfolding start_word layout_of
  start_word_lem = ap (λ (f : Format). (layout_of f).word) (file.format-is marks starts steps)

  steps-rise : (layout_in table).rising ≡ true
  unfolding layout_of
  steps-rise = ap (λ (f : Format). (layout_of f).rising) (file.format-is marks starts steps)

  header_is : (layout_in table).header ≡ 16
  unfolding layout_of
  header_is = ap (λ (f : Format). (layout_of f).header) (file.format-is marks starts steps)

  -- ---- the steps

  module _ (j : ℕ) (l : j < length steps) where
    within : j < length order
    within = omega (arith, once-in-order)

    -- step j in order is one that is given, so its ends are below n
    given : (i : ℕ) × (i < length steps) × (step_at steps i ≡ get_or order j 0)
    unfolding steps_in_order
    given = stands-e steps (get_or order j 0) (kept_at (256 * length marks) (stands_in steps) j within).1

    below : get_or order j 0 < 256 * length marks
    unfolding steps_in_order
    below = (kept_at (256 * length marks) (stands_in steps) j within).0

    from_is : from_in table j ≡ get_or order j 0 / 256
    from_is = file.from_is marks starts steps narrow short once-in-order j within ∙ (let b = below in let n = w.fits.1 in omega arith)

    to_is : to_in table j ≡ get_or order j 0 % 256
    to_is = file.to_is marks starts steps narrow short once-in-order j within

    ends-inside : ¬ Outside table j
    ends-inside =
        let g = given in
        let e = g.2 in
        let i = w.inside g.0 g.1 in
        let f = from_is in
        let t = to_is in
        let n = states-are in
        ⊎_elim (λ p. omega arith) (λ p. omega arith)

  -- each is greater than the one before it
  greater : (i : ℕ) → suc i < length steps → Greater table (suc i) i
  unfolding steps_in_order
  greater i l =
      let up : get_or order i 0 < get_or order (suc i) 0 =
      kept-rise (256 * length marks) (stands_in steps) i (suc i) (omega arith) (within (suc i) l) in
      let f = from_is i (omega arith) in
      let t = to_is i (omega arith) in
      let f' = from_is (suc i) l in
      let t' = to_is (suc i) l in
      elim (dec_lt (from_in table i) (from_in table (suc i))) [
        | yes p ↦ inl p
        | no p ↦ inr (omega arith, inl (omega arith))
      ]

  rising : (j : ℕ) → j < length steps → ¬ NotGreater table j
  rising zero l = λ p. p
  rising (suc i) l = λ p. p (greater i l)

  -- ---- no cause applies

  pub written-formed : WellFormedTable table
  written-formed =
      none-append (header_causes Both 0 table) (table_end_causes 0 table ++ order_causes 0 table) header
      (none-append (table_end_causes 0 table) (order_causes 0 table)
      (none_below (steps_of table) (Outside table) (six_numbers 8 0) (λ j l. ends-inside j (omega (arith, count-is))))
      (none-append (only (StepsRise table) (not_greater_causes 0 table)) (only (¬ StepsRise table) (table_doubled_causes 0 table))
      (only_none (StepsRise table) (not_greater_causes 0 table)
      (none_below (steps_of table) (NotGreater table) (six_numbers 24 0) (λ j l. rising j (omega (arith, count-is)))))
      (only_out (¬ StepsRise table) (table_doubled_causes 0 table) (λ n. n (true-T _ steps-rise)))))
    where
      header : NoCause (header_causes Both 0 table)
      header =
          let long = file.file-length marks starts steps once-in-order in
          let v = file.version-is marks starts steps in
          let last = file.last-is marks starts steps in
          let h = header_is in
          let n = states-are in
          let m = count-is in
          let few = w.few in (
            λ p. omega arith,
            (
              λ p. p (inl (file.magic-is marks starts steps)),
              (
                λ p. p (omega arith, omega arith),
                (
                  λ p. omega arith,
                  (
                    λ p. p (rw n w.fits),
                    (
                      λ p. p.0 (true-T _ start_word_lem),
                      (λ p. w.starts-fine (rw (file.starts_is marks starts steps word, n) at p.1), (λ p. omega arith, (λ p. p length-is, tt))),
                    ),
                  ),
                ),
              ),
            ),
          )

  -- ---- the same marks, starts and steps

  pub same-states : (system_of table).states ≡ length marks
  unfolding system_of
  same-states = states-are

  pub same-marks : (s : ℕ) → s < length marks → get_or marks s 0 < 2 ^ 32 → (system_of table).label s ≡ get_or marks s 0
  unfolding system_of layout_of
  same-marks s l h =
      ap₂ (λ (f : Format) (x : List ℕ). label_of f x s) (file.format-is marks starts steps)
      (file.labels-are marks starts steps narrow short once-in-order ∙ sym (append-nil (flat_map (big_bytes 4) marks)))
      ∙ label-back Version4 marks [] s l h

  pub same-starts : initial_of table ≡ starts
  unfolding initial_of
  same-starts = rw start_word_lem (file.starts_is marks starts steps word)

  pub same-steps : (s u : ℕ) → Step (system_of table) s u ↔ StepGiven steps s u
  unfolding system_of steps_in_order
  same-steps s u = (
    λ p.
        let l : p.0 < length steps = omega (arith, p.1, count-is) in
        let g = given p.0 l in
        let e = g.2 in
        let f = from_is p.0 l in
        let t = to_is p.0 l in
        let a = p.2 in
        let b = p.3 in
        (g.0, g.1, omega arith, omega arith),
    λ p.
        let i = w.inside p.0 p.1 in
        let k = kept_in (256 * length marks) (stands_in steps) (step_at steps p.0) (omega arith) (stands-i steps (step_at steps p.0) (p.0, p.1, refl)) in
        let l : k.0 < length steps = omega (arith, k.1, once-in-order) in
        let f = from_is k.0 l in
        let t = to_is k.0 l in
        let e = k.2 in
        let a = p.2 in
        let b = p.3 in
        (k.0, omega (arith, count-is), omega arith, omega arith),
  )
