-- The one way from bytes to the theory: two sides that are built of two tables that are read, and of a relation's rows, hold the view that the bytes give,
-- whichever side is seen first; and their steps are linked. Assumes nothing.
use Rattle.std.specs.Prelude.{Ok}
use Prim.Native.Nat.{ℕ, ◌*◌, ◌≤◌, ◌<◌, min}
use mathlib.Core.Path.{◌≡◌, sym, ap, ap₂, ◌∙◌, subst, fun_ext}
use mathlib.Core.Bool.{Bool, false}
use mathlib.Core.List.{List}
use native.Mathlib.Nat.{min-eq_left, mul-le-mul_right}
use native.Mathlib.Omega.{arith}
use native.Mathlib.Decide.{dec_lt}
use lib.Dec.{eqb}
use lib.ListN.{length, get_or}
use borrow.Author.Tests.{lt-ltb, le-ltb}
use Rattle.lists.proofs.FillLaws.{get_or-past}
use Rattle.lists.proofs.NumberLaws.{big-past}
use Rattle.words.specs.Bits.{has_bit, first_bit}
use Rattle.bisimulation.specs.Systems.{System, View, flip}
use Rattle.tables.specs.declared.Format.{Format}
use Rattle.tables.specs.declared.Head.{Head}
use Rattle.tables.specs.Table.{layout_of, format_in, layout_in, states_of, steps_of, start_word, start_of, labels_part, steps_part, label_of, from_of, to_of, key_of}
use Rattle.tables.specs.Table.{from_in, to_in, key_in}
use Rattle.tables.specs.Model.{system_of}
use Rattle.table_reader.specs.TableReading.{read_table}
use Rattle.table_reader.proofs.TableLaws.{table-ok, labels_length, steps-length, table-formed, start_first}
use Rattle.certificates.specs.CertificateModel.{AreBytes, view_of}
use Rattle.relation_words.specs.Relation.{row_words, column_words}
use Rattle.sides.specs.declared.Side.{Side}
use Rattle.sides.specs.Side.{system_in, key_at, start_in, start_word_in, related_to}
use Rattle.sides.specs.Built.{SideOf, Linked}
use Rattle.sides.specs.Views.{view_in}
use Rattle.relation_words.proofs.RelationLaws.{rows-length, rows-related, columns-length, columns-flipped}
use Rattle.sides.proofs.BuildLaws.{cond-zero, filled}
use Rattle.sides.proofs.LinkLaws.{eqb_swap}
use Rattle.sides.proofs.LinkedLaws.{linked}

-- ---- the limits

pub states-few : (side : Side) → (system_in side).states ≤ 64
states-few side = omega arith

pub steps-few : (side : Side) → (system_in side).steps ≤ 256
steps-few side = omega arith

-- a state of 64 or more is related to none
pub related-past : (side : Side) (s : ℕ) → 64 ≤ s → related_to side s ≡ 0
unfolding related_to
related-past side s h = rw (le-ltb s 64 h)

-- ---- one side

module _ (s : List ℕ) {h : Head} {words : List ℕ} {side : Side} (good : read_table s ≡ Ok h) (a : SideOf h (labels_part s) (steps_part s) words side) where
  states-are : (system_in side).states ≡ states_of s
  states-are = let o = table-ok s good in rw (a.table.states-is, o.states-is) (min-eq_left o.states-le)

  steps-are : min h.steps 256 ≡ steps_of s
  steps-are = let o = table-ok s good in rw o.steps-is (min-eq_left o.steps-le)

  -- past the last label and past the last step stand zeros
  labels-past : (x : ℕ) → 64 ≤ x → length (labels_part s) ≤ x * (layout_in s).label
  labels-past x z =
      let o = (table-ok s good).states-le in
      rw (labels_length s good) (mul-le-mul_right (layout_in s).label (let l : states_of s ≤ x = omega arith in l))

  steps-past : (j : ℕ) → min h.steps 256 ≤ j → length (steps_part s) ≤ j * (layout_in s).step
  steps-past j z = rw (steps-length s good) (mul-le-mul_right (layout_in s).step (rw (← steps-are) z))

  labels-are : (x : ℕ) → get_or side.label x 0 ≡ label_of (format_in s) (labels_part s) x
  unfolding label_of
  labels-are x =
      filled (rw (table-ok s good).format-is at a.table.labels-are) x (λ z. big-past (labels_part s) _ _ (labels-past x z))

  from-are : (j : ℕ) → get_or side.from j 0 ≡ from_in s j
  unfolding from_of
  from-are j = filled (rw (table-ok s good).format-is at a.table.from-are) j (λ z. get_or-past (steps_part s) _ (steps-past j z))

  to-are : (j : ℕ) → get_or side.to j 0 ≡ to_in s j
  unfolding to_of
  to-are j =
      filled (rw (table-ok s good).format-is at a.table.to-are) j (λ z. let l = steps-past j z in get_or-past (steps_part s) _ (omega arith))

  pub keys-are : (j : ℕ) → key_at side j ≡ key_in s j
  unfolding key_of
  keys-are j =
      filled (rw (table-ok s good).format-is at a.table.keys-are) j
      (λ z. cond-zero (layout_in s).keyed (let l = steps-past j z in get_or-past (steps_part s) _ (omega arith)))

  silent-are : (j : ℕ) → eqb (key_at side j) 0 ≡ eqb (key_in s j) 0
  silent-are j = ap (λ (x : ℕ). eqb x 0) (keys-are j)

  -- the system that the side holds is the one that the bytes give
  pub system-is : system_in side ≡ system_of s
  unfolding system_of
  system-is =
      let o = table-ok s good in
      rw (
        states-are,
        a.table.steps-is,
        steps-are,
        a.table.initial-is,
        o.initial-is,
        fun_ext labels-are,
        fun_ext from-are,
        fun_ext to-are,
        fun_ext silent-are,
      )

  below : {x : ℕ} → x < (system_of s).states → x < 64
  unfolding system_of
  below {x} l = let n = (table-ok s good).states-le in omega arith

  -- so is whether it has a start word
  pub start-word-is : start_word_in side ≡ start_word s
  unfolding start_word
  start-word-is =
      a.table.word-is ∙ ap (λ (f : Format). (layout_of f).word) (table-ok s good).format-is

  -- and its start, where it has none
  pub start_is : start_word s ≡ false → start_in side ≡ start_of s
  start_is e = ap first_bit a.table.initial-is ∙ start_first s good e

  -- and the links
  pub side-linked : Linked side
  side-linked =
      let f = table-formed s good in
      linked side
      (subst (λ (S : System). (j : ℕ) → j < S.steps → S.from j < 64) (sym system-is) (λ j l. below (f.from< j l)))
      (subst (λ (S : System). (j : ℕ) → j < S.steps → S.to j < 64) (sym system-is) (λ j l. below (f.to< j l)))
      a.linked

  related-are : length words ≡ 64 → (x : ℕ) → related_to side x ≡ get_or words x 0
  unfolding related_to
  related-are n x = elim (dec_lt x 64) [
    | yes l ↦ rw (lt-ltb x 64 l, a.table.related-is)
    | no l ↦ rw (le-ltb x 64 (omega arith)) (sym (get_or-past words x (omega arith)))
  ]

-- ---- two sides

-- Two systems, their relation, and which steps serve which.
abbrev view_with : System → System → (related serves : ℕ → ℕ → Bool) → View
view_with S S' related serves = record { own = S; other = S'; related = related; serves = serves }

module _ (left right rows : List ℕ) {h k : Head} {ours theirs : Side} (gl : read_table left ≡ Ok h) (gr : read_table right ≡ Ok k) (bytes : AreBytes rows)
    (a : SideOf h (labels_part left) (steps_part left) (row_words rows (states_of left)) ours)
    (b : SideOf k (labels_part right) (steps_part right) (column_words (row_words rows (states_of left))) theirs) where
  -- the one law: seen from the left
  pub view-is : view_in ours theirs ≡ view_of left right rows
  unfolding view_of
  view-is =
      let few = (table-ok left gl).states-le in
      let word = related-are left gl a (rows-length rows (states_of left)) in
      ap₂ (λ (x y : System). view_with x y (λ s t. has_bit (related_to ours s) t) (λ j k. eqb (key_at ours j) (key_at theirs k)))
      (system-is left gl a) (system-is right gr b)
      ∙ ap₂ (view_with (system_of left) (system_of right))
      (fun_ext (λ s. fun_ext (λ t. ap (λ (w : ℕ). has_bit w t) (word s) ∙ rows-related rows (states_of left) few s t)))
      (fun_ext (λ j. fun_ext (λ k. ap₂ eqb (keys-are left gl a j) (keys-are right gr b k))))

  -- and from the right
  pub view-flipped : view_in theirs ours ≡ flip (view_of left right rows)
  unfolding view_of
  view-flipped =
      let few = (table-ok left gl).states-le in
      let word = related-are right gr b (columns-length (row_words rows (states_of left))) in
      ap₂ (λ (x y : System). view_with x y (λ t s. has_bit (related_to theirs t) s) (λ k j. eqb (key_at theirs k) (key_at ours j)))
      (system-is right gr b) (system-is left gl a)
      ∙ ap₂ (view_with (system_of right) (system_of left))
      (fun_ext (λ t. fun_ext (λ s. ap (λ (w : ℕ). has_bit w s) (word t) ∙ columns-flipped rows (states_of left) few bytes t s)))
      (fun_ext (λ k. fun_ext (λ j. ap₂ eqb (keys-are right gr b k) (keys-are left gl a j) ∙ eqb_swap (key_in right k) (key_in left j))))
