-- What good reads say: of a certificate and of a relation their length and that no row has a bit n2 or more; of two tables and rows that the theory's
-- view is well formed. Assumes nothing.
use Rattle.std.specs.Prelude.{Ok}
use Prim.Native.Nat.{ℕ, ◌*◌, ◌≤◌, ◌<◌}
use mathlib.Core.Path.{◌≡◌}
use mathlib.Core.Bool.{Bool}
use mathlib.Core.List.{List}
use native.Mathlib.Nat.{mod-eq_of_lt}
use native.Mathlib.Omega.{arith}
use native.Mathlib.Decide.{dec_lt}
use lib.Dec.{T, eqb}
use lib.ListN.{length}
use Rattle.words.proofs.BitLaws.{has-lt}
use Rattle.bisimulation.specs.Systems.{SideFormed, WellFormed}
use Rattle.tables.specs.declared.Head.{Head}
use Rattle.tables.specs.Table.{states_of, steps_of, key_in}
use Rattle.tables.specs.Model.{system_of}
use Rattle.answers.specs.Numbers.{six_numbers}
use Rattle.table_reader.specs.TableReading.{read_table}
use Rattle.answers.proofs.DecideLaws.{decides-stable, eqb-decides}
use Rattle.answers.proofs.CauseLaws.{below_none}
use Rattle.table_reader.proofs.TableLaws.{table-ok, TableFormed, table-formed}
use Rattle.certificates.specs.declared.Sizes.{Sizes}
use Rattle.certificates.specs.Layout.{sizes_for, sizes_of, certificate_length, rows_part, row_of}
use Rattle.certificates.specs.CertificateModel.{AreBytes, related_in, view_of}
use Rattle.certificates.proofs.LayoutLaws.{length-limit}
use Rattle.certificates.proofs.ModelLaws.{related-left, related-bit, row_word_lem, quiet-keys}
use Rattle.certificate_reader.specs.CertificateReading.{read_certificate, read_relation}
use Rattle.certificate_reader.specs.CertificateCauses.{HasWideBit}
use Rattle.certificate_reader.proofs.CertificateCauseLaws.{certificate-good-none, relation-good-none}

-- ---- a certificate and a relation

-- None of n1 rows has a bit n2 or more.
abbrev pub NoWideRow : List ℕ → ℕ → ℕ → Type 0
NoWideRow rows n1 n2 = (s : ℕ) → s < n1 → HasWideBit rows n2 s → ⊥

pub record CertificateOk (z : Sizes) (c : List ℕ) : Type 0 where
  pub long : length c ≡ certificate_length z
  pub narrow : NoWideRow (rows_part c z) z.n1 z.n2

pub certificate-ok : (z : Sizes) (c : List ℕ) {y : Sizes} → read_certificate z c ≡ Ok y → (y ≡ z) × CertificateOk z c
certificate-ok z c e =
    let g = certificate-good-none 2 z c e in (
      g.0,
      record {
        long = decides-stable (eqb-decides (length c) (certificate_length z)) g.1.1.1.1.1.0;
        narrow = below_none z.n1 (HasWideBit (rows_part c z) z.n2) (six_numbers 15 2) g.1.1.1.1.1.1;
      },
    )

pub record RelationOk (z : Sizes) (r : List ℕ) : Type 0 where
  pub long : length r ≡ 8 * z.n1
  pub narrow : NoWideRow r z.n1 z.n2

pub relation-ok : (z : Sizes) (r : List ℕ) {y : Sizes} → read_relation z r ≡ Ok y → (y ≡ z) × RelationOk z r
relation-ok z r e =
    let g = relation-good-none 2 z r e in (
      g.0,
      record {
        long = decides-stable (eqb-decides (length r) (8 * z.n1)) g.1.0;
        narrow = below_none z.n1 (HasWideBit r z.n2) (six_numbers 15 2) g.1.1;
      },
    )

-- a certificate of two tables that are read has at most 41,483 bytes
pub certificate-limit : (left right : List ℕ) {h k : Head} → read_table left ≡ Ok h → read_table right ≡ Ok k
    → certificate_length (sizes_of left right) ≤ 41483
unfolding sizes_of
certificate-limit left right l r =
    let a = table-ok left l in
    let b = table-ok right r in
    length-limit (sizes_of left right) a.states-le b.states-le a.steps-le b.steps-le

-- the sizes that two headers give are those that the bytes give
pub sizes-are : (left right : List ℕ) {h k : Head} → read_table left ≡ Ok h → read_table right ≡ Ok k → sizes_for h k ≡ sizes_of left right
unfolding sizes_of
sizes-are left right l r =
    let a = table-ok left l in
    let b = table-ok right r in
    let n = a.states-le in
    let n' = b.states-le in
    let m = a.steps-le in
    let m' = b.steps-le in
    rw (
      a.states-is,
      b.states-is,
      a.steps-is,
      b.steps-is,
      mod-eq_of_lt {n = states_of left} {m = 256} (omega arith),
      mod-eq_of_lt {n = states_of right} {m = 256} (omega arith),
      mod-eq_of_lt {n = steps_of left} {m = 65536} (omega arith),
      mod-eq_of_lt {n = steps_of right} {m = 65536} (omega arith),
    )

-- in rows of which none is wide, a related right state is below n2
pub related-right : (rows : List ℕ) (n1 : ℕ) {n2 : ℕ} (s t : ℕ) → AreBytes rows → NoWideRow rows n1 n2 → T (related_in rows n1 s t) → t < n2
related-right rows n1 {n2} s t bytes narrow h = elim (dec_lt t n2) [
  | yes p ↦ p
  | no p ↦
      let b = related-bit rows n1 s t h in
      absurd (narrow s (related-left rows n1 s t h) (t, has-lt (row_of rows s) t (row_word_lem rows s bytes) b, omega arith, b))
]

-- ---- the theory's view and ranks

-- a side whose table is read, whose related states are states, and whose silent steps serve each other
side-formed : (s other : List ℕ) (related serves : ℕ → ℕ → Bool) → TableFormed s → ((x y : ℕ) → T (related x y) → x < states_of s)
    → ((j k : ℕ) → T (eqb (key_in s j) 0) → T (eqb (key_in other k) 0) → T (serves j k))
    → SideFormed (record { own = system_of s; other = system_of other; related = related; serves = serves })
unfolding system_of
side-formed s other related serves f r q = record { from< = f.from<; to< = f.to<; related< = r; initial< = f.initial<; quiet = q }

module _ (left right rows : List ℕ) where
  pub view-formed : {h k : Head} → read_table left ≡ Ok h → read_table right ≡ Ok k → AreBytes rows
      → NoWideRow rows (states_of left) (states_of right) → WellFormed (view_of left right rows)
  unfolding view_of
  view-formed l r bytes narrow =
      record {
        here = side-formed left right _ _ (table-formed left l) (λ s t. related-left rows (states_of left) s t)
            (λ j k. quiet-keys (key_in left j) (key_in right k));
        there = side-formed right left _ _ (table-formed right r) (λ t s. related-right rows (states_of left) s t bytes narrow)
            (λ k j g h. quiet-keys (key_in left j) (key_in right k) h g);
      }
