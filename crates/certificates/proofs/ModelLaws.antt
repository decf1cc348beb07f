-- Laws of the rows and of the theory's view: the relation is told by the bytes of the rows alone, without keys the view is plain, and each rank
-- is a byte. Assumes nothing.
use Prim.Native.Nat.{ℕ, ◌+◌, ◌*◌, ◌^◌, ◌<◌}
use mathlib.Core.Path.{◌≡◌, refl, sym, ap, ◌∙◌}
use mathlib.Core.Bool.{Bool, true, false, ◌&&◌}
use mathlib.Core.List.{List}
use native.Mathlib.Nat.{le_refl}
use native.Mathlib.Omega.{arith}
use native.Mathlib.Decide.{dec_lt}
use lib.Dec.{T, ltb, ltb→lt, eqb, eqb→eq}
use lib.ListN.{length, length-take}
use borrow.Author.Tests.{ltb-true}
use Rattle.lists.specs.Lists.{part}
use Rattle.lists.specs.Numbers.{byte_at}
use Rattle.lists.proofs.BoolLaws.{and_l, and_r, eq→eqb}
use Rattle.lists.proofs.FillLaws.{get_or-part, get_or-past, part_length}
use Rattle.lists.proofs.NumberLaws.{big-fits, big-cong}
use Rattle.words.specs.Bits.{has_bit}
use Rattle.bisimulation.specs.Systems.{Bytes, Plain}
use Rattle.tables.specs.Table.{keyed, key_in}
use Rattle.tables.specs.Model.{system_of}
use Rattle.tables.proofs.KindLaws.{plain-silent}
use Rattle.certificates.specs.declared.Sizes.{Sizes}
use Rattle.certificates.specs.Layout.{certificate_length, certificate_header_length, al_at, rows_part, row_of}
use Rattle.certificates.specs.CertificateModel.{AreBytes, related_in, view_of, ranks_of}
use Rattle.certificates.proofs.LayoutLaws.{runs-follow}

-- ---- the bytes of the rows

-- a part of bytes is bytes
pub part_bytes : (l : List ℕ) (a e : ℕ) → AreBytes l → AreBytes (part l a e)
part_bytes l a e h i = elim (dec_lt (a + i) e) [
  | yes p ↦ rw (get_or-part l a e i p) (h (a + i))
  | no p ↦ rw (get_or-past (part l a e) i (rw length-take (omega arith))) (omega arith)
]

module _ (z : Sizes) (c : List ℕ) where
  pub rows-bytes : AreBytes c → AreBytes (rows_part c z)
  unfolding rows_part
  rows-bytes = part_bytes c certificate_header_length (al_at z)

  pub rows-length : length c ≡ certificate_length z → length (rows_part c z) ≡ 8 * z.n1
  unfolding rows_part al_at certificate_length
  rows-length e = part_length c 11 (8 * z.n1) (omega arith)

  -- byte i of the rows is byte 11 + i of the certificate
  pub rows-byte : (i : ℕ) → i < 8 * z.n1 → byte_at (rows_part c z) i ≡ byte_at c (certificate_header_length + i)
  unfolding rows_part
  rows-byte i h = get_or-part c certificate_header_length (al_at z) i (omega (arith, (runs-follow z).rows_end))

-- the relation depends on the bytes of its n1 rows alone
pub related-cong : (rows other : List ℕ) (n1 : ℕ) → ((i : ℕ) → i < 8 * n1 → byte_at rows i ≡ byte_at other i) → (s t : ℕ)
    → related_in rows n1 s t ≡ related_in other n1 s t
unfolding related_in row_of
related-cong rows other n1 same s t = go (ltb s n1) refl
  where
    go : (b : Bool) → ltb s n1 ≡ b → (b && has_bit (row_of rows s) t) ≡ (b && has_bit (row_of other s) t)
    go true e =
        let l = ltb-true s n1 e in
        ap (λ (x : ℕ). has_bit x t) (big-cong rows other (s * 8) (s * 8) 8 (λ i k. same (s * 8 + i) (omega arith)))
    go false e = refl

-- a certificate that has the bytes of r where its rows stand gives the relation of r
pub related-rows : (z : Sizes) (c r : List ℕ) → ((i : ℕ) → i < 8 * z.n1 → byte_at c (certificate_header_length + i) ≡ byte_at r i) → (s t : ℕ)
    → related_in (rows_part c z) z.n1 s t ≡ related_in r z.n1 s t
related-rows z c r same = related-cong (rows_part c z) r z.n1 (λ i h. rows-byte z c i h ∙ same i h)

-- ---- related states

module _ (rows : List ℕ) (n1 s t : ℕ) (h : T (related_in rows n1 s t)) where
  pub related-left : s < n1
  unfolding related_in
  related-left = ltb→lt s n1 (and_l (ltb s n1) _ h)

  pub related-bit : T (has_bit (row_of rows s) t)
  unfolding related_in
  related-bit = and_r (ltb s n1) _ h

-- a row is a word
pub row_word_lem : (rows : List ℕ) (s : ℕ) → AreBytes rows → row_of rows s < 2 ^ 64
unfolding row_of
row_word_lem rows s h = big-fits rows (s * 8) 8 h (le_refl 8)

-- ---- the theory's view and ranks

-- two silent steps have the same key
pub quiet-keys : (a b : ℕ) → T (eqb a 0) → T (eqb b 0) → T (eqb a b)
quiet-keys a b g h = eq→eqb a b (eqb→eq a 0 g ∙ sym (eqb→eq b 0 h))

-- without keys every step is silent and serves every other
pub view-plain : (left right rows : List ℕ) → keyed left ≡ false → keyed right ≡ false → Plain (view_of left right rows)
unfolding view_of system_of
view-plain left right rows p q =
    record {
      silent = plain-silent left p;
      silent' = plain-silent right q;
      serves = λ j k. quiet-keys (key_in left j) (key_in right k) (plain-silent left p j) (plain-silent right q k);
    }

pub ranks-bytes : (z : Sizes) (c : List ℕ) → AreBytes c → Bytes (ranks_of z c)
unfolding ranks_of
ranks-bytes z c h = (λ s t. h _, λ j t. h _, λ t s. h _, λ j s. h _)
