-- Reading a certificate and a relation: the first cause that applies, or the sizes.
use Rattle.std.specs.Prelude.{ℕ, ◌*◌, Bool, cond, not, ◌&&◌, List, ltb, eqb, length, Result, Ok, Err}
use Rattle.lists.specs.Below.{first_below}
use Rattle.lists.specs.Numbers.{byte_at, big_endian}
use Rattle.words.specs.Bits.{has_from}
use Rattle.tables.specs.Table.{magic_fits}
use Rattle.certificates.specs.Layout.{certificate_header_length, row_length, certificate_length, rows_part, row_of}
use Rattle.certificates.specs.declared.Sizes.{Sizes}
use Rattle.refusals.specs.declared.CertificateRefusal.{CertificateRefusal}
use Rattle.refusals.specs.declared.CertificateRefusal.TheVariants as certificate
use Rattle.refusals.specs.declared.RelationRefusal.{RelationRefusal}
use Rattle.refusals.specs.declared.RelationRefusal.TheVariants as relation

-- Bytes 5 and 6, then 7, 8 and 9, 10: the tables' sizes.
unfoldable pub certificate_sizes_fit : Sizes → List ℕ → Bool
certificate_sizes_fit z c =
    eqb (byte_at c 5) z.n1 && eqb (byte_at c 6) z.n2 && eqb (big_endian c 7 2) z.m1 && eqb (big_endian c 9 2) z.m2

-- Causes 10 to 14: the first that applies, or the sizes. Bytes 0 to 2 are "TPC".
unfoldable pub read_header : Sizes → List ℕ → Result Sizes CertificateRefusal
read_header z c =
    cond (ltb (length c) certificate_header_length) (Err certificate.Short)
    (cond (not (magic_fits 0x43 c)) (Err certificate.Magic)
    (cond (not (eqb (big_endian c 3 2) 1)) (Err certificate.Version)
    (cond (not (certificate_sizes_fit z c)) (Err certificate.Sizes)
    (cond (not (eqb (length c) (certificate_length z))) (Err certificate.Length)
    (Ok z)))))

-- Row s has a bit n2 or more.
unfoldable pub wide_row : List ℕ → ℕ → ℕ → Bool
wide_row rows n2 s = has_from (row_of rows s) n2

-- Cause 15 of a certificate whose header is good: the first row with a bit n2 or more.
unfoldable pub read_rows : Sizes → List ℕ → Result Sizes CertificateRefusal
read_rows z rows =
    let wide = first_below z.n1 (wide_row rows z.n2) in
    cond (ltb wide z.n1) (Err (certificate.RowBit wide)) (Ok z)

-- The rows are looked at where the header is good.
abbrev pub with_rows : List ℕ → Result Sizes CertificateRefusal → Result Sizes CertificateRefusal
with_rows c (Ok z) = read_rows z (rows_part c z)
with_rows c (Err r) = Err r

-- What reading a certificate gives: its sizes, or the refusal.
unfoldable pub read_certificate : Sizes → List ℕ → Result Sizes CertificateRefusal
read_certificate z c = with_rows c (read_header z c)

-- What reading a relation gives: causes 20 and 15, or its sizes.
unfoldable pub read_relation : Sizes → List ℕ → Result Sizes RelationRefusal
read_relation z r =
    let wide = first_below z.n1 (wide_row r z.n2) in
    cond (not (eqb (length r) (row_length * z.n1))) (Err relation.Length)
    (cond (ltb wide z.n1) (Err (relation.RowBit wide))
    (Ok z))
