-- Laws of the readers' tests: each passes exactly where its cause does not apply, and a row is wide exactly where it has a bit n2 or more.
-- Assumes nothing.
use Prim.Native.Nat.{ℕ}
use mathlib.Core.List.{List}
use Rattle.answers.proofs.DecideLaws.{Decides, decides-as, eqb-decides, and-decides}
use Rattle.table_reader.proofs.TestLaws.{from-decides}
use Rattle.certificates.specs.declared.Sizes.{Sizes}
use Rattle.certificates.specs.Layout.{row_of}
use Rattle.certificate_reader.specs.CertificateReading.{certificate_sizes_fit, wide_row}
use Rattle.certificate_reader.specs.CertificateCauses.{SizesFit, HasWideBit}

pub sizes-decides : (z : Sizes) (c : List ℕ) → Decides (certificate_sizes_fit z c) (SizesFit z c)
unfolding certificate_sizes_fit
sizes-decides z c =
    decides-as
    (and-decides (and-decides (and-decides (eqb-decides _ _) (eqb-decides _ _)) (eqb-decides _ _)) (eqb-decides _ _))
    (λ p. (p.0.0.0, p.0.0.1, p.0.1, p.1))
    (λ p. (((p.0, p.1), p.2), p.3))

pub wide-decides : (rows : List ℕ) (n2 s : ℕ) → Decides (wide_row rows n2 s) (HasWideBit rows n2 s)
unfolding wide_row
wide-decides rows n2 s = from-decides (row_of rows s) n2
