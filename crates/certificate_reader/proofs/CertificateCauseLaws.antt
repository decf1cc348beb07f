-- The certificate reader's and the relation reader's part of demand 1: each refuses with the six numbers of the first cause that applies to the bytes, and
-- reads where none does. Each reader is a chain of tests in the order of its causes, and each test decides its cause. Assumes nothing.
use Rattle.std.specs.Prelude.{Result, Ok, Err}
use Rattle.refusals.specs.declared.CertificateRefusal.{CertificateRefusal}
use Rattle.refusals.specs.declared.RelationRefusal.{RelationRefusal}
use Prim.Native.Nat.{ℕ, ◌*◌}
use mathlib.Core.Path.{◌≡◌, refl, ap, ◌∙◌}
use mathlib.Core.Bool.{Bool}
use mathlib.Core.List.{List, [], ◌∷◌}
use lib.ListN.{length}
use Rattle.lists.specs.Numbers.{big_endian}
use Rattle.answers.specs.Numbers.{six_numbers}
use lib.Dec.{T}
use Rattle.lists.specs.Lists.{All}
use Rattle.answers.specs.Causes.{NoCause, Numbered, allows}
use Rattle.answers.specs.Verdicts.{Verdict}
use Rattle.answers.proofs.CauseLaws.{numbered_below, allowed}
use Rattle.answers.proofs.DecideLaws.{ltb-decides, eqb-decides, not-decides}
use Rattle.answers.proofs.VerdictLaws.{Decided, decided-none, decided-end, decided-test, decided-search, none-on, on_none}
use Rattle.table_reader.proofs.TestLaws.{magic-decides}
use Rattle.certificates.specs.declared.Sizes.{Sizes}
use Rattle.certificates.specs.Layout.{certificate_length, rows_part}
use Rattle.refusals.specs.declared.CertificateRefusal.TheVariants as certificate
use Rattle.refusals.specs.declared.RelationRefusal.TheVariants as relation
use Rattle.certificate_reader.specs.CertificateReading.{read_header, read_rows, with_rows, read_certificate, read_relation}
use Rattle.certificate_reader.specs.CertificateVerdicts.{certificate_verdict, relation_verdict}
use Rattle.certificate_reader.specs.CertificateCauses.{certificate_causes, relation_causes}
use Rattle.certificate_reader.proofs.CertificateTestLaws.{sizes-decides, wide-decides}

-- a verdict that goes on is that of sizes
certificate-on : (file : ℕ) (x : Result Sizes CertificateRefusal) {z : Sizes} → certificate_verdict file x ≡ Ok z → x ≡ Ok z
certificate-on file (Ok y) e = ap Ok (cc e)
certificate-on file (Err r) e = cc e

pub relation-on : (file : ℕ) (x : Result Sizes RelationRefusal) {z : Sizes} → relation_verdict file x ≡ Ok z → x ≡ Ok z
relation-on file (Ok y) e = ap Ok (cc e)
relation-on file (Err r) e = cc e

module _ (file : ℕ) (z : Sizes) (c : List ℕ) where
  abbrev rows_on : Result Sizes CertificateRefusal → Verdict Sizes
  rows_on x = certificate_verdict file (with_rows c x)

  -- the reader goes on with the sizes where no cause applies, and refuses with the numbers of the first that does
  pub certificate-decided : Decided (λ y. y ≡ z) (certificate_causes file z c) (certificate_verdict file (read_certificate z c))
  unfolding read_certificate read_header read_rows
  certificate-decided =
      decided-test rows_on (Err certificate.Short) _ (ltb-decides (length c) 11) refl
      (decided-test rows_on (Err certificate.Magic) _ (not-decides (magic-decides 0x43 c)) refl
      (decided-test rows_on (Err certificate.Version) _ (not-decides (eqb-decides (big_endian c 3 2) 1)) refl
      (decided-test rows_on (Err certificate.Sizes) _ (not-decides (sizes-decides z c)) refl
      (decided-test rows_on (Err certificate.Length) _ (not-decides (eqb-decides (length c) (certificate_length z))) refl
      (decided-end (decided-search (certificate_verdict file) z.n1 (six_numbers 15 file) (λ s. Err (certificate.RowBit s))
      _ (wide-decides (rows_part c z) z.n2) (λ s. refl)
      (decided-none refl)))))))

  pub certificate-good-none : {y : Sizes} → read_certificate z c ≡ Ok y → (y ≡ z) × NoCause (certificate_causes file z c)
  certificate-good-none e = on_none (ap (certificate_verdict file) e) certificate-decided

  pub certificate-none-good : NoCause (certificate_causes file z c) → read_certificate z c ≡ Ok z
  certificate-none-good n =
      let q = none-on (certificate_verdict file (read_certificate z c)) certificate-decided n in
      certificate-on file (read_certificate z c) (q.1 ∙ ap Ok q.2)

module _ (file : ℕ) (z : Sizes) (r : List ℕ) where
  pub relation-decided : Decided (λ y. y ≡ z) (relation_causes file z r) (relation_verdict file (read_relation z r))
  unfolding read_relation
  relation-decided =
      decided-test (relation_verdict file) (Err relation.Length) _ (not-decides (eqb-decides (length r) (8 * z.n1))) refl
      (decided-end (decided-search (relation_verdict file) z.n1 (six_numbers 15 file) (λ s. Err (relation.RowBit s))
      _ (wide-decides r z.n2) (λ s. refl)
      (decided-none refl)))

  pub relation-good-none : {y : Sizes} → read_relation z r ≡ Ok y → (y ≡ z) × NoCause (relation_causes file z r)
  relation-good-none e = on_none (ap (relation_verdict file) e) relation-decided

  pub relation-none-good : NoCause (relation_causes file z r) → read_relation z r ≡ Ok z
  relation-none-good n =
      let q = none-on (relation_verdict file (read_relation z r)) relation-decided n in
      relation-on file (read_relation z r) (q.1 ∙ ap Ok q.2)

-- ---- the numbers are 10 to 15, and 20 and 15, with the file given

abbrev pub certificate_numbers : List ℕ
certificate_numbers = 10 ∷ 11 ∷ 12 ∷ 13 ∷ 14 ∷ 15 ∷ []

module _ (f : ℕ → ℕ → Bool) (file : ℕ) where
  pub certificate-numbers : T (allows f file certificate_numbers) → (z : Sizes) (c : List ℕ) → Numbered f (certificate_causes file z c)
  certificate-numbers h z c = go (allowed f file certificate_numbers h)
    where
      go : All (λ code. T (f code file)) certificate_numbers → Numbered f (certificate_causes file z c)
      go (h10, (h11, (h12, (h13, (h14, (h15, none)))))) = (h10, (h11, (h12, (h13, (h14, numbered_below f z.n1 _ (λ s. (h15, tt)))))))

  pub relation-numbers : T (allows f file (20 ∷ 15 ∷ [])) → (z : Sizes) (r : List ℕ) → Numbered f (relation_causes file z r)
  relation-numbers h z r = let each = allowed f file (20 ∷ 15 ∷ []) h in (each.0, numbered_below f z.n1 _ (λ s. (each.1.0, tt)))
