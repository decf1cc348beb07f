-- `checker::read` meets its contract: the tables are read, and the certificate with the sizes that their bytes give. Assumes nothing.
use Rattle.std.specs.Prelude.{Ok, Err}
use mathlib.Core.Path.{◌≡◌, sym, ap, ◌∙◌}
use Rattle.certificates.specs.declared.Sizes.{Sizes}
use Rattle.certificates.specs.Layout.{sizes_of}
use Rattle.certificate_reader.specs.CertificateReading.{read_certificate}
use Rattle.certificate_reader.proofs.CertificateLaws.{sizes-are}
use Rattle.table_pairs.specs.TablePairs.{tables_verdict}
use Rattle.table_pairs.proofs.PairLaws.{tables-read}
use Rattle.checker.specs.Judge.{files_verdict}
use Rattle.checker.proofs.read.Goals as goal
use Rattle.checker.proofs.read.Goals.{After-read_certificate-third}

-- both tables are read, and the certificate with the sizes that their bytes give
tables-and-certificate : (c : After-read_certificate-third) → let a = c.args in
    (tables_verdict a.known a.left.now a.right.now ≡ Ok c.in-Ok.heads)
    × (c.read_certificate-third.result ≡ read_certificate (sizes_of a.left.now a.right.now) a.certificate.now)
tables-and-certificate c =
    let a = c.args in
    let read = sym c.read_tables-tables.ensures ∙ c.in-Ok.is in
    let both = tables-read a.known a.left.now a.right.now read in (
      read,
      c.read_certificate-third.ensures
          ∙ ap (λ (z : Sizes). read_certificate z a.certificate.now) (c.of.ensures ∙ sizes-are a.left.now a.right.now both.left-good both.right-good),
    )

pub returns-in_default-third : goal.returns-in_default-third
unfolding files_verdict
returns-in_default-third c =
    let read = tables-and-certificate (goal.at.returns-in_default-third c).After-read_certificate-third in
    rw (read.0, ← read.1, c.unwrap_err.ensures) (ap Err c.answer.ensures)

pub returns : goal.returns
unfolding files_verdict
returns c =
    let read = tables-and-certificate (goal.at.returns c).After-read_certificate-third in
    rw (read.0, ← read.1, c.in-Ok-third.is)
