-- `certificate_reader::first_wide_row` meets its contract: the search passes the rows that have no bit n2 or more. Assumes nothing.
use mathlib.Core.Path.{refl}
use native.Mathlib.Nat.{not-suc-le-zero}
use native.Mathlib.Omega.{arith}
use lib.Dec.{T}
use borrow.Author.Tests.{tests}
use Rattle.std.proofs.Common.{rules}
use Rattle.std.proofs.lemmas.Iterator.{first_from_Range}
use Rattle.lists.proofs.FoundLaws.{found-from}
use Rattle.certificate_reader.specs.CertificateReading.{wide_row}
use Rattle.certificate_reader.proofs.first_wide_row.Goals as goal

pub returns : goal.returns
unfolding wide_row
returns c =
    let a = c.args in
    let p = wide_row a.rows.now a.n2 in
    found-from a.n1 p 0 (λ k l. absurd (not-suc-le-zero l)) p (λ k l. refl) _
    (first_from_Range _ _ _ _ (λ s. T (p s)) (λ s. T (p s) → ⊥) c.find.ensures.ran (λ s r k. grind (arith, tests)) (λ s r k. (search rules, grind (arith, tests))))
