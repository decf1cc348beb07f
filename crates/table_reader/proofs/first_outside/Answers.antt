-- `table_reader::first_outside` meets its contract: the search passes the steps whose ends are both below n. Assumes nothing.
use mathlib.Core.Path.{refl}
use native.Mathlib.Nat.{not-suc-le-zero}
use native.Mathlib.Omega.{arith}
use lib.Dec.{T}
use borrow.Author.Tests.{tests}
use Rattle.std.proofs.Common.{rules}
use Rattle.std.proofs.lemmas.Iterator.{first_from_Range}
use Rattle.table_reader.specs.TableReading.{ends_outside}
use Rattle.lists.proofs.FoundLaws.{found-from}
use Rattle.table_reader.proofs.first_outside.Goals as goal

pub returns : goal.returns
unfolding ends_outside
returns c =
    let a = c.args in
    let p = ends_outside a.format a.steps.now a.n in
    found-from a.m p 0 (λ k l. absurd (not-suc-le-zero l)) p (λ k l. refl) _
    (first_from_Range _ _ _ _ (λ j. T (p j)) (λ j. T (p j) → ⊥) c.find.ensures.ran (λ j q k. grind (arith, tests)) (λ j q k. (search rules, grind (arith, tests))))
