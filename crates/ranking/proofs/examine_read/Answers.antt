-- `ranking::examine_read` meets its contract: the sides, their lengths, and the examination. Assumes nothing.
use mathlib.Core.Path.{◌∙◌}
use native.Mathlib.Omega.{arith}
use Rattle.certificates.specs.CertificateModel.{AreBytes}
use Rattle.ranking.proofs.MakeSidesLaws.{examined-here}
use Rattle.ranking.proofs.examine_read.Goals as goal

pub returns : goal.returns
returns g c =
    let a = c.args in
    let bytes : AreBytes a.relation.now = λ i. omega (arith, c.type_inv.relation i) in
    let left = c.measure-lengths.ensures in
    let right = c.measure-lengths2.ensures in
    let turned = c.turned.ensures in
    let law = examined-here a.left.now a.right.now a.relation.now c.requires bytes c.row_words-words.ensures
    c.column_words-columns.ensures c.labels.ensures c.steps.ensures
    c.labels-2.ensures c.steps-2.ensures c.of-ours.ensures c.of-theirs.ensures
    left.distances (rw (turned.ours, turned.theirs) at right.distances) left.chains (rw (turned.ours, turned.theirs) at right.chains) in
    record { checked = c.examine-checked.ensures ∙ law.0; ranks = law.1 }
