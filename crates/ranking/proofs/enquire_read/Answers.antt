-- `ranking::enquire_read` meets its contract: what the examination refuses, or the length and the true slip. Assumes nothing.
use mathlib.Core.Path.{refl}
use Rattle.ranking.proofs.MakeAnswers.{enquiry-refused, enquiry-passed}
use Rattle.ranking.proofs.MakeSidesLaws.{slip-is}
use Rattle.ranking.proofs.enquire_read.Goals as goal

pub returns-in-Err : goal.returns-in-Err
returns-in-Err c =
    let a = c.args in
    enquiry-refused a.left.now a.right.now a.relation.now c.requires c.examine_read-examined.ensures.checked
    c.in-Err.is c.blank_slip-blank.ensures

pub returns-in-Ok : goal.returns-in-Ok
returns-in-Ok c =
    let a = c.args in
    let slip = slip-is a.left.now a.right.now a.relation.now c.requires refl c.slip_for-slip.ensures in
    enquiry-passed a.left.now a.right.now a.relation.now c.requires c.examine_read-examined.ensures.checked
    c.in-Ok.is c.success.ensures slip
