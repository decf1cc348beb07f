-- `ranking::make_read` meets its contract: the room, the examination, and where it passes the file. Assumes nothing.
use mathlib.Core.Path.{◌∙◌}
use Rattle.ranking.proofs.MakeAnswers.{too_short, make-refused, make-passed}
use Rattle.ranking.proofs.MakeSidesLaws.{length-is, filled_is}
use Rattle.ranking.proofs.make_read.Goals as goal

pub returns-then-output-length : goal.returns-then-output-length
returns-then-output-length g c =
    let a = c.args in
    let long = length-is a.left.now a.right.now a.relation.now c.requires c.of-sizes.ensures c.length-length.ensures in
    let both = too_short a.left.now a.right.now a.relation.now c.requires a.output.now long c.if-output-length.true in
    record { value = c.of.ensures ∙ both.0; written = both.1 }

pub returns-in-Err : goal.returns-in-Err
returns-in-Err g c =
    let a = c.args in
    let long = length-is a.left.now a.right.now a.relation.now c.requires c.of-sizes.ensures
    c.length-length.ensures in
    let both = make-refused a.left.now a.right.now a.relation.now c.requires c.examine_read-examined.ensures.checked
    a.output.now long c.if-output-length.false c.in-Err.is in
    record { value = both.0; written = both.1 }

pub returns-in-Ok : goal.returns-in-Ok
returns-in-Ok g c =
    let a = c.args in
    let examined = c.examine_read-examined.ensures in
    let long = length-is a.left.now a.right.now a.relation.now c.requires c.of-sizes.ensures
    c.length-length.ensures in
    let filled = filled_is a.left.now a.right.now a.relation.now c.requires c.of-sizes.ensures
    a.output.now _ examined.ranks in
    let both = make-passed a.left.now a.right.now a.relation.now c.requires examined.checked a.output.now long c.if-output-length.false
    c.in-Ok.is c.success.ensures (c.fill_examined.ensures ∙ filled) in
    record { value = both.0; written = both.1 }
