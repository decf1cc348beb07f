-- `lister::list_step` meets its contract: an obligation that is met has its line, and one that fails none. Assumes nothing.
use mathlib.Core.Path.{refl}
use Rattle.lister.proofs.WalkTextLaws.{no_line, one_line}
use Rattle.lister.proofs.list_step.Goals as goal

pub returns-in_default : goal.returns-in_default
returns-in_default c =
    let a = c.args in
    no_line a.view.ours.now a.view.theirs.now a.ranks.certificate.now a.ranks.run a.place a.j a.at
    c.obligation_at.ensures _ a.output.now c.in_default.is

pub returns : goal.returns
returns c =
    let a = c.args in
    one_line a.view.ours.now a.view.theirs.now a.ranks.certificate.now a.ranks.run a.place a.j a.at c.obligation_at.ensures _ _
    c.in-Met.is refl c.left.ensures c.right.ensures c.from.ensures c.requires
    c.put_six.ensures
