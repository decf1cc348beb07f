-- `ranking::enquire` meets its contract: what the reading refuses, or what the enquiry of what was read gives. Assumes nothing.
use mathlib.Core.Path.{sym, ◌∙◌}
use Rattle.ranking.proofs.MakeAnswers.{enquiry-unread}
use Rattle.ranking.proofs.enquire.Goals as goal

pub enquire_read-requires : goal.enquire_read-requires
enquire_read-requires c = sym c.read.ensures ∙ c.in-Ok.is

pub returns-in-Err : goal.returns-in-Err
returns-in-Err c =
    let a = c.args in
    let refused = sym c.read.ensures ∙ c.in-Err.is in
    enquiry-unread a.left.now a.right.now a.relation.now refused c.blank_slip.ensures
