-- `ranking::commit` meets its contract: what the reading refuses, 29 where the slip is not the one due, or what is made of what was read. Assumes nothing.
use mathlib.Core.Path.{refl, sym, ap, ◌∙◌}
use Rattle.ranking.specs.Enquire.{same_slip}
use Rattle.ranking.proofs.MakeAnswers.{not-read, committed-by, commit-make, other-slip}
use Rattle.ranking.proofs.MakeSidesLaws.{slip-is}
use Rattle.ranking.proofs.commit.Goals as goal

pub make_read-requires : goal.make_read-requires
make_read-requires c =
    sym c.read.ensures ∙ c.in-Ok.is

pub returns-in-Err : goal.returns-in-Err
returns-in-Err c =
    let a = c.args in
    let refused = sym c.read.ensures ∙ c.in-Err.is in
    let both = committed-by a.left.now a.right.now a.relation.now a.output.now a.slip
    (not-read a.left.now a.right.now a.relation.now _ refused) in
    record { value = both.0; written = both.1 }

pub returns-then-eq : goal.returns-then-eq
unfolding same_slip
returns-then-eq c =
    let a = c.args in
    let read = sym c.read.ensures ∙ c.in-Ok.is in
    let due = slip-is a.left.now a.right.now a.relation.now read refl c.slip_for-due.ensures in
    let same = ap (same_slip a.slip) (sym due) ∙ sym c.eq.ensures ∙ c.if-eq.true in
    let commits = commit-make a.left.now a.right.now a.relation.now a.output.now a.slip same in
    let made = c.make_read.ensures in
    record { value = made.value ∙ commits.0; written = made.written ∙ commits.1 }

pub returns-else-eq : goal.returns-else-eq
unfolding same_slip
returns-else-eq c =
    let a = c.args in
    let read = sym c.read.ensures ∙ c.in-Ok.is in
    let due = slip-is a.left.now a.right.now a.relation.now read refl c.slip_for-due.ensures in
    let other = ap (same_slip a.slip) (sym due) ∙ sym c.eq.ensures ∙ c.if-eq.false in
    let both = other-slip a.left.now a.right.now a.relation.now read a.output.now a.slip other in
    record { value = c.of.ensures ∙ both.0; written = both.1 }
