-- `ranking::make_with` meets its contract: what the reading refuses, or what is made of what was read. Assumes nothing.
use mathlib.Core.Path.{sym, ◌∙◌}
use Rattle.ranking.proofs.MakeAnswers.{made_by, not-read}
use Rattle.ranking.proofs.make_with.Goals as goal

pub make_read-requires : goal.make_read-requires
make_read-requires g c = sym c.read.ensures ∙ c.in-Ok.is

pub returns-in-Err : goal.returns-in-Err
returns-in-Err g c =
    let a = c.args in
    let refused = sym c.read.ensures ∙ c.in-Err.is in
    let both = made_by a.left.now a.right.now a.relation.now a.output.now (not-read a.left.now a.right.now a.relation.now _ refused) in
    record { value = both.0; written = both.1 }
