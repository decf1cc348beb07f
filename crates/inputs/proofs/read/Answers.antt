-- `inputs::read` meets its contract: the tables are read, and the relation with the sizes that their bytes give. Assumes nothing.
use Rattle.std.specs.Prelude.{Ok, Err}
use mathlib.Core.Path.{◌≡◌, sym, ap, ◌∙◌}
use Rattle.certificates.specs.declared.Sizes.{Sizes}
use Rattle.certificates.specs.Layout.{sizes_of}
use Rattle.certificate_reader.specs.CertificateReading.{read_relation}
use Rattle.table_reader.specs.declared.Known.TheVariants.{Both}
use Rattle.table_pairs.specs.TablePairs.{tables_verdict}
use Rattle.inputs.proofs.InputLaws.{sizes-read, relation-refuses, all_read}
use Rattle.inputs.proofs.read.Goals as goal
use Rattle.inputs.proofs.read.Goals.{After-read_relation-third}

-- both tables are read, and the relation with the sizes that their bytes give
tables-and-relation : (c : After-read_relation-third) → let a = c.args in
    (tables_verdict Both a.left.now a.right.now ≡ Ok c.in-Ok.heads)
    × (c.read_relation-third.result ≡ read_relation (sizes_of a.left.now a.right.now) a.relation.now)
tables-and-relation c =
    let a = c.args in
    let read = sym c.read_tables-tables.ensures ∙ c.in-Ok.is in
    (read, c.read_relation-third.ensures ∙ ap (λ (z : Sizes). read_relation z a.relation.now) (c.of.ensures ∙ sizes-read a.left.now a.right.now read))

pub returns-in_default-third : goal.returns-in_default-third
returns-in_default-third c =
    let a = c.args in
    let read = tables-and-relation (goal.at.returns-in_default-third c).After-read_relation-third in
    let refused = rw c.unwrap_err.ensures at (relation-refuses a.left.now a.right.now a.relation.now read.0 read.1 c.unwrap_err.ensures) in
    ap Err c.answer.ensures ∙ refused

pub returns : goal.returns
returns c =
    let a = c.args in
    let read = tables-and-relation (goal.at.returns c).After-read_relation-third in
    all_read a.left.now a.right.now a.relation.now read.0 (sym read.1 ∙ c.in-Ok-third.is)
