-- `table_reader::read_table` meets its contract: where no step has an end outside, all ends are below 64, so that the doubled steps may be looked for. Assumes
-- nothing.
use mathlib.Core.Path.{refl, sym, ◌∙◌}
use Rattle.table_reader.specs.TableReading.{ends_outside}
use Rattle.lists.proofs.FoundLaws.{found_none}
use Rattle.table_reader.proofs.TestLaws.{outside-none}
use Rattle.table_reader.proofs.TableCauseLaws.{header-none}
use Rattle.table_reader.proofs.TableLaws.{head_ok}
use Rattle.table_reader.proofs.read_table.Goals as goal

pub first_doubled-requires : goal.first_doubled-requires
first_doubled-requires c =
    let head = c.in-Ok.head in
    let h = header-none c.args.known 0 c.args.s.now (sym c.read_header-read.ensures ∙ c.in-Ok.is) in
    let o = head_ok c.args.known c.args.s.now h.0 h.1 in
    let inside = found_none head.steps (ends_outside head.format c.steps-steps.result.now head.states) (sym c.first_outside.ensures ∙ c.in_default-first_outside.is) in
    outside-none head.format c.steps-steps.result.now head.states 64 head.steps refl inside (rw o.states-is o.states-le)
