-- `tables::table_length`: the sum fits, since a step has few bytes and there are fewer than 65,536. Assumes nothing.
use native.Mathlib.Omega.{arith}
use Rattle.tables.proofs.LayoutLaws.{layout-fits, items-few}
use Rattle.tables.proofs.table_length.Goals as goal

pub overflow_mul-result : goal.overflow_mul-result
overflow_mul-result c =
    let f = layout-fits c.format_of.result c.layout-layout.ensures in
    omega (arith, items-few c.step_count.ensures.small f.step-most)

pub overflow_add-result : goal.overflow_add-result
overflow_add-result c =
    let f = layout-fits c.format_of.result c.layout-layout.ensures in
    omega (arith, items-few c.step_count.ensures.small f.step-most, c.steps_at.ensures.small)
