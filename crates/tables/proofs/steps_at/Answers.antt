-- `tables::steps_at`: the sum fits, since a header, a label and the states are few. Assumes nothing.
use native.Mathlib.Omega.{arith}
use Rattle.tables.proofs.LayoutLaws.{layout-fits, items-few}
use Rattle.tables.proofs.steps_at.Goals as goal

pub overflow_mul-result : goal.overflow_mul-result
overflow_mul-result c =
    let f = layout-fits c.format_of.result c.layout-layout.ensures in
    omega (arith, items-few c.states.ensures.small f.label-most)

pub overflow_add-result : goal.overflow_add-result
overflow_add-result c =
    let f = layout-fits c.format_of.result c.layout-layout.ensures in
    omega (arith, items-few c.states.ensures.small f.label-most, f.header-most)

pub returns-clause-small : goal.returns-clause-small
returns-clause-small c =
    let f = layout-fits c.format_of.result c.layout-layout.ensures in
    omega (arith, items-few c.states.ensures.small f.label-most, f.header-most)
