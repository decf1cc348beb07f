-- `tables::byte_of_step`: past the last step stands 0, and below it the index in bytes fits. Assumes nothing.
use mathlib.Core.Path.{sym}
use native.Mathlib.Omega.{arith}
use lib.ListN.{length}
use Rattle.lists.proofs.FillLaws.{get_or-past}
use Rattle.tables.proofs.LayoutLaws.{layout-fits, first_past, item-fits}
use Rattle.tables.proofs.byte_of_step.Goals as goal

pub returns-then-steps-j-clause-value : goal.returns-then-steps-j-clause-value
returns-then-steps-j-clause-value c =
    let a = c.args in
    let e = c.layout-layout.ensures in
    let f = layout-fits a.format e in
    let past = first_past a.j (length a.steps.now) f.step-least f.step-most c.if-steps-j.true in
    sym (get_or-past a.steps.now _ (rw (← e) (omega (arith, past))))

pub overflow_mul-j : goal.overflow_mul-j
overflow_mul-j c =
    let a = c.args in
    let f = layout-fits a.format c.layout-layout.ensures in
    let small = c.well_formed.0.1 in
    omega (arith, item-fits a.j (length a.steps.now) f.step-least f.step-most c.if-steps-j.false small)

pub overflow_add-j : goal.overflow_add-j
overflow_add-j c =
    let a = c.args in
    let f = layout-fits a.format c.layout-layout.ensures in
    let small = c.well_formed.0.1 in
    omega (arith, item-fits a.j (length a.steps.now) f.step-least f.step-most c.if-steps-j.false small)
