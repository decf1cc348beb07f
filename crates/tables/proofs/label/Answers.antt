-- `tables::label` meets its contract: past the last label all bytes are 0, and below it the index in bytes fits. Assumes nothing.
use Prim.Native.Nat.{◌*◌, min}
use mathlib.Core.Path.{◌≡◌, sym, ap, ◌∙◌}
use native.Mathlib.Omega.{arith}
use lib.ListN.{length}
use Rattle.lists.specs.Numbers.{big_endian}
use Rattle.lists.proofs.NumberLaws.{big-past}
use Rattle.tables.specs.declared.Layout.{Layout}
use Rattle.tables.specs.Table.{label_of}
use Rattle.tables.proofs.LayoutLaws.{layout-fits, first_past, item-fits}
use Rattle.tables.proofs.label.Goals as goal

pub returns-then-labels-state : goal.returns-then-labels-state
unfolding label_of
returns-then-labels-state c =
    let a = c.args in
    let e = c.layout-layout.ensures in
    let f = layout-fits a.format e in
    sym (big-past a.labels.now _ _ (rw (← e) (first_past a.state (length a.labels.now) f.label-least f.label-most c.if-labels-state.true)))

pub overflow_mul-state : goal.overflow_mul-state
overflow_mul-state c =
    let a = c.args in
    let f = layout-fits a.format c.layout-layout.ensures in
    let small = c.well_formed.0.1 in
    omega (arith, item-fits a.state (length a.labels.now) f.label-least f.label-most c.if-labels-state.false small)

pub returns : goal.returns
unfolding label_of
returns c =
    let a = c.args in
    let l = c.layout-layout.result in
    let f = layout-fits a.format c.layout-layout.ensures in
    let w : min l.label 8 ≡ l.label = omega (arith, f.label-most) in
    c.read_be.ensures ∙ ap (big_endian a.labels.now (a.state * l.label)) w
    ∙ ap (λ (k : Layout). big_endian a.labels.now (a.state * k.label) k.label) c.layout-layout.ensures
