-- `examination::first_long` meets its contract: no state before c is found. Assumes nothing.
use mathlib.Core.Path.{◌≡◌, sym, ◌∙◌}
use native.Mathlib.Omega.{arith}
use Rattle.lists.proofs.BelowLaws.{first-start, first-hit, first-miss}
use Rattle.sides.specs.Side.{system_in}
use Rattle.sides.specs.Views.{view_in}
use Rattle.lists.proofs.SomeLaws.{some-i, none-i}
use Rattle.examination.specs.OnSides.{long_by}
use Rattle.examination.proofs.first_long.Goals as goal

pub loop-c-init : goal.loop-c-init
loop-c-init c = first-start _

pub returns-then-is_long : goal.returns-then-is_long
returns-then-is_long c =
    let a = c.args in
    let v = a.view in
    let l = c.loop-c in
    let n = c.states-c-end.ensures.value in
    let hit = first-hit (long_by (view_in v.ours.now v.theirs.now) a.chains.now a.b) l.c (system_in v.theirs.now).states
    l.invariant (omega arith) (sym c.is_long.ensures ∙ c.if-is_long.true) in
    rw hit (sym (some-i (omega arith)))

pub loop-c-preserved : goal.loop-c-preserved
loop-c-preserved c =
    let a = c.args in
    let v = a.view in
    first-miss (long_by (view_in v.ours.now v.theirs.now) a.chains.now a.b) c.loop-c.c c.loop-c.invariant (sym c.is_long.ensures ∙ c.if-is_long.false)

pub returns : goal.returns
returns c =
    let n = c.states-c-end.ensures.value in
    let h : c.loop-c.c ≡ (system_in c.args.view.theirs.now).states = omega arith in
    let e = rw h at c.loop-c.invariant in
    sym (none-i (omega arith))
