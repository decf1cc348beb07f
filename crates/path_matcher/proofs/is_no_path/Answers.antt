-- `path_matcher::is_no_path` meets its contract: the states are read one after the other. Assumes nothing.
use Prim.Native.Nat.{◌-◌}
use mathlib.Core.Path.{◌≡◌, ap, ◌∙◌, subst}
use mathlib.Core.Logic.{inl, inr}
use Rattle.lists.proofs.BoolLaws.{true-T}
use native.Mathlib.Omega.{arith}
use lib.ListN.{length}
use borrow.Author.Tests.{not-true, not-false}
use Rattle.lists.specs.Numbers.{byte_at}
use Rattle.path_matcher.proofs.PathLaws.{ReadTo, read_first, read_more, no-path, no_step, no-state, a-path, read_step}
use mathlib.Core.Bool.{not}
use Rattle.path_matcher.proofs.is_no_path.Goals as goal
use Rattle.path_matcher.proofs.is_no_path.Goals.{
  then-count-eq0-via-then-count-eq0,
  then-count-eq0-via-else-count-eq0+then-count-gt-MOST_GIVEN,
  then-not-has-via-then-not-has,
  then-not-has-via-else-not-has+then-n-s-2,
}

pub returns-then-count-eq0 : goal.returns-then-count-eq0
returns-then-count-eq0 c =
    elim c.then-count-eq0.branch [
      | then-count-eq0-via-then-count-eq0 w ↦ no-path _ _ (inr (inl w.if-count-eq0.true))
      | then-count-eq0-via-else-count-eq0+then-count-gt-MOST_GIVEN w ↦ no-path _ _ (inr (inr (inl w.if-count-gt-MOST_GIVEN.true)))
    ]

pub returns-then-n-s : goal.returns-then-n-s
returns-then-n-s c = no-state _ _ 0 (omega arith) (omega arith)

pub loop-i-init : goal.loop-i-init
loop-i-init c = (c.byte-s.ensures.value, read_first _ _ (omega arith))

pub returns-then-not-has : goal.returns-then-not-has
returns-then-not-has c =
    let l = c.loop-i in
    elim c.then-not-has.branch [
      | then-not-has-via-then-not-has w ↦ no_step _ _ (l.i - 1) (omega arith) (omega arith)
          (read_step c.requires c.args.path.now (l.i - 1) l.i l.invariant.0 c.byte-s-in-loop-i.ensures.value c.silent-after.ensures.value
          c.has.ensures
          ∙ not-true _ (ap not w.if-not-has.true))
      | then-not-has-via-else-not-has+then-n-s-2 w ↦ no-state _ _ l.i (omega arith) (omega arith)
    ]

pub loop-i-preserved : goal.loop-i-preserved
loop-i-preserved c =
    let l = c.loop-i in
    let u = c.byte-s-in-loop-i.ensures.value in
    let step = read_step c.requires c.args.path.now (l.i - 1) l.i l.invariant.0 u c.silent-after.ensures.value c.has.ensures in (
      u ∙ ap (byte_at c.args.path.now) (omega arith),
      read_more _ _ (l.i - 1) (omega arith) l.invariant.1 (true-T _ (step ∙ not-false _ (ap not c.if-not-has.false))) (omega arith),
    )

pub returns : goal.returns
returns c =
    let l = c.loop-i in
    let path = c.args.path.now in
    let e : l.i ≡ length path = omega arith in
    a-path _ path (omega arith) (omega arith) (subst (ReadTo _ path) e l.invariant.1)
