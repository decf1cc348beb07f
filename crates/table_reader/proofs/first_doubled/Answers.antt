-- `table_reader::first_doubled` meets its contract: of the steps below j the ends were seen, and none of those steps equals an earlier one. Assumes nothing.
use Prim.Native.Nat.{◌<◌}
use mathlib.Core.Path.{◌≡◌, sym, ◌∙◌}
use native.Mathlib.Omega.{arith}
use Rattle.lists.proofs.BelowLaws.{first-start, first-miss, first-hit}
use Rattle.lists.proofs.FoundLaws.{found-is, none-found}
use Rattle.table_reader.proofs.SeenLaws.{seen_none, seen-doubled, seen_more}
use Rattle.table_reader.proofs.first_doubled.Goals as goal
use Rattle.table_reader.proofs.first_doubled.Goals.{After-to-u}

-- the ends of the step are below 64
inside : (c : After-to-u) → (c.from-s.result < 64) × (c.to-u.result < 64)
inside c =
    let below = c.requires c.loop-j.j c.loop-j-test.true in
    (rw c.from-s.ensures.value below.0, rw c.to-u.ensures.value below.1)

pub loop-j-init : goal.loop-j-init
loop-j-init c = (first-start _, seen_none _ _ c.empty-seen.result c.empty-seen.ensures)

pub returns-then-has : goal.returns-then-has
returns-then-has c =
    let l = c.loop-j in
    let s = c.from-s.ensures.value in
    let u = c.to-u.ensures.value in
    let d = seen-doubled _ _ l.j l.invariant.1 s u (inside (goal.at.returns-then-has c).After-to-u).0 in
    let e = first-hit _ l.j c.args.m l.invariant.0 (omega arith) (d ∙ sym c.has.ensures ∙ c.if-has.true) in
    sym (found-is _ _ e (omega arith))

pub loop-j-preserved : goal.loop-j-preserved
loop-j-preserved c =
    let l = c.loop-j in
    let s = c.from-s.ensures.value in
    let u = c.to-u.ensures.value in
    let i = inside (goal.at.loop-j-preserved c).After-to-u in
    let d = seen-doubled _ _ l.j l.invariant.1 s u i.0 in (
      first-miss _ l.j l.invariant.0 (d ∙ sym c.has.ensures ∙ c.if-has.false),
      seen_more _ _ l.j l.seen l.invariant.1 s u i.0 i.1 c.add.result c.add.ensures,
    )

pub returns : goal.returns
returns c = let e : c.loop-j.j ≡ c.args.m = omega arith in sym (none-found _ _ (rw (← e) c.loop-j.invariant.0))
