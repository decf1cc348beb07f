-- `sides::Side::of` meets its contract: the labels, then the ends and the keys of the steps; then the steps are linked, from the last to the first. Assumes
-- nothing.
use Rattle.sides.proofs.BuildLaws.{Filling}
use Rattle.sides.proofs.LinkLaws.{LinksIn}
use Rattle.sides.proofs.Side.of.Given as goal

abbrev pub invariant-loop-s : goal.invariant-loop-s
invariant-loop-s l = Filling l.fn.head l.labels l.steps l.words l.s 0 l.side

abbrev pub invariant-loop-j : goal.invariant-loop-j
invariant-loop-j l = Filling l.fn.head l.labels l.steps l.words 64 l.j l.side

abbrev pub invariant-loop-j-2 : goal.invariant-loop-j-2
invariant-loop-j-2 l = LinksIn l.fn.head l.labels l.steps l.words l.j l.side
