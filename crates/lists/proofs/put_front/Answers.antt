-- `lists::put_front` meets its contract: the front is written byte after byte. Assumes nothing.
use mathlib.Core.Path.{refl, sym}
use native.Mathlib.Omega.{arith}
use Rattle.lists.proofs.FillLaws.{filled_none, filled_more, filled_put, put-front-short}
use Rattle.lists.proofs.put_front.Goals as goal

pub loop-i-init : goal.loop-i-init
loop-i-init c = filled_none _ _

pub loop-i-preserved : goal.loop-i-preserved
loop-i-preserved c = filled_more c.loop-i.invariant (omega arith) refl

pub returns-after-loop-i : goal.returns-after-loop-i
returns-after-loop-i c = filled_put _ c.loop-i.invariant (omega arith)

pub returns-else-front-output : goal.returns-else-front-output
returns-else-front-output c = sym (put-front-short _ _ (omega arith))
