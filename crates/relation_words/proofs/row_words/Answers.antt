-- `relation_words::row_words` meets its contract: each turn stores one row. Assumes nothing.
use mathlib.Core.Path.{sym, ◌∙◌}
use native.Mathlib.Omega.{arith}
use Rattle.lists.proofs.FillLaws.{filled_none, filled_more, filled-all}
use Rattle.relation_words.specs.Relation.{row_words}
use Rattle.relation_words.proofs.row_words.Goals as goal

pub loop-s-init : goal.loop-s-init
loop-s-init c = filled_none _ _

pub loop-s-preserved : goal.loop-s-preserved
loop-s-preserved c = filled_more c.loop-s.invariant (omega arith) (cc)

pub returns : goal.returns
unfolding row_words
returns c = let long = sym c.loop-s.invariant.len ∙ c.loop-s-test.array_long in rw long at (filled-all c.loop-s.invariant (omega arith))
