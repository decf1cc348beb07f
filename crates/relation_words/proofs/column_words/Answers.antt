-- `relation_words::column_words` meets its contract: each turn stores one column. Assumes nothing.
use mathlib.Core.Path.{sym, ◌∙◌}
use native.Mathlib.Omega.{arith}
use Rattle.lists.proofs.FillLaws.{filled_none, filled_more, filled-all}
use Rattle.relation_words.specs.Relation.{column_words}
use Rattle.relation_words.proofs.column_words.Goals as goal

pub loop-t-init : goal.loop-t-init
loop-t-init c = filled_none _ _

pub loop-t-preserved : goal.loop-t-preserved
loop-t-preserved c = filled_more c.loop-t.invariant (omega arith) (cc)

pub returns : goal.returns
unfolding column_words
returns c = let long = sym c.loop-t.invariant.len ∙ c.loop-t-test.array_long in rw long at (filled-all c.loop-t.invariant (omega arith))
