-- `relation_words::row_word` meets its contract: the two cases of the test. Assumes nothing.
use mathlib.Core.Path.{sym, ◌∙◌}
use borrow.Author.Tests.{lt-ltb, le-ltb}
use Rattle.relation_words.specs.Relation.{row_word}
use Rattle.relation_words.proofs.row_word.Goals as goal

pub returns-then-s-n1 : goal.returns-then-s-n1
unfolding row_word
returns-then-s-n1 c = c.row.ensures ∙ sym (rw (lt-ltb _ _ c.if-s-n1.true))

pub returns-else-s-n1 : goal.returns-else-s-n1
unfolding row_word
returns-else-s-n1 c = c.empty.ensures ∙ sym (rw (le-ltb _ _ c.if-s-n1.false))
