-- `relation_words::row_words` meets its contract: each turn stores one row. Assumes nothing.
use Rattle.lists.proofs.FillLaws.{Filled}
use Rattle.relation_words.specs.Relation.{row_word}
use Rattle.relation_words.proofs.row_words.Given as goal

abbrev pub invariant-loop-s : goal.invariant-loop-s
invariant-loop-s l = Filled l.s (row_word l.rows l.n1) l.initial.word-items l.word-items
