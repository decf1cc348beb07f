-- `relation_words::column_words` meets its contract: each turn stores one column. Assumes nothing.
use Rattle.lists.proofs.FillLaws.{Filled}
use Rattle.relation_words.specs.Relation.{column_word}
use Rattle.relation_words.proofs.column_words.Given as goal

abbrev pub invariant-loop-t : goal.invariant-loop-t
invariant-loop-t l = Filled l.t (λ u. column_word l.words u 64) l.initial.column-items l.column-items
