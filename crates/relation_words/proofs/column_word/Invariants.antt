-- `relation_words::column_word` meets its contract: each word that has t adds its state. Assumes nothing.
use mathlib.Core.Path.{◌≡◌}
use Rattle.relation_words.specs.Relation.{column_word}
use Rattle.relation_words.proofs.column_word.Given as goal

abbrev pub invariant-loop-s : goal.invariant-loop-s
invariant-loop-s l = l.states.0 ≡ column_word l.words l.t l.s
