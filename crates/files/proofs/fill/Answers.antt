-- `files::fill` meets its contract, by the tests that led to each return. Assumes nothing.
use mathlib.Core.Path.{sym, ◌∙◌}
use native.Mathlib.Omega.{arith}
use Rattle.files.proofs.WriterLaws.{written-unfit, written-short, written-front}
use Rattle.files.proofs.fill.Goals as goal
use Rattle.files.proofs.fill.Goals.{then-relation-from-via-then-relation-from, then-relation-from-via-else-relation-from+then-output-length}

pub returns-then-relation-from : goal.returns-then-relation-from
returns-then-relation-from c =
    elim c.then-relation-from.branch [
      | then-relation-from-via-then-relation-from w ↦ sym (written-unfit _ _ _ _ (rw c.from.ensures at w.if-relation-from.true))
      | then-relation-from-via-else-relation-from+then-output-length w ↦ sym (written-short _ _ _ _ (rw w.length.ensures at w.if-output-length.true))
    ]

pub returns : goal.returns
returns c = c.write_parts.ensures ∙ sym (written-front _ _ _ _ (omega arith))
