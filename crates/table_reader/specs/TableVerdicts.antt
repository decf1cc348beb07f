-- The verdict on a table, from what reading it gives. The caller says which file it is.
use Rattle.std.specs.Prelude.{ℕ, Result, Ok, Err}
use Rattle.answers.specs.Verdicts.{Verdict}
use Rattle.refusals.specs.declared.TableRefusal.{TableRefusal}
use Rattle.refusals.specs.Refusals.{table_answer}
use Rattle.tables.specs.declared.Head.{Head}

-- Go on with its header, or its refusal.
abbrev pub table_verdict : ℕ → Result Head TableRefusal → Verdict Head
table_verdict file (Ok head) = Ok head
table_verdict file (Err r) = Err (table_answer r file)
