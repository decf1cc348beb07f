-- `checker::judge_known` meets its contract: the three files are read, and the first refusal answers. Assumes nothing.
use mathlib.Core.Path.{sym, ◌∙◌}
use Rattle.checker.proofs.JudgeLaws.{files-refused, files-read}
use Rattle.checker.proofs.judge_known.Goals as goal

pub judge_read-requires : goal.judge_read-requires
judge_read-requires c = (files-read _ _ _ _ (sym c.read.ensures ∙ c.in-Ok.is)).0

pub returns-in-Ok : goal.returns-in-Ok
returns-in-Ok c = c.judge_read.ensures ∙ sym (files-read _ _ _ _ (sym c.read.ensures ∙ c.in-Ok.is)).1

pub returns-in-Err : goal.returns-in-Err
returns-in-Err c = sym (files-refused _ _ _ _ (sym c.read.ensures ∙ c.in-Err.is))
