-- `judge::print_answer` keeps to the rules of the language: the line has room for any six numbers. Assumes nothing.
use Rattle.std.proofs.Common.{sym, arith}
use lib.Seq.{length-take-le}
use Rattle.texts.proofs.TextLaws.{answer-fits}
use Rattle.judge.proofs.print_answer.Goals as goal

pub slice_bounds-line-end : goal.slice_bounds-line-end
slice_bounds-line-end c = answer-fits _ (omega arith) c.put_answer-end.ensures

pub slice_bounds-write_all-end : goal.slice_bounds-write_all-end
slice_bounds-write_all-end c = sym (length-take-le _ _ (answer-fits _ (omega arith) c.put_answer-end.ensures))
