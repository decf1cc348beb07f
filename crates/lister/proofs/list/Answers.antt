-- `lister::list` meets its contract: it judges first, so on a refusal no line is put. Assumes nothing.
use mathlib.Core.Path.{sym, ap, ◌∙◌}
use native.Mathlib.Omega.{arith}
use borrow.Author.Rules.{rules}
use Rattle.answers.specs.declared.Answer.{Answer}
use Rattle.texts.proofs.TextLaws.{answer-fits}
use Rattle.lister.proofs.AcceptedLaws.{refusal-text}
use Rattle.lister.proofs.list.Goals as goal

pub returns-then-answer-ne0 : goal.returns-then-answer-ne0
returns-then-answer-ne0 c =
    let a = c.args in
    record {
      fits = answer-fits _ (omega arith) c.put_answer.ensures;
      text = refusal-text a.left.now a.right.now a.certificate.now c.judge-answer.ensures c.if-answer-ne0.true (omega arith) c.put_answer.ensures;
    }

pub list_accepted-requires : goal.list_accepted-requires
list_accepted-requires c =
    record {
      certificate_value = ap (λ (a : Answer). a.code) (sym c.judge-answer.ensures) ∙ c.if-answer-ne0.false;
      output_len = search rules;
    }
