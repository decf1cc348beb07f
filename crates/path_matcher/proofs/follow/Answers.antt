-- `path_matcher::follow` meets its contract: it judges first, so on a refusal nothing is followed. Assumes nothing.
use mathlib.Core.Path.{sym, ap, ◌∙◌}
use Rattle.answers.specs.declared.Answer.{Answer}
use Rattle.path_matcher.proofs.AcceptedLaws.{judge-refused}
use Rattle.path_matcher.proofs.follow.Goals as goal

pub returns-then-answer-ne0 : goal.returns-then-answer-ne0
returns-then-answer-ne0 c =
    let x = judge-refused _ _ _ c.args.side c.args.start c.args.path.now c.args.states.now c.args.blocks.now c.judge_known-answer.ensures c.if-answer-ne0.true in
    record { value = x.0; states = x.1.0; blocks = x.1.1 }

pub follow_accepted-requires : goal.follow_accepted-requires
follow_accepted-requires c =
    ap (λ (a : Answer). a.code) (sym c.judge_known-answer.ensures) ∙ c.if-answer-ne0.false
