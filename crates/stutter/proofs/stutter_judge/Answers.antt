-- `stutter::stutter_judge` meets its contract: it puts the numbers of the judge's answer. Assumes nothing.
use mathlib.Core.Path.{ap, ◌∙◌}
use Rattle.answers.specs.declared.Answer.{Answer}
use Rattle.stutter.specs.Interface.{answered}
use Rattle.stutter.proofs.stutter_judge.Goals as goal

pub returns : goal.returns
returns c =
    let put = c.put_numbers.ensures in
    let places = c.args.answer.now in
    record { room = put.room; put = put.put ∙ ap (λ (x : Answer). answered x places) c.judge-numbers.ensures }
