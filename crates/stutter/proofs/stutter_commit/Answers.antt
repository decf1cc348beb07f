-- `stutter::stutter_commit` meets its contract: where there is room for both it commits, and then puts the numbers of its answer. Assumes nothing.
use mathlib.Core.Path.{sym, ap, ◌∙◌}
use Rattle.answers.specs.declared.Answer.{Answer}
use Rattle.ranking.specs.Enquire.{commit_answer}
use Rattle.stutter.specs.Interface.{answered, slip_in, where_both}
use Rattle.stutter.proofs.InterfaceLaws.{answer-room, slip-room}
use Rattle.stutter.proofs.stutter_commit.Goals as goal

pub slip_in-requires : goal.slip_in-requires
slip_in-requires c = slip-room _ _ (sym c.have_room.ensures ∙ c.if-not-have_room.false)

pub returns : goal.returns
unfolding where_both
returns c =
    let a = c.args in
    let room = sym c.have_room.ensures ∙ c.if-not-have_room.false in
    let slip = c.slip_in.ensures in
    let done = c.commit-numbers.ensures in
    let put = c.put_numbers.ensures in
    let answer = commit_answer a.left.now a.right.now a.relation.now (slip_in a.slip.now) a.output.now in
    record { room = put.room ∙ answer-room _ _ room ∙ sym room; put = simp room (put.put ∙ ap (λ (x : Answer). answered x a.answer.now) {y = answer} (rw slip at done.value)); written = simp room (rw slip at done.written) }

pub returns-then-not-have_room : goal.returns-then-not-have_room
unfolding where_both
returns-then-not-have_room c =
    let short = sym c.have_room.ensures ∙ c.if-not-have_room.true in
    record { room = sym short; put = simp short; written = simp short }
