-- `stutter::stutter_enquire` meets its contract: where there is room for both it enquires, and then puts the slip and the numbers. Assumes nothing.
use mathlib.Core.Path.{sym, ap, ◌∙◌}
use Rattle.ranking.specs.declared.Enquiry.{Enquiry}
use Rattle.ranking.specs.Enquire.{enquiry_for}
use Rattle.stutter.specs.Interface.{answered, where_both, slipped}
use Rattle.stutter.proofs.InterfaceLaws.{answer-room}
use Rattle.stutter.proofs.stutter_enquire.Goals as goal

pub returns : goal.returns
unfolding where_both
returns c =
    let a = c.args in
    let room = sym c.have_room.ensures ∙ c.if-not-have_room.false in
    let enquiry = enquiry_for a.left.now a.right.now a.relation.now in
    let enquired = c.enquire-enquiry.ensures in
    let slip = c.put_slip.ensures in
    let put = c.put_numbers.ensures in
    record { room = put.room ∙ answer-room _ _ room ∙ sym room; put = simp room (put.put ∙ ap (λ (x : Enquiry). answered x.answer a.answer.now) {y = enquiry} enquired); slip = simp room (slip ∙ ap (λ (x : Enquiry). slipped x.slip a.slip.now) {y = enquiry} enquired) }

pub returns-then-not-have_room : goal.returns-then-not-have_room
unfolding where_both
returns-then-not-have_room c =
    let short = sym c.have_room.ensures ∙ c.if-not-have_room.true in
    record { room = sym short; put = simp short; slip = simp short }
