-- `path_matcher::follow_accepted` meets its contract: the path's side comes first, and a number that is no side is refused. Assumes nothing.
use mathlib.Core.Path.{◌∙◌}
use native.Mathlib.Omega.{arith}
use Rattle.certificates.specs.CertificateModel.{AreBytes}
use Rattle.path_matcher.proofs.AcceptedLaws.{no-side, left-met, left-followed, right-met, right-followed}
use Rattle.path_matcher.proofs.follow_accepted.Goals as goal
use Rattle.path_matcher.proofs.follow_accepted.Goals.{After-sides_of-sides}

bytes : (c : After-sides_of-sides) → AreBytes c.args.certificate.now
bytes c = λ i. omega (arith, c.type_inv.certificate i)

pub follow_sides-requires : goal.follow_sides-requires
follow_sides-requires c =
    rw (c.of_left.ensures.certificate, c.of-ranks.ensures.certificate)
    (left-met _ _ _ c.requires (bytes (goal.at.follow_sides-requires c).After-sides_of-sides) c.sides_of-sides.ensures
    (c.of_left.ensures.run ∙ c.of-ranks.ensures.left))

pub returns-then-side-eq0 : goal.returns-then-side-eq0
returns-then-side-eq0 c =
    let e = rw (c.of_left.ensures.certificate, c.of-ranks.ensures.certificate) at c.follow_sides.ensures in
    let x = left-followed _ _ _ c.requires (bytes (goal.at.returns-then-side-eq0 c).After-sides_of-sides) c.sides_of-sides.ensures
    (c.of_left.ensures.run ∙ c.of-ranks.ensures.left)
    c.args.start c.args.path.now c.args.states.now c.args.blocks.now c.if-side-eq0.true (e.value, (e.states, e.blocks)) in
    record { value = x.0; states = x.1.0; blocks = x.1.1 }

pub follow_sides-requires-then-side-eq1 : goal.follow_sides-requires-then-side-eq1
follow_sides-requires-then-side-eq1 c =
    rw (c.turned.ensures.ours, c.turned.ensures.theirs, c.of_right.ensures.certificate, c.of-ranks.ensures.certificate)
    (right-met _ _ _ c.requires (bytes (goal.at.follow_sides-requires-then-side-eq1 c).After-sides_of-sides) c.sides_of-sides.ensures
    (c.of_right.ensures.run ∙ c.of-ranks.ensures.right))

pub returns-then-side-eq1 : goal.returns-then-side-eq1
returns-then-side-eq1 c =
    let e = rw (c.turned.ensures.ours, c.turned.ensures.theirs, c.of_right.ensures.certificate, c.of-ranks.ensures.certificate)
    at c.follow_sides-then-side-eq1.ensures in
    let x = right-followed _ _ _ c.requires (bytes (goal.at.returns-then-side-eq1 c).After-sides_of-sides) c.sides_of-sides.ensures
    (c.of_right.ensures.run ∙ c.of-ranks.ensures.right)
    c.args.start c.args.path.now c.args.states.now c.args.blocks.now c.if-side-eq1.true (e.value, (e.states, e.blocks)) in
    record { value = x.0; states = x.1.0; blocks = x.1.1 }

pub returns : goal.returns
returns c =
    let x = no-side _ _ _ c.requires c.args.start c.args.path.now c.args.states.now c.args.blocks.now c.if-side-eq0.false c.if-side-eq1.false
    c.refusal.ensures in
    record { value = x.0; states = x.1.0; blocks = x.1.1 }
