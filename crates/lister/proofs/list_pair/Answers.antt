-- `lister::list_pair` meets its contract: the lines of the left steps are put, and those of the right steps after them. Assumes nothing.
use Prim.Native.Nat.{ℕ}
use mathlib.Core.Path.{◌≡◌, refl, sym, ap, ap₂, ◌∙◌, subst}
use mathlib.Core.List.{List, [], ◌++◌, append-nil}
use borrow.Author.Tests.{not-true, not-false}
use Rattle.words.specs.Bits.{has_bit}
use Rattle.texts.specs.Wrote.{Wrote}
use Rattle.texts.proofs.TextLaws.{wrote_none}
use Rattle.lister.specs.OnSides.{steps_text, pair_text}
use Rattle.lister.proofs.PuttingLaws.{Putting, putting-start, putting-room, putting-next, putting-end}
use Rattle.lister.proofs.WalkTextLaws.{pair-none, pair-both, steps-as}
use mathlib.Core.Bool.{not}
use Rattle.lister.proofs.list_pair.Goals as goal
use Rattle.lister.proofs.list_pair.Goals.{After-of_right-right, After-list_steps-end}

-- the text has two pieces, each of the sides and ranks that are lent for it
pieces : (c : After-of_right-right) → let a = c.args in
    pair_text a.view.ours.now a.view.theirs.now a.ranks.certificate.now a.ranks.left a.ranks.right a.s a.t
    ≡ steps_text a.view.ours.now a.view.theirs.now c.of_left-left.result.certificate.now c.of_left-left.result.run
    (record { side = 0; own = a.s; other = a.t })
    ++ steps_text c.turned-turned.result.ours.now c.turned-turned.result.theirs.now c.of_right-right.result.certificate.now c.of_right-right.result.run
    (record { side = 1; own = a.t; other = a.s })
pieces c =
    let a = c.args in
    let related = c.has.ensures ∙ ap (λ (w : ℕ). has_bit w a.t) c.related-states_of.ensures.value in
    let t = c.turned-turned.ensures in
    let l = c.of_left-left.ensures in
    let r = c.of_right-right.ensures in
    pair-both a.view.ours.now a.view.theirs.now a.ranks.certificate.now a.ranks.left a.ranks.right a.s a.t related (not-false _ (ap not c.if-not-has.false))
    ∙ sym (ap₂ ◌++◌ (steps-as _ _ _ _ _ refl refl l.certificate l.run) (steps-as _ _ _ _ _ t.ours t.theirs r.certificate r.run))

-- the left steps' lines are put, and the right steps' are left
left-put : (c : After-list_steps-end) {right : List ℕ} → let a = c.args in
    pair_text a.view.ours.now a.view.theirs.now a.ranks.certificate.now a.ranks.left a.ranks.right a.s a.t
    ≡ steps_text a.view.ours.now a.view.theirs.now c.of_left-left.result.certificate.now c.of_left-left.result.run
    (record { side = 0; own = a.s; other = a.t })
    ++ right
    → Putting (pair_text a.view.ours.now a.view.theirs.now a.ranks.certificate.now a.ranks.left a.ranks.right a.s a.t) a.at a.output.now
    right c.list_steps-end.result c.list_steps-end.new.output
left-put c both =
    let a = c.args in
    putting-next _ a.at a.output.now (putting-start _ a.at a.output.now refl refl) _ _ both 126
    c.requires c.list_steps-end.ensures

pub returns-then-not-has : goal.returns-then-not-has
returns-then-not-has c =
    let a = c.args in
    let related = c.has.ensures ∙ ap (λ (w : ℕ). has_bit w a.t) c.related-states_of.ensures.value in
    subst (λ (text : List ℕ). Wrote text a.at a.at a.output.now a.output.now)
    (sym
    (pair-none a.view.ours.now a.view.theirs.now a.ranks.certificate.now a.ranks.left a.ranks.right a.s a.t related
    (not-true _ (ap not c.if-not-has.true))))
    (wrote_none a.at a.output.now)

pub list_steps-end-requires : goal.list_steps-end-requires
list_steps-end-requires c =
    let a = c.args in
    putting-room _ a.at a.output.now (putting-start _ a.at a.output.now refl refl) _ _ (pieces (goal.at.list_steps-end-requires c).After-of_right-right) 126
    c.requires

pub list_steps-requires : goal.list_steps-requires
list_steps-requires c =
    let a = c.args in
    let both = pieces (goal.at.list_steps-requires c).After-of_right-right in
    putting-room _ a.at a.output.now (left-put (goal.at.list_steps-requires c).After-list_steps-end both) _ [] (sym (append-nil _)) 126
    c.requires

pub returns : goal.returns
returns c =
    let a = c.args in
    let both = pieces (goal.at.returns c).After-of_right-right in
    putting-end _ a.at a.output.now
    (putting-next _ a.at a.output.now (left-put (goal.at.returns c).After-list_steps-end both) _ [] (sym (append-nil _)) 126
    c.requires c.list_steps.ensures) refl
