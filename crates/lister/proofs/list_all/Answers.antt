-- `lister::list_all` meets its contract: the left states are met in rising order. Assumes nothing.
use Prim.Native.Nat.{◌+◌}
use mathlib.Core.Path.{refl}
use native.Mathlib.Omega.{arith}
use Rattle.lists.proofs.JoinLaws.{join_from}
use Rattle.sides.specs.Side.{system_in}
use Rattle.lister.specs.OnSides.{row_text, all_text}
use Rattle.lister.proofs.PuttingLaws.{putting-start, putting-room, putting-next, putting-end}
use Rattle.lister.proofs.WalkTextLaws.{states-start, states-next, states-end}
use Rattle.lister.proofs.list_all.Goals as goal

pub loop-s-init : goal.loop-s-init
unfolding all_text
loop-s-init c = let a = c.args in putting-start _ a.at a.output.now refl (states-start _ _)

pub list_row-end-requires : goal.list_row-end-requires
list_row-end-requires c =
    let a = c.args in
    let l = c.loop-s in
    let text = row_text a.view.ours.now a.view.theirs.now a.ranks.certificate.now a.ranks.left a.ranks.right in
    let n = (system_in a.view.ours.now).states in
    putting-room _ a.at a.output.now l.invariant (text l.s) (join_from (l.s + 1) n text) (states-next n text l.s (omega arith)) 126
    c.requires

pub loop-s-preserved : goal.loop-s-preserved
loop-s-preserved c =
    let a = c.args in
    let l = c.loop-s in
    let text = row_text a.view.ours.now a.view.theirs.now a.ranks.certificate.now a.ranks.left a.ranks.right in
    putting-next _ a.at a.output.now l.invariant _ _ (states-next (system_in a.view.ours.now).states text l.s (omega arith)) 126
    c.requires c.list_row-end.ensures

pub returns : goal.returns
returns c =
    let a = c.args in
    let l = c.loop-s in
    putting-end _ _ _ l.invariant
    (states-end (system_in a.view.ours.now).states (row_text a.view.ours.now a.view.theirs.now a.ranks.certificate.now a.ranks.left a.ranks.right) l.s (omega arith))
