-- `lister::list_row` meets its contract: the right states are met in rising order. Assumes nothing.
use Prim.Native.Nat.{◌+◌}
use mathlib.Core.Path.{refl}
use native.Mathlib.Omega.{arith}
use Rattle.lists.proofs.JoinLaws.{join_from}
use Rattle.sides.specs.Side.{system_in}
use Rattle.lister.specs.OnSides.{pair_text, row_text}
use Rattle.lister.proofs.PuttingLaws.{putting-start, putting-room, putting-next, putting-end}
use Rattle.lister.proofs.WalkTextLaws.{states-start, states-next, states-end}
use Rattle.lister.proofs.list_row.Goals as goal

pub loop-t-init : goal.loop-t-init
unfolding row_text
loop-t-init c = let a = c.args in putting-start _ a.at a.output.now refl (states-start _ _)

pub list_pair-end-requires : goal.list_pair-end-requires
list_pair-end-requires c =
    let a = c.args in
    let l = c.loop-t in
    let text = pair_text a.view.ours.now a.view.theirs.now a.ranks.certificate.now a.ranks.left a.ranks.right a.s in
    let n = (system_in a.view.theirs.now).states in
    putting-room _ a.at a.output.now l.invariant (text l.t) (join_from (l.t + 1) n text) (states-next n text l.t (omega arith)) 126
    c.requires

pub loop-t-preserved : goal.loop-t-preserved
loop-t-preserved c =
    let a = c.args in
    let l = c.loop-t in
    putting-next _ a.at a.output.now l.invariant _ _
    (states-next (system_in a.view.theirs.now).states (pair_text a.view.ours.now a.view.theirs.now a.ranks.certificate.now a.ranks.left a.ranks.right a.s)
    l.t (omega arith)) 126 c.requires c.list_pair-end.ensures

pub returns : goal.returns
returns c =
    let a = c.args in
    let l = c.loop-t in
    putting-end _ _ _ l.invariant
    (states-end (system_in a.view.theirs.now).states (pair_text a.view.ours.now a.view.theirs.now a.ranks.certificate.now a.ranks.left a.ranks.right a.s)
    l.t (omega arith))
