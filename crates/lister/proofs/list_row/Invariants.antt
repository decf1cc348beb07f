-- `lister::list_row` meets its contract: the right states are met in rising order. Assumes nothing.
use Rattle.lists.proofs.JoinLaws.{join_from}
use Rattle.sides.specs.Side.{system_in}
use Rattle.lister.specs.OnSides.{pair_text, row_text}
use Rattle.lister.proofs.PuttingLaws.{Putting}
use Rattle.lister.proofs.list_row.Given as goal

abbrev pub invariant-loop-t : goal.invariant-loop-t
invariant-loop-t l =
    Putting (row_text l.view.ours.now l.view.theirs.now l.ranks.certificate.now l.ranks.left l.ranks.right l.s) l.at l.initial.output
    (join_from l.t (system_in l.view.theirs.now).states (pair_text l.view.ours.now l.view.theirs.now l.ranks.certificate.now l.ranks.left l.ranks.right l.s)) l.end l.output
