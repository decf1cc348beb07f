-- `lister::list_all` meets its contract: the left states are met in rising order. Assumes nothing.
use Rattle.lists.proofs.JoinLaws.{join_from}
use Rattle.sides.specs.Side.{system_in}
use Rattle.lister.specs.OnSides.{row_text, all_text}
use Rattle.lister.proofs.PuttingLaws.{Putting}
use Rattle.lister.proofs.list_all.Given as goal

abbrev pub invariant-loop-s : goal.invariant-loop-s
invariant-loop-s l =
    Putting (all_text l.view.ours.now l.view.theirs.now l.ranks.certificate.now l.ranks.left l.ranks.right) l.at l.initial.output
    (join_from l.s (system_in l.view.ours.now).states (row_text l.view.ours.now l.view.theirs.now l.ranks.certificate.now l.ranks.left l.ranks.right)) l.end l.output
