-- `path_matcher::follow_path` meets its contract: each move writes what it leads to, and what is left to write grows less. Assumes nothing.
use Prim.Native.Nat.{◌+◌, ◌-◌}
use mathlib.Core.Path.{◌≡◌}
use lib.ListN.{length}
use Rattle.lists.specs.Below.{some_below}
use Rattle.lists.specs.Numbers.{byte_at}
use Rattle.path_matcher.specs.OnSides.{step_between, matched_in}
use Rattle.path_matcher.proofs.FollowLaws.{Going}
use Rattle.path_matcher.proofs.follow_path.Given as goal

abbrev pub invariant-loop-x : goal.invariant-loop-x
invariant-loop-x l =
    Going l.view.ours.now l.view.theirs.now l.ranks.certificate.now l.ranks.run l.path l.start l.matching l.blocks l.place l.state l.block l.count
    × (l.step ≡ some_below 256 (step_between l.view.ours.now (byte_at l.path l.place) (byte_at l.path (l.place + 1))))

abbrev pub decreases-loop-x : goal.decreases-loop-x
decreases-loop-x l =
    length l.path + length (matched_in l.view.ours.now l.view.theirs.now l.ranks.certificate.now l.ranks.run l.path l.start) - (l.place + l.count)
