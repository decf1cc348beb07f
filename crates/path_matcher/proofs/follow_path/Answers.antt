-- `path_matcher::follow_path` meets its contract: each move writes what it leads to, and what is left to write grows less. Assumes nothing.
use native.Mathlib.Omega.{arith}
use Rattle.path_matcher.specs.declared.Move.TheVariants.{Enter, Stay, Push, End}
use Rattle.path_matcher.proofs.FollowLaws.{Entering, Staying, Pushing, Ending}
use Rattle.path_matcher.proofs.FollowLaws.{going_start, going-after}
use Rattle.path_matcher.proofs.follow_path.Goals as goal
use Rattle.path_matcher.proofs.follow_path.Goals.{In-Enter, In-Stay, In-Push, In-End}

-- ---- what a move leads to, from where the loop stood

abbrev entered : (c : In-Enter) → let a = c.args in
    Entering a.view.ours.now a.view.theirs.now a.ranks.certificate.now a.ranks.run a.path.now a.start c.requires.all_met c.requires.starts_at c.loop-x.invariant.0
    c.in-Enter.x
entered c =
    let a = c.args in
    going-after a.view.ours.now a.view.theirs.now a.ranks.certificate.now a.ranks.run a.path.now a.start c.requires.all_met c.requires.starts_at c.loop-x.invariant.0
    (Enter c.in-Enter.x) c.next_move-next.ensures c.in-Enter.is

abbrev stayed : (c : In-Stay) → let a = c.args in
    Staying a.view.ours.now a.view.theirs.now a.ranks.certificate.now a.ranks.run a.path.now a.start c.requires.all_met c.requires.starts_at c.loop-x.invariant.0
stayed c =
    let a = c.args in
    going-after a.view.ours.now a.view.theirs.now a.ranks.certificate.now a.ranks.run a.path.now a.start c.requires.all_met c.requires.starts_at c.loop-x.invariant.0
    Stay c.next_move-next.ensures c.in-Stay.is

abbrev pushed : (c : In-Push) → let a = c.args in
    Pushing a.view.ours.now a.view.theirs.now a.ranks.certificate.now a.ranks.run a.path.now a.start c.requires.all_met c.requires.starts_at c.loop-x.invariant.0
    c.in-Push.x
pushed c =
    let a = c.args in
    going-after a.view.ours.now a.view.theirs.now a.ranks.certificate.now a.ranks.run a.path.now a.start c.requires.all_met c.requires.starts_at c.loop-x.invariant.0
    (Push c.in-Push.x) c.next_move-next.ensures c.in-Push.is

abbrev ended : (c : In-End) → let a = c.args in
    Ending a.view.ours.now a.view.theirs.now a.ranks.certificate.now a.ranks.run a.path.now a.start c.requires.all_met c.requires.starts_at c.loop-x.invariant.0
ended c =
    let a = c.args in
    going-after a.view.ours.now a.view.theirs.now a.ranks.certificate.now a.ranks.run a.path.now a.start c.requires.all_met c.requires.starts_at c.loop-x.invariant.0
    End c.next_move-next.ensures c.in-End.is

-- ---- the needs

pub loop-x-init : goal.loop-x-init
loop-x-init c =
    let a = c.args in (
      going_start _ _ _ _ _ _ c.requires.all_met c.requires.starts_at a.found.now a.numbers.now (omega arith) (omega arith) c.put_entry.ensures
          c.put_number.ensures,
      c.step_after-step.ensures,
    )

pub put_number-requires-in-Enter : goal.put_number-requires-in-Enter
put_number-requires-in-Enter c = (entered (goal.at.put_number-requires-in-Enter c).In-Enter).number-room

pub put_entry-requires-in-Enter : goal.put_entry-requires-in-Enter
put_entry-requires-in-Enter c = let x = entered (goal.at.put_entry-requires-in-Enter c).In-Enter in (x.small, x.entry-room)

pub step_after-step-requires-in-Enter : goal.step_after-step-requires-in-Enter
step_after-step-requires-in-Enter c = (entered (goal.at.step_after-step-requires-in-Enter c).In-Enter).more

pub loop-x-preserved-in-Enter : goal.loop-x-preserved-in-Enter
loop-x-preserved-in-Enter c = (
  (entered (goal.at.loop-x-preserved-in-Enter c).In-Enter).next c.put_number-in-Enter.ensures c.put_entry-in-Enter.ensures,
  c.step_after-step-in-Enter.ensures,
)

pub put_number-requires-in-Stay : goal.put_number-requires-in-Stay
put_number-requires-in-Stay c = (stayed (goal.at.put_number-requires-in-Stay c).In-Stay).number-room

pub step_after-step-requires-in-Stay : goal.step_after-step-requires-in-Stay
step_after-step-requires-in-Stay c = (stayed (goal.at.step_after-step-requires-in-Stay c).In-Stay).more

pub loop-x-preserved-in-Stay : goal.loop-x-preserved-in-Stay
loop-x-preserved-in-Stay c =
    ((stayed (goal.at.loop-x-preserved-in-Stay c).In-Stay).next c.put_number-in-Stay.ensures, c.step_after-step-in-Stay.ensures)

pub put_entry-requires-in-Push : goal.put_entry-requires-in-Push
put_entry-requires-in-Push c = let x = pushed (goal.at.put_entry-requires-in-Push c).In-Push in (x.small, x.entry-room)

pub loop-x-preserved : goal.loop-x-preserved
loop-x-preserved c = ((pushed (goal.at.loop-x-preserved c).In-Push).next c.put_entry-in-Push.ensures, c.loop-x.invariant.1)

pub returns-in-End : goal.returns-in-End
returns-in-End c =
    let x = ended (goal.at.returns-in-End c).In-End in
    let g = c.loop-x.invariant.0 in
    record {
      count = x.count-is;
      small = x.few;
      long = (g.found-long, g.numbers-long);
      states = x.found_all;
      blocks = x.numbers-all;
    }
