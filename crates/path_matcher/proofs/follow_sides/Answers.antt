-- `path_matcher::follow_sides` meets its contract: test after test, and only then both outputs are written. Assumes nothing.
use Prim.Native.Nat.{ℕ, ◌*◌, ◌≤◌}
use mathlib.Core.Path.{◌≡◌, sym, ap, ◌∙◌, subst}
use mathlib.Core.Bool.{false}
use mathlib.Core.List.{List, flat_map}
use lib.ListN.{length}
use Rattle.lists.specs.Lists.{put_front}
use Rattle.lists.proofs.FillLaws.{part-front}
use Rattle.bisimulation.specs.PathMatching.{Entry}
use Rattle.answers.specs.Numbers.{six_numbers}
use Rattle.sides.specs.Side.{system_in}
use Rattle.sides.specs.Views.{view_in}
use Rattle.path_matcher.specs.Following.{entry_bytes, block_bytes, wrong_path, wrong_start}
use Rattle.path_matcher.specs.OnSides.{given_in, matched_in}
use Rattle.path_matcher.proofs.FollowSidesLaws.{answered-refusal, answered-success, verdict-25, verdict-26, verdict-27, verdict-on, start-wrong, start_right, starts-at, states-short, blocks-short, room-enough}
use Rattle.path_matcher.proofs.follow_sides.Goals as goal
use Rattle.path_matcher.proofs.follow_sides.Goals.{After-follow_path-count}

-- ---- what is known when the path is followed

right-path : (c : After-follow_path-count) → wrong_path 0 (system_in c.args.view.ours.now) c.args.path.now ≡ false
right-path c = sym c.is_no_path.ensures ∙ c.if-is_no_path.false

right-start : (c : After-follow_path-count) → wrong_start (view_in c.args.view.ours.now c.args.view.theirs.now) c.args.path.now c.args.start ≡ false
right-start c =
    start_right c.requires c.args.path.now c.args.start c.byte.ensures.value c.related-starts.ensures.value c.has.ensures c.if-not-has.false

abbrev matched : After-follow_path-count → List Entry
matched c = let a = c.args in matched_in a.view.ours.now a.view.theirs.now a.ranks.certificate.now a.ranks.run a.path.now a.start

abbrev given : After-follow_path-count → List Entry
given c = let a = c.args in given_in a.view.ours.now a.view.theirs.now a.ranks.certificate.now a.ranks.run a.path.now a.start

-- how many states match
counted : (c : After-follow_path-count) → c.follow_path-count.result ≡ length (matched c)
counted c = c.follow_path-count.ensures.count

-- ---- the needs

pub returns-then-is_no_path : goal.returns-then-is_no_path
returns-then-is_no_path c =
    let a = c.args in
    let x = answered-refusal _ _ a.states.now a.blocks.now (verdict-25 _ _ a.start _ _ _ (sym c.is_no_path.ensures ∙ c.if-is_no_path.true)) c.refusal.ensures in
    record { value = x.0; states = x.1.0; blocks = x.1.1 }

pub returns-then-not-has : goal.returns-then-not-has
returns-then-not-has c =
    let a = c.args in
    let wrong = start-wrong c.requires a.path.now a.start c.byte.ensures.value c.related-starts.ensures.value c.has.ensures c.if-not-has.true in
    let x = answered-refusal _ _ a.states.now a.blocks.now (verdict-26 _ _ _ _ _ _ (sym c.is_no_path.ensures ∙ c.if-is_no_path.false) wrong)
    c.refusal-then-not-has.ensures in
    record { value = x.0; states = x.1.0; blocks = x.1.1 }

pub follow_path-count-requires-clause-starts_at : goal.follow_path-count-requires-clause-starts_at
follow_path-count-requires-clause-starts_at c =
    starts-at c.requires c.args.path.now c.args.start c.byte.ensures.value c.related-starts.ensures.value c.has.ensures c.if-not-has.false
    (sym c.is_no_path.ensures ∙ c.if-is_no_path.false)

pub returns-then-states-count : goal.returns-then-states-count
returns-then-states-count c =
    let a = c.args in
    let f = (goal.at.returns-then-states-count c).After-follow_path-count in
    let short = states-short _ (length a.path.now) a.states.now a.blocks.now (rw (counted f) at c.if-states-count.true) in
    let x = answered-refusal _ _ a.states.now a.blocks.now (verdict-27 _ _ _ _ _ _ (right-path f) (right-start f) short)
    c.refusal-then-states-count.ensures in
    record { value = x.0; states = x.1.0; blocks = x.1.1 }

pub returns-then-blocks-path : goal.returns-then-blocks-path
returns-then-blocks-path c =
    let a = c.args in
    let f = (goal.at.returns-then-blocks-path c).After-follow_path-count in
    let short = blocks-short (length (matched f)) (length a.path.now) a.states.now a.blocks.now c.if-blocks-path.true in
    let x = answered-refusal _ _ a.states.now a.blocks.now (verdict-27 _ _ _ _ _ _ (right-path f) (right-start f) short)
    c.refusal-then-blocks-path.ensures in
    record { value = x.0; states = x.1.0; blocks = x.1.1 }

pub returns : goal.returns
returns c =
    let a = c.args in
    let f = (goal.at.returns c).After-follow_path-count in
    let l = c.follow_path-count in
    let few : 3 * length (matched f) ≤ length a.states.now = subst (λ (x : ℕ). 3 * x ≤ length a.states.now) (counted f) c.if-states-count.false in
    let room = room-enough _ _ _ _ few c.if-blocks-path.false in
    let states : c.put_front.new.output ≡ put_front (flat_map entry_bytes (matched f)) a.states.now =
    c.put_front.ensures
    ∙ ap (λ (x : List ℕ). put_front x a.states.now) (c.part_of.ensures ∙ part-front l.new.found (3 * l.result) ∙ l.ensures.states) in
    let blocks : c.put_front-2.new.output ≡ put_front (flat_map block_bytes (given f)) a.blocks.now =
    c.put_front-2.ensures
    ∙ ap (λ (x : List ℕ). put_front x a.blocks.now) (c.part_of-2.ensures ∙ part-front l.new.numbers (2 * length a.path.now) ∙ l.ensures.blocks) in
    let x = answered-success _ _ _ _ (verdict-on _ _ _ _ _ _ (right-path f) (right-start f) room) (ap (six_numbers 0 0) (counted f)) states blocks in
    record { value = x.0; states = x.1.0; blocks = x.1.1 }
