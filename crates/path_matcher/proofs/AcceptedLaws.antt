-- Where the judge accepts, what is read off the two sides is what the bytes give: every obligation is met, and the verdict and both outputs are those of
-- the definition. The key idea: the ranks of the path's side alone tell. Assumes nothing.
use Rattle.std.specs.Prelude.{Ok, Err}
use Prim.Native.Nat.{ℕ}
use mathlib.Core.Path.{◌≡◌, refl, sym, ap, ◌∙◌, subst}
use mathlib.Core.Logic.{inl}
use mathlib.Core.Bool.{true}
use mathlib.Core.List.{List, flat_map}
use lib.ListN.{drop}
use Rattle.lists.specs.Numbers.{byte_at}
use Rattle.bisimulation.specs.Clauses.{Meets, EveryObligation}
use Rattle.bisimulation.specs.PathMatching.{numbered_from, given_entries, matching_entries}
use Rattle.bisimulation.specs.StepPaths.{Cut, state_blocks}
use Rattle.bisimulation.specs.Systems.{View, Ranks, WellFormed, flip, swap}
use Rattle.bisimulation.proofs.ClauseLaws.{flip-formed}
use Rattle.bisimulation.proofs.PathMatchingLaws.{same-followed}
use Rattle.answers.specs.Numbers.{six_numbers}
use Rattle.answers.specs.Verdicts.{Verdict, ◌and_then◌}
use Rattle.answers.specs.declared.Answer.{Answer}
use Rattle.answers.proofs.DecideLaws.{decides-true}
use Rattle.answers.proofs.VerdictLaws.{none-on}
use Rattle.table_reader.specs.declared.Known.TheVariants.{Plain}
use Rattle.certificates.specs.Layout.{sizes_of}
use Rattle.certificates.specs.CertificateModel.{AreBytes, ranks_of, certified_view, certified_ranks}
use Rattle.certified_sides.specs.declared.Sides.{Sides}
use Rattle.certified_sides.specs.Made.{CertifiedSides}
use Rattle.sides.specs.declared.Side.{Side}
use Rattle.sides.specs.Built.{PlainSide}
use Rattle.sides.specs.Views.{view_in}
use Rattle.obligations.specs.declared.Run.{Run}
use Rattle.obligations.specs.OnSides.{left_run, right_run}
use Rattle.checker.specs.Judge.{judge_verdict, answer_after, judge_known}
use Rattle.sweeps.specs.declared.Tally.{Tally}
use Rattle.checker.proofs.JudgeCauseLaws.{judge-decided, zero-none}
use Rattle.checker.proofs.AcceptedSidesLaws.{accepted-met, accepted-sizes, accepted-sides, accepted-plain}
use Rattle.path_matcher.specs.Following.{
  given_along,
  matched_along,
  entry_bytes,
  block_bytes,
  wrong_path,
  match_verdict,
  followed_view,
  followed_ranks,
  follow_verdict,
  follow_answer,
  follow_states,
  follow_blocks,
}
use Rattle.path_matcher.specs.OnSides.{ranks_in, AllMet, given_in, matched_in, verdict_in}
use Rattle.path_matcher.proofs.FollowCauseLaws.{path-decides}
use Rattle.path_matcher.proofs.FollowSidesLaws.{Answered, answered-refusal}

-- ---- the ranks of the path's side alone tell

module _ (v : View) (A C A' C' A'' C'' : ℕ → ℕ → ℕ) (path : List ℕ) (start : ℕ) where
  abbrev q : Ranks
  q = record { stutter = A; match = C; stutter' = A'; match' = C' }

  abbrev r : Ranks
  r = record { stutter = A; match = C; stutter' = A''; match' = C'' }

  given-own : given_along v q path start ≡ given_along v r path start
  unfolding given_entries
  given-own =
      ap (λ (x : Cut). numbered_from 0 (state_blocks v.own (byte_at path 0) x.first x.later))
      (same-followed v A C A' C' A'' C'' (byte_at path 0) (drop 1 path) start)

  matched-own : matched_along v q path start ≡ matched_along v r path start
  unfolding matching_entries
  matched-own =
      ap (λ (x : Cut). numbered_from 0 (state_blocks v.other start x.first' x.later'))
      (same-followed v A C A' C' A'' C'' (byte_at path 0) (drop 1 path) start)

  verdict-own : (side : ℕ) (states blocks : List ℕ) → match_verdict v q side start path states blocks ≡ match_verdict v r side start path states blocks
  unfolding match_verdict
  verdict-own side states blocks = rw matched-own

  -- what was answered with the one is answered with the other
  answered-own : (side : ℕ) (states blocks : List ℕ) {answer : Answer} {states' blocks' : List ℕ}
      → Answered (match_verdict v q side start path states blocks) (flat_map entry_bytes (matched_along v q path start))
      (flat_map block_bytes (given_along v q path start)) states blocks answer states' blocks'
      → Answered (match_verdict v r side start path states blocks) (flat_map entry_bytes (matched_along v r path start))
      (flat_map block_bytes (given_along v r path start)) states blocks answer states' blocks'
  answered-own side states blocks p = rw (verdict-own side states blocks, matched-own, given-own) at p

-- side 1 passes the test of the side's number as side 0 does
one-as-zero : (v : View) (r : Ranks) (start : ℕ) (path states blocks : List ℕ)
    → match_verdict v r 0 start path states blocks ≡ match_verdict v r 1 start path states blocks
unfolding match_verdict wrong_path
one-as-zero v r start path states blocks = refl

module _ (left right c : List ℕ) where
  -- The answer and both outputs are the definition's.
  abbrev pub Followed : (side start : ℕ) → (path states blocks : List ℕ) → Answer → (states' blocks' : List ℕ) → Type 0
  Followed side start path states blocks answer states' blocks' =
      (answer ≡ follow_answer left right c side start path states blocks)
      × ((states' ≡ follow_states left right c side start path states blocks) × (blocks' ≡ follow_blocks left right c side start path states blocks))

  -- ---- on bytes that the judge refuses

  pub judge-refused : (side start : ℕ) (path states blocks : List ℕ) {answer : Answer} → answer ≡ judge_known Plain left right c → ¬ (answer.code ≡ 0)
      → Followed side start path states blocks answer states blocks
  unfolding follow_answer follow_states follow_blocks follow_verdict judge_known
  judge-refused side start path states blocks {answer} e n = go (judge_verdict Plain left right c) e
    where
      go : (x : Verdict Tally) → answer ≡ answer_after left right c x
          → Answered (x and_then λ t. match_verdict (followed_view left right c side) (followed_ranks left right c side) side start path states blocks)
          (flat_map entry_bytes (matched_along (followed_view left right c side) (followed_ranks left right c side) path start))
          (flat_map block_bytes (given_along (followed_view left right c side) (followed_ranks left right c side) path start)) states blocks answer states blocks
      go (Ok x) e = absurd (n (ap (λ (a : Answer). a.code) e))
      go (Err a) e = (e, (refl, refl))

-- ---- on bytes that the judge accepts

-- two sides, from either, where all obligations are met of the view that they hold
met-on : (c : List ℕ) {ours theirs : Side} {run : Run} (v : View) (r' : Ranks)
    → PlainSide ours → PlainSide theirs → view_in ours theirs ≡ v → WellFormed v
    → EveryObligation Meets v (ranks_in c run) → EveryObligation Meets (flip v) r' → AllMet ours theirs c run
met-on c {run = run} v r' a b e w D D' =
    record {
      plain = a;
      plain' = b;
      formed = subst WellFormed (sym e) w;
      met = subst (λ (x : View). EveryObligation Meets x (ranks_in c run)) (sym e) D;
      ranks' = r';
      met' = subst (λ (x : View). EveryObligation Meets (flip x) r') (sym e) D';
    }

module _ (left right c : List ℕ) (zero : (judge_known Plain left right c).code ≡ 0) where
  -- the judge goes on
  after-judge : (side start : ℕ) (path states blocks : List ℕ)
      → follow_verdict left right c side start path states blocks
      ≡ match_verdict (followed_view left right c side) (followed_ranks left right c side) side start path states blocks
  unfolding follow_verdict
  after-judge side start path states blocks =
      let x = none-on (judge_verdict Plain left right c) (judge-decided Plain left right c) (zero-none Plain left right c zero) in
      rw x.1

  followed-as : (side start : ℕ) (path states blocks : List ℕ) {answer : Answer} {states' blocks' : List ℕ}
      → Answered (match_verdict (followed_view left right c side) (followed_ranks left right c side) side start path states blocks)
      (flat_map entry_bytes (matched_along (followed_view left right c side) (followed_ranks left right c side) path start))
      (flat_map block_bytes (given_along (followed_view left right c side) (followed_ranks left right c side) path start)) states blocks answer states' blocks'
      → Followed left right c side start path states blocks answer states' blocks'
  unfolding follow_answer follow_states follow_blocks
  followed-as side start path states blocks p = rw (after-judge side start path states blocks) p

  -- a side's number that is none
  pub no-side : {side : ℕ} (start : ℕ) (path states blocks : List ℕ) {answer : Answer} → ¬ (side ≡ 0) → ¬ (side ≡ 1)
      → answer ≡ six_numbers 25 4 0
      → Followed left right c side start path states blocks answer states blocks
  unfolding match_verdict
  no-side {side} start path states blocks n m e =
      let v = followed_view left right c side in
      let w : wrong_path side v.own path ≡ true = decides-true (path-decides side v.own path) (inl (n, m)) in
      let x : match_verdict v (followed_ranks left right c side) side start path states blocks ≡ Err (six_numbers 25 4 0) = rw w in
      followed-as side start path states blocks (answered-refusal _ _ states blocks x e)

  module _ (bytes : AreBytes c) {s : Sides} (certified : CertifiedSides left right c s) where
    left-view : view_in s.ours s.theirs ≡ certified_view left right c
    left-view = (accepted-sides Plain left right c zero certified bytes).here

    right-view : view_in s.theirs s.ours ≡ flip (certified_view left right c)
    right-view = (accepted-sides Plain left right c zero certified bytes).holding.turned ∙ ap flip left-view

    -- a path of the left table
    module _ {run : Run} (e : run ≡ left_run s.sizes) where
      left-run : run ≡ left_run (sizes_of left right)
      left-run = e ∙ ap left_run (accepted-sizes Plain left right c zero certified)

      pub left-met : AllMet s.ours s.theirs c run
      unfolding ranks_of
      left-met =
          let h = (accepted-sides Plain left right c zero certified bytes).holding in
          let m = accepted-met Plain left right c zero bytes in
          let p = accepted-plain left right c zero certified in
          let w = subst WellFormed left-view h.formed in
          rw left-run (met-on c (certified_view left right c) (swap (certified_ranks left right c)) p.0 p.1 left-view w m.0 m.1)

      pub left-followed : {side : ℕ} (start : ℕ) (path states blocks : List ℕ) {answer : Answer} {states' blocks' : List ℕ} → side ≡ 0
          → Answered (verdict_in s.ours s.theirs c run start path states blocks) (flat_map entry_bytes (matched_in s.ours s.theirs c run path start))
          (flat_map block_bytes (given_in s.ours s.theirs c run path start)) states blocks answer states' blocks'
          → Followed left right c side start path states blocks answer states' blocks'
      unfolding ranks_of
      left-followed start path states blocks d p =
          rw d (followed-as 0 start path states blocks
          (answered-own (certified_view left right c) _ _ _ _ _ _ path start 0 states blocks (rw (left-run, left-view) at p)))

    -- and of the right one
    module _ {run : Run} (e : run ≡ right_run s.sizes) where
      right-run : run ≡ right_run (sizes_of left right)
      right-run = e ∙ ap right_run (accepted-sizes Plain left right c zero certified)

      pub right-met : AllMet s.theirs s.ours c run
      unfolding ranks_of
      right-met =
          let h = (accepted-sides Plain left right c zero certified bytes).holding in
          let m = accepted-met Plain left right c zero bytes in
          let p = accepted-plain left right c zero certified in
          let w = flip-formed _ (subst WellFormed left-view h.formed) in
          rw right-run (met-on c (flip (certified_view left right c)) (certified_ranks left right c) p.1 p.0 right-view w m.1 m.0)

      pub right-followed : {side : ℕ} (start : ℕ) (path states blocks : List ℕ) {answer : Answer} {states' blocks' : List ℕ} → side ≡ 1
          → Answered (verdict_in s.theirs s.ours c run start path states blocks) (flat_map entry_bytes (matched_in s.theirs s.ours c run path start))
          (flat_map block_bytes (given_in s.theirs s.ours c run path start)) states blocks answer states' blocks'
          → Followed left right c side start path states blocks answer states' blocks'
      unfolding ranks_of
      right-followed start path states blocks d p =
          let x = rw (right-run, right-view, one-as-zero) at p in
          rw d (followed-as 1 start path states blocks (answered-own (flip (certified_view left right c)) _ _ _ _ _ _ path start 1 states blocks x))
