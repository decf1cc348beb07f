-- Laws of the verdict on a path, test after test: what is refused and what is written after each; and what is known of a path that passes. Assumes nothing.
use Rattle.std.specs.Prelude.{Ok, Err}
use Prim.Native.Nat.{ℕ, ◌+◌, ◌*◌, ◌≤◌, ◌<◌}
use mathlib.Core.Path.{◌≡◌, refl, sym, ap, ◌∙◌}
use mathlib.Core.Logic.{inl, inr, ⊎_elim}
use mathlib.Core.Bool.{Bool, true, false}
use mathlib.Core.List.{List}
use native.Mathlib.Decide.{dec_lt}
use native.Mathlib.Omega.{arith}
use lib.Dec.{T}
use lib.ListN.{length}
use Rattle.lists.specs.Lists.{put_front}
use Rattle.lists.specs.Numbers.{byte_at}
use Rattle.lists.proofs.BoolLaws.{true-T, false-not-T}
use Rattle.bisimulation.specs.Systems.{System, View, Ranks}
use Rattle.bisimulation.specs.PathProperty.{IsPath}
use Rattle.bisimulation.proofs.PathMatchingLaws.{path-i}
use Rattle.answers.specs.Numbers.{six_numbers}
use Rattle.answers.specs.Verdicts.{Verdict, answer_of, output_after}
use Rattle.answers.specs.declared.Answer.{Answer}
use Rattle.answers.proofs.DecideLaws.{decides-true, decides-false, decides-stable}
use Rattle.words.specs.Bits.{has_bit}
use Rattle.sides.specs.declared.Side.{Side}
use Rattle.sides.specs.Side.{system_in, related_to}
use Rattle.sides.specs.Views.{view_in}
use Rattle.path_matcher.specs.Following.{matched_along, wrong_path, wrong_start, no_room, match_verdict}
use Rattle.path_matcher.specs.FollowCauses.{WrongPath}
use Rattle.path_matcher.specs.OnSides.{AllMet, StartsAt}
use Rattle.obligations.specs.declared.Run.{Run}
use Rattle.path_matcher.proofs.FollowCauseLaws.{has-step-decides, path-decides, start-decides, room-decides}

-- ---- the answer and both outputs after a verdict

-- They are those of the verdict.
abbrev pub Answered : Verdict ℕ → (bytes bytes' states blocks : List ℕ) → Answer → (states' blocks' : List ℕ) → Type 0
Answered verdict bytes bytes' states blocks answer states' blocks' =
    (answer ≡ answer_of (six_numbers 0 0) verdict) × ((states' ≡ output_after verdict bytes states) × (blocks' ≡ output_after verdict bytes' blocks))

module _ {verdict : Verdict ℕ} (bytes bytes' states blocks : List ℕ) where
  pub answered-refusal : {a answer : Answer} → verdict ≡ Err a → answer ≡ a
      → Answered verdict bytes bytes' states blocks answer states blocks
  answered-refusal e q = rw (e, q) (refl, (refl, refl))

  pub answered-success : {k : ℕ} {answer : Answer} {states' blocks' : List ℕ} → verdict ≡ Ok k → answer ≡ six_numbers 0 0 k
      → states' ≡ put_front bytes states → blocks' ≡ put_front bytes' blocks
      → Answered verdict bytes bytes' states blocks answer states' blocks'
  answered-success e q x y = rw e (q, (x, y))

-- ---- test after test

module _ (v : View) (r : Ranks) (start : ℕ) (path states blocks : List ℕ) where
  abbrev verdict : Verdict ℕ
  verdict = match_verdict v r 0 start path states blocks

  abbrev count : ℕ
  count = length (matched_along v r path start)

  pub verdict-25 : wrong_path 0 v.own path ≡ true → verdict ≡ Err (six_numbers 25 4 0)
  unfolding match_verdict
  verdict-25 e = rw e

  module _ (p : wrong_path 0 v.own path ≡ false) where
    pub verdict-26 : wrong_start v path start ≡ true → verdict ≡ Err (six_numbers 26 4 0)
    unfolding match_verdict
    verdict-26 e = rw (p, e)

    module _ (q : wrong_start v path start ≡ false) where
      pub verdict-27 : no_room count (length path) states blocks ≡ true → verdict ≡ Err (six_numbers 27 3 0)
      unfolding match_verdict
      verdict-27 e = rw (p, q, e)

      pub verdict-on : no_room count (length path) states blocks ≡ false → verdict ≡ Ok count
      unfolding match_verdict
      verdict-on e = rw (p, q, e)

-- ---- what is known after each test

module _ (S : System) (path : List ℕ) (p : wrong_path 0 S path ≡ false) where
  right : ¬ WrongPath 0 S path
  right w = false-not-T _ p ((path-decides 0 S path).complete w)

  pub right-few : length path ≤ 256
  right-few = elim (dec_lt 256 (length path)) [ yes l ↦ absurd (right (inr (inr (inl l)))) | no l ↦ omega arith ]

  pub right-path : IsPath S path
  right-path =
      path-i S path (elim (dec_lt 0 (length path)) [ yes l ↦ l | no l ↦ absurd (right (inr (inl (omega arith)))) ])
      (λ i h. elim (dec_lt (byte_at path i) S.states) [ yes l ↦ l | no l ↦ absurd (right (inr (inr (inr (inl (i, h, omega arith)))))) ])
      (λ i h. decides-stable (has-step-decides S (byte_at path i) (byte_at path (i + 1))) (λ n. right (inr (inr (inr (inr (i, h, n)))))))

module _ {ours theirs : Side} {certificate : List ℕ} {run : Run} (all : AllMet ours theirs certificate run) (path : List ℕ) (start : ℕ) {s word : ℕ} {has : Bool}
    (es : s ≡ byte_at path 0) (ew : word ≡ related_to ours s) (eh : has ≡ has_bit word start) where
  abbrev view : View
  view = view_in ours theirs

  related-is : has ≡ view.related (byte_at path 0) start
  related-is = eh ∙ ap (λ (w : ℕ). has_bit w start) (ew ∙ ap (related_to ours) es)

  pub start-wrong : has ≡ false → wrong_start view path start ≡ true
  start-wrong e = decides-true (start-decides view path start) (inl (false-not-T _ (sym related-is ∙ e)))

  module _ (e : has ≡ true) where
    start-related : T (view.related (byte_at path 0) start)
    start-related = true-T _ (sym related-is ∙ e)

    pub start_right : wrong_start view path start ≡ false
    start_right =
        decides-false (start-decides view path start)
        (⊎_elim (λ n. n start-related) (λ l. omega (arith, l, all.formed.there.related< start (byte_at path 0) start-related)))

    pub starts-at : wrong_path 0 (system_in ours) path ≡ false → StartsAt ours theirs path start
    starts-at p = record { few = right-few (system_in ours) path p; path-is = right-path (system_in ours) path p; related = start-related }

module _ (written given : ℕ) (states blocks : List ℕ) where
  pub states-short : length states < 3 * written → no_room written given states blocks ≡ true
  states-short h = decides-true (room-decides written given states blocks) (inl h)

  pub blocks-short : length blocks < 2 * given → no_room written given states blocks ≡ true
  blocks-short h = decides-true (room-decides written given states blocks) (inr h)

  pub room-enough : 3 * written ≤ length states → 2 * given ≤ length blocks → no_room written given states blocks ≡ false
  room-enough h k = decides-false (room-decides written given states blocks) (⊎_elim (λ l. omega arith) (λ l. omega arith))
