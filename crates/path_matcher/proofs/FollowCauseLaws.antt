-- The follower's verdict is decided by its causes: it refuses with the numbers of the first that applies, and goes on where none does, with the states to
-- write. Each of 25, 26 and 27 is one test made of the tests of its parts. Assumes nothing.
use Prim.Native.Nat.{ℕ, ◌+◌, ◌*◌, ◌-◌}
use mathlib.Core.Path.{◌≡◌, refl}
use mathlib.Core.Bool.{not}
use mathlib.Core.List.{List}
use native.Mathlib.Omega.{arith}
use lib.ListN.{length}
use Rattle.lists.specs.Numbers.{byte_at}
use Rattle.lists.proofs.BoolLaws.{or_l}
use Rattle.lists.proofs.JoinLaws.{all-imply}
use Rattle.bisimulation.specs.Systems.{System, Step, View, Ranks}
use Rattle.answers.specs.Causes.{Numbered}
use Rattle.answers.specs.Verdicts.{pass_if}
use Rattle.answers.proofs.CauseLaws.{numbered-append}
use Rattle.answers.proofs.DecideLaws.{Decides, decides-as, test-decides, ltb-decides, leb-decides, eqb-decides}
use Rattle.answers.proofs.DecideLaws.{not-decides, and-decides, or-decides, any-decides}
use Rattle.answers.proofs.VerdictLaws.{Decided, decided-none, decided-pass, decided-then}
use Rattle.table_reader.specs.declared.Known.TheVariants.{Plain}
use Rattle.checker.specs.Judge.{judge_verdict}
use Rattle.checker.specs.JudgeCauses.{known_judge_causes, judge_number}
use Rattle.checker.proofs.JudgeCauseLaws.{judge-decided, judge-numbers}
use Rattle.path_matcher.specs.Following.{
  matched_along,
  has_step,
  wrong_path,
  wrong_start,
  no_room,
  match_verdict,
  followed_view,
  followed_ranks,
  follow_verdict,
  matched_states,
}
use Rattle.path_matcher.specs.FollowCauses.{WrongPath, WrongStart, NoRoom, match_causes, follow_causes, follow_number}

-- ---- the three tests

pub has-step-decides : (S : System) (s u : ℕ) → Decides (has_step S s u) (Step S s u)
unfolding has_step
has-step-decides S s u =
    decides-as (any-decides S.steps (λ j. and-decides (eqb-decides (S.from j) s) (eqb-decides (S.to j) u)))
    (λ p. (p.0, p.1, p.2.0, p.2.1)) (λ p. (p.0, p.1, (p.2, p.3)))

pub path-decides : (side : ℕ) (S : System) (path : List ℕ) → Decides (wrong_path side S path) (WrongPath side S path)
unfolding wrong_path
path-decides side S path =
    or-decides (and-decides (not-decides (eqb-decides side 0)) (not-decides (eqb-decides side 1)))
    (or-decides (eqb-decides (length path) 0)
    (or-decides (ltb-decides 256 (length path))
    (or-decides (any-decides (length path) (λ i. leb-decides S.states (byte_at path i)))
    (decides-as (any-decides (length path - 1) (λ i. not-decides (has-step-decides S (byte_at path i) (byte_at path (i + 1)))))
    (λ p. (p.0, omega (arith, p.1), p.2)) (λ p. (p.0, omega (arith, p.1), p.2))))))

pub start-decides : (v : View) (path : List ℕ) (start : ℕ) → Decides (wrong_start v path start) (WrongStart v path start)
unfolding wrong_start
start-decides v path start = or-decides (not-decides (test-decides (v.related (byte_at path 0) start))) (leb-decides v.other.states start)

pub room-decides : (written given : ℕ) (states blocks : List ℕ) → Decides (no_room written given states blocks) (NoRoom written given states blocks)
unfolding no_room
room-decides written given states blocks = or-decides (ltb-decides (length states) (3 * written)) (ltb-decides (length blocks) (2 * given))

-- ---- the verdict

match-decided : (v : View) (r : Ranks) (side start : ℕ) (path states blocks : List ℕ)
    → Decided (λ n. n ≡ length (matched_along v r path start)) (match_causes v r side start path states blocks)
    (match_verdict v r side start path states blocks)
unfolding match_verdict
match-decided v r side start path states blocks =
    decided-then (pass_if (not (wrong_path side v.own path)) _) (decided-pass (wrong_path side v.own path) (path-decides side v.own path)) λ x g n.
    decided-then (pass_if (not (wrong_start v path start)) _) (decided-pass (wrong_start v path start) (start-decides v path start)) λ y h m.
    decided-then (pass_if (not (no_room (length (matched_along v r path start)) (length path) states blocks)) _)
    (decided-pass (no_room (length (matched_along v r path start)) (length path) states blocks)
    (room-decides (length (matched_along v r path start)) (length path) states blocks)) λ z k o. decided-none refl

module _ (left right c : List ℕ) (side start : ℕ) (path states blocks : List ℕ) where
  pub follow-decided : Decided (λ n. n ≡ length (matched_states left right c side start path))
      (follow_causes left right c side start path states blocks) (follow_verdict left right c side start path states blocks)
  unfolding follow_verdict
  follow-decided =
      decided-then (judge_verdict Plain left right c) (judge-decided Plain left right c) λ x g n.
      match-decided (followed_view left right c side) (followed_ranks left right c side) side start path states blocks

  -- the judge's numbers; 25 and 26 with the file 4, and 27 with the file 3
  pub follow-numbers : Numbered follow_number (follow_causes left right c side start path states blocks)
  follow-numbers =
      numbered-append follow_number (known_judge_causes Plain left right c) _
      (all-imply _ _ (λ x. or_l (judge_number x.numbers.code x.numbers.file) _) (known_judge_causes Plain left right c)
      (judge-numbers Plain left right c))
      (tt, (tt, (tt, tt)))
