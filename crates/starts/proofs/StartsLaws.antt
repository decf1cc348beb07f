-- Laws of the starts rule: the verdict on the starts is decided by the causes 16, and none of these applies exactly where each own start is related to some
-- start of the other and each start of the other to some own one. Assumes nothing.
use Rattle.std.specs.Prelude.{Err}
use Prim.Native.Nat.{ℕ, ◌<◌}
use mathlib.Core.Path.{◌≡◌, refl}
use mathlib.Core.Logic.{◌↔◌}
use mathlib.Core.Bool.{Bool, ◌&&◌}
use lib.Dec.{T, eqb}
use Rattle.lists.specs.Below.{any_below}
use Rattle.bisimulation.specs.Systems.{System, View, flip, InitialRelated, StartsRule}
use Rattle.bisimulation.proofs.Equivalences.{one-initial}
use Rattle.answers.specs.Causes.{NoCause, Numbered}
use Rattle.answers.specs.Verdicts.{passed}
use Rattle.answers.proofs.CauseLaws.{append-none, none-append, below_none, none_below, numbered-append, numbered_below}
use Rattle.answers.proofs.DecideLaws.{Decides, decides-as, decides-stable, test-decides, not-decides, and-decides, any-decides}
use Rattle.answers.proofs.VerdictLaws.{Decided, Anything, decided-none, decided-test, decided-unless, decided-then, decided-below}
use Rattle.starts.specs.StartsNamed.{StartsNamed, both_starts, unpaired_start}
use Rattle.starts.specs.StartsVerdict.{starts_answer, unpaired_answer}
use Rattle.starts.specs.StartsVerdict.{unpaired, unpaired_verdict, starts_verdict}
use Rattle.starts.specs.StartsCauses.{Unpaired, unpaired_causes, starts_causes}

-- The initial states are states.
abbrev pub StartsBelow : System → Type 0
StartsBelow S = (s : ℕ) → T (S.initial s) → s < S.states

-- What the naming says of the starts: where 16 names both, they are the one start of each side.
abbrev pub NamesStarts : View → StartsNamed → Type 0
NamesStarts v (both_starts a b) = ((s : ℕ) → v.own.initial s ≡ eqb s a) × ((t : ℕ) → v.other.initial t ≡ eqb t b)
NamesStarts v unpaired_start = Unit {0}

-- ---- one side

module _ (v : View) (below' : StartsBelow v.other) where
  -- some start of the other is related to s
  paired-decides : (s : ℕ)
      → Decides (any_below v.other.states (λ t. v.other.initial t && v.related s t)) ((t : ℕ) × T (v.other.initial t) × T (v.related s t))
  paired-decides s =
      decides-as (any-decides v.other.states (λ t. and-decides (test-decides (v.other.initial t)) (test-decides (v.related s t))))
      (λ p. (p.0, p.2.0, p.2.1)) (λ p. (p.0, below' p.0 p.1, (p.1, p.2)))

  unpaired-decides : (s : ℕ) → Decides (unpaired v s) (Unpaired v s)
  unfolding unpaired
  unpaired-decides s = and-decides (test-decides (v.own.initial s)) (not-decides (paired-decides s))

  unpaired-decided : (side : ℕ) → Decided Anything (unpaired_causes v side) (unpaired_verdict v side)
  unfolding unpaired_verdict
  unpaired-decided side =
      decided-below v.own.states _ _ λ s.
      decided-test (λ x. x) (Err (unpaired_answer side s)) passed (unpaired-decides s) refl (decided-none tt)

  -- no start is unpaired exactly where each is related to one of the other
  paired-iff : StartsBelow v.own → (side : ℕ) → NoCause (unpaired_causes v side) ↔ InitialRelated v
  paired-iff below side = (
    λ n s i. decides-stable (paired-decides s) (λ u. below_none v.own.states (Unpaired v) (unpaired_answer side) n s (below s i) (i, u)),
    λ p. none_below v.own.states (Unpaired v) (unpaired_answer side) (λ s l u. u.1 (p s u.0)),
  )

-- ---- both sides

module _ (v : View) (below : StartsBelow v.own) (below' : StartsBelow v.other) where
  pub starts-decided : (named : StartsNamed) → Decided Anything (starts_causes v named) (starts_verdict v named)
  unfolding starts_verdict
  starts-decided (both_starts s t) =
      decided-unless (λ x. x) (v.related s t) (Err (starts_answer s t)) passed (not-decides (test-decides (v.related s t))) refl (decided-none tt)
  starts-decided unpaired_start = decided-then (unpaired_verdict v 0) (unpaired-decided v below' 0) λ x g n. unpaired-decided (flip v) below 1

  pub starts-iff : (named : StartsNamed) → NamesStarts v named → NoCause (starts_causes v named) ↔ StartsRule v
  starts-iff (both_starts s t) e =
      let one = one-initial v s t e.0 e.1 in
      (λ n. one.1 (decides-stable (test-decides (v.related s t)) n.0), λ p. (λ n. n (one.0 p), tt))
  starts-iff unpaired_start e =
      let left = paired-iff v below' below 0 in
      let right = paired-iff (flip v) below below' 1 in (
        λ n. let a = append-none (unpaired_causes v 0) (unpaired_causes (flip v) 1) n in (left.0 a.0, right.0 a.1),
        λ p. none-append (unpaired_causes v 0) (unpaired_causes (flip v) 1) (left.1 p.0) (right.1 p.1),
      )

-- ---- the number is 16, with the file 2

module _ (f : ℕ → ℕ → Bool) (h : T (f 16 2)) where
  unpaired-numbers : (v : View) (side : ℕ) → Numbered f (unpaired_causes v side)
  unpaired-numbers v side = numbered_below f v.own.states _ (λ s. (h, tt))

  pub starts-numbers : (v : View) (named : StartsNamed) → Numbered f (starts_causes v named)
  starts-numbers v (both_starts s t) = (h, tt)
  starts-numbers v unpaired_start = numbered-append f (unpaired_causes v 0) (unpaired_causes (flip v) 1) (unpaired-numbers v 0) (unpaired-numbers (flip v) 1)
