-- The maker succeeds, the path property holds, and some ranks are accepted: the three are one and the same. Assumes nothing.
use Prim.Native.Nat.{ℕ, ◌≤◌}
use mathlib.Core.Path.{◌≡◌}
use mathlib.Core.Logic.{◌↔◌}
use lib.Dec.{T, eqb, eqb_refl, eqb→eq}
use Rattle.bisimulation.specs.Judge.{accepts}
use Rattle.bisimulation.specs.Maker.{made, succeeds}
use Rattle.bisimulation.specs.PathProperty.{PathProperty}
use Rattle.bisimulation.specs.StepPaths.{StepPathProperty}
use Rattle.bisimulation.specs.Systems.{View, Ranks, Bytes, WellFormed, Plain, StartsRule}
use Rattle.bisimulation.proofs.Complete.{complete}
use Rattle.bisimulation.proofs.Made.{made-accepted, made_bytes}
use Rattle.bisimulation.proofs.PlainPaths.{plain-iff-steps}
use Rattle.bisimulation.proofs.Sound.{sound}

-- over the test of a step as a parameter
module _ (v : View) (w : WellFormed v) where
  pub succeeds-iff-steps : T (succeeds v) ↔ StepPathProperty v
  succeeds-iff-steps = (λ h. sound v (made v) w (made-accepted v w h), complete v w)

  pub succeeds-iff-accepted : T (succeeds v) ↔ ((r : Ranks) × T (accepts v r))
  succeeds-iff-accepted = (λ h. (made v, made-accepted v w h), λ p. complete v w (sound v p.0 w p.1))

  -- bytes are enough
  pub succeeds-iff-bytes : v.own.states ≤ 64 → v.other.states ≤ 64 → T (succeeds v) ↔ ((r : Ranks) × Bytes r × T (accepts v r))
  succeeds-iff-bytes a b = (λ h. (made v, made_bytes v w h a b, made-accepted v w h), λ p. succeeds-iff-accepted.1 (p.0, p.2))

  -- for plain tables, in the user's words
  module _ (k : Plain v) where
    pub accepted-property : (r : Ranks) → T (accepts v r) → PathProperty v
    accepted-property r h = (plain-iff-steps v w k).1 (sound v r w h)

    pub property-succeeds : PathProperty v → T (succeeds v)
    property-succeeds p = complete v w ((plain-iff-steps v w k).0 p)

    pub succeeds-iff-property : T (succeeds v) ↔ PathProperty v
    succeeds-iff-property = (λ h. accepted-property (made v) (made-accepted v w h), property-succeeds)

-- where each table has one initial state, the rule for initial states is that the two are related
pub one-initial : (v : View) (a b : ℕ) → ((s : ℕ) → v.own.initial s ≡ eqb s a) → ((t : ℕ) → v.other.initial t ≡ eqb t b)
    → StartsRule v ↔ T (v.related a b)
one-initial v a b f g = (
  λ p. let q = p.0 a (rw (f a) (eqb_refl a)) in rw (eqb→eq q.0 b (rw (g q.0) at q.1)) at q.2,
  λ h. (
    λ s p. (b, rw (g b) (eqb_refl b), rw (eqb→eq s a (rw (f s) at p)) h),
    λ t p. (a, rw (f a) (eqb_refl a), rw (eqb→eq t b (rw (g t) at p)) h),
  ),
)
