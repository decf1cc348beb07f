-- Laws of match distances: a step is matched exactly where its distance is below the number of the other's states. Assumes nothing.
use Prim.Native.Nat.{ℕ, ◌<◌}
use mathlib.Core.Path.{◌≡◌, ap}
use mathlib.Core.Logic.{◌↔◌, ⊎_elim}
use mathlib.Core.Bool.{Bool, not, cond}
use native.Mathlib.Omega.{arith}
use native.Mathlib.Decide.{dec_lt}
use lib.Dec.{T, leb, ltb, leb→le, le→leb, ltb→lt, lt→ltb, T_not, not_T}
use Rattle.lists.proofs.BoolLaws.{T-dec, same-T}
use Rattle.lists.proofs.BelowLaws.{any-i, first_passes}
use Rattle.bisimulation.specs.Systems.{View}
use Rattle.bisimulation.specs.Maker.{matches_within, matched, distance, match_rank}
use Rattle.bisimulation.proofs.RunLaws.{matched-e}

module _ (v : View) (j t : ℕ) where
  -- a step is matched exactly where its distance is below the number of the other's states
  pub matched-distance : T (matched v j t) ↔ (distance v j t < v.other.states)
  unfolding matched distance
  matched-distance = (
    λ h. (matched-e v j t h).0,
    λ h. any-i v.other.states (λ k. matches_within v j k t) (distance v j t) h (first_passes v.other.states (λ k. matches_within v j k t) h),
  )

  pub matched-test : matched v j t ≡ ltb (distance v j t) v.other.states
  matched-test = same-T _ _ (λ h. lt→ltb _ _ (matched-distance.0 h)) (λ h. matched-distance.1 (ltb→lt _ _ h))

  -- the C rank that is written, by the distance alone
  pub match-rank-distance : match_rank v j t ≡ cond (ltb (distance v j t) v.other.states) (distance v j t) 0
  unfolding match_rank
  match-rank-distance = ap (λ (b : Bool). cond b (distance v j t) 0) matched-test

  -- and unmatched where it is not
  pub unmatched-distance : leb v.other.states (distance v j t) ≡ not (matched v j t)
  unmatched-distance =
      same-T _ _
      (λ h. not_T (matched v j t) (λ m. let l = leb→le v.other.states (distance v j t) h in omega (arith, matched-distance.0 m)))
      (λ h. ⊎_elim (λ b. b) (λ b. absurd (T_not (matched v j t) h (matched-distance.1 (not-leb b)))) (T-dec (leb v.other.states (distance v j t))))
    where
      not-leb : (T (leb v.other.states (distance v j t)) → ⊥) → distance v j t < v.other.states
      not-leb n = elim (dec_lt (distance v j t) v.other.states) [ yes l ↦ l | no l ↦ absurd (n (le→leb v.other.states (distance v j t) (omega arith))) ]
