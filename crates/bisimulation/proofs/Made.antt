-- Where the maker succeeds, the judge accepts the ranks that it made, and these are at most the numbers of states.
-- The key idea: at a matched obligation the match rank is the distance, so one step along a shortest run lowers it (2c) until the distance is 0
-- (2a). An unmatched step that 22 lets pass stands in a chain, and no chain is as long as the bound, so cutting its first step off lowers
-- the chain length, which is the stutter rank (2b). Assumes nothing.
use Prim.Native.Nat.{ℕ, zero, suc, ◌≤◌, ◌<◌}
use mathlib.Core.Path.{◌≡◌, refl}
use mathlib.Core.Logic.{inl, inr, ⊎_elim}
use mathlib.Core.Bool.{◌&&◌}
use native.Mathlib.Omega.{arith}
use lib.Dec.{T, not_T, eqb, eqb→eq, eqb_refl, ltb→lt}
use Rattle.lists.proofs.BelowLaws.{any-e, most-le, first-le}
use Rattle.lists.proofs.BoolLaws.{and_l, and_r, and_i, or-e, T-dec, cond-true, cond-false, cond-upto}
use Rattle.bisimulation.specs.Clauses.{Meets, EveryObligation}
use Rattle.bisimulation.specs.Judge.{is2a, accepts}
use Rattle.bisimulation.specs.Maker.{
  matches_within,
  matched,
  distance,
  may_chain,
  chain_along,
  chain_length,
  stutter_rank,
  match_rank,
  made,
  none_unmatched,
  none_endless,
  succeeds,
}
use Rattle.bisimulation.specs.Systems.{View, flip, Bytes, WellFormed}
use Rattle.bisimulation.proofs.ClauseLaws.{flip-formed, pairs-e, initial-e, steps-e, is2a-e, labels-e, accepts-iff}
use Rattle.bisimulation.proofs.RunLaws.{within-related, matched-e, in_chain, chain-step}

module _ (v : View) where
  open v use {own, other, related, serves}

  -- where the longest chain is shorter than the bound, one less is enough
  chain-stable : (t k s : ℕ) → chain_length v t (suc k) s ≤ k → chain_length v t (suc k) s ≤ chain_length v t k s
  unfolding chain_along
  chain-stable t zero s h = h
  chain-stable t (suc k) s h =
      most-le _ _ _ λ j l. cond-upto (in_chain v t s j) (suc (chain_length v t (suc k) (own.to j))) (chain_length v t (suc k) s) λ b.
      let p = chain-step v t (suc k) s j l b in
      let q = chain-step v t k s j l b in
      omega (arith, chain-stable t k (own.to j) (omega arith))

  falls : (t N s j : ℕ) → j < own.steps → T (eqb (own.from j) s && may_chain v t j)
      → chain_length v t N (own.to j) < N → chain_length v t N (own.to j) < chain_length v t N s
  falls t zero s j l b h = omega arith
  falls t (suc k) s j l b h = omega (arith, chain-stable t k (own.to j) (omega arith), chain-step v t k s j l b)

  pub match-rank-le : (j k t : ℕ) → k < other.states → T (matches_within v j k t) → match_rank v j t ≤ k
  unfolding match_rank distance
  match-rank-le j k t l h = cond-upto (matched v j t) (distance v j t) k λ _. first-le _ (λ i. matches_within v j i t) k l h

  match-rank-is : (j t : ℕ) → T (matched v j t) → match_rank v j t ≡ distance v j t
  unfolding match_rank
  match-rank-is j t h = cond-true (matched v j t) (distance v j t) 0 h

  met-matched : (j t : ℕ) → T (matched v j t) → Meets v (made v) j t
  unfolding matches_within
  met-matched j t h = go (distance v j t) refl (matched-e v j t h).1
    where
      go : (c : ℕ) → distance v j t ≡ c → T (matches_within v j c t) → Meets v (made v) j t
      go zero e p = inl (is2a-e v j t (and_r (related (own.from j) t) _ p))
      go (suc k) e p =
          ⊎_elim (λ a. inl (is2a-e v j t a))
          (λ b. let q = any-e _ _ b in let d = q.2 in
          inr (inr (
            q.0,
            q.1,
            eqb→eq _ _ (search (and_l, and_r)),
            search (and_l, and_r),
            within-related v j k (other.to q.0) (search (and_l, and_r)),
            omega (arith, match-rank-is j t h, match-rank-le j k (other.to q.0) (omega (arith, (matched-e v j t h).0)) (search (and_l, and_r))),
          )))
          (or-e (is2a v j t) _ (and_r (related (own.from j) t) _ p))

  met-stuttering : (j t : ℕ) → j < own.steps → T (may_chain v t j) → chain_length v t own.states (own.to j) < own.states → T (related (own.from j) t)
      → Meets v (made v) j t
  unfolding stutter_rank may_chain
  met-stuttering j t l h b r =
      let u : T (related (own.to j) t) = search (and_l, and_r) in
      inr (inl (
        (search (and_l, and_r), u),
        rw (cond-true (related (own.to j) t) _ _ u, cond-true (related (own.from j) t) _ _ r)
            (omega (arith, falls t own.states (own.from j) j l (and_i (eqb (own.from j) (own.from j)) (may_chain v t j) (eqb_refl (own.from j)) h) b)),
      ))

  module _ (w : WellFormed v) (a : T (none_unmatched v)) (b : T (none_endless v)) where
    side-met : EveryObligation Meets v (made v)
    unfolding none_unmatched none_endless may_chain
    side-met j t l r =
        ⊎_elim (λ h. met-matched j t h)
        (λ h.
        let g = ⊎_elim (λ g. absurd (h g)) (λ g. g) (or-e (matched v j t) _ (steps-e v (own.from j) _ (pairs-e v w _ a (own.from j) t r) j l refl)) in
        let u : T (related (own.to j) t) = and_r (own.silent j) (related (own.to j) t) g in
        let k = not_T (matched v j t) h in
        met-stuttering j t l (search and_i) (ltb→lt _ _ (pairs-e v w _ b (own.to j) t u)) r)
        (T-dec (matched v j t))

    -- the ranks are below a limit on the numbers of states
    ranks-small : (N : ℕ) → 0 < N → own.states ≤ N → other.states ≤ N → ((s t : ℕ) → stutter_rank v s t < N) × ((j t : ℕ) → match_rank v j t < N)
    unfolding stutter_rank match_rank none_endless
    ranks-small N p m n = (
      λ s t. ⊎_elim
          (λ h. rw (cond-true (related s t) _ _ h) (omega (arith, ltb→lt (chain_length v t own.states s) own.states (pairs-e v w _ b s t h))))
          (λ h. rw (cond-false (related s t) _ _ h) p)
          (T-dec (related s t)),
      λ j t. ⊎_elim
          (λ h. rw (cond-true (matched v j t) _ _ h) (omega (arith, (matched-e v j t h).0)))
          (λ h. rw (cond-false (matched v j t) _ _ h) p)
          (T-dec (matched v j t)),
    )

module _ (v : View) (w : WellFormed v) (h : T (succeeds v)) where
  pub made-accepted : T (accepts v (made v))
  unfolding succeeds
  made-accepted =
      (accepts-iff v w (made v)).1 (record {
        starts = (initial-e v w (search (and_l, and_r)), initial-e (flip v) (flip-formed v w) (search (and_l, and_r)));
        labels = labels-e v w (search (and_l, and_r));
        own-met = side-met v w (search (and_l, and_r)) (search (and_l, and_r));
        other-met = side-met (flip v) (flip-formed v w) (search (and_l, and_r)) (search (and_l, and_r));
      })

  -- the ranks that it made are below 64, so they are bytes
  pub made-small : v.own.states ≤ 64 → v.other.states ≤ 64
      → ((s t : ℕ) → (made v).stutter s t < 64) × ((j t : ℕ) → (made v).match j t < 64)
      × ((t s : ℕ) → (made v).stutter' t s < 64) × ((k s : ℕ) → (made v).match' k s < 64)
  unfolding succeeds
  made-small a b =
      let l = ranks-small v w (search (and_l, and_r)) (search (and_l, and_r)) 64 (omega arith) a b in
      let r = ranks-small (flip v) (flip-formed v w) (search (and_l, and_r)) (search (and_l, and_r)) 64 (omega arith) b a in
      (l.0, l.1, r.0, r.1)

  pub made_bytes : v.own.states ≤ 64 → v.other.states ≤ 64 → Bytes (made v)
  made_bytes a b =
      let m = made-small a b in
      (λ s t. omega (arith, m.0 s t), λ j t. omega (arith, m.1 j t), λ t s. omega (arith, m.2 t s), λ k s. omega (arith, m.3 k s))
