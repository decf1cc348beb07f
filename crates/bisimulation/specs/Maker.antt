-- The maker's tests and ranks: matching runs by rounds, stuttering chains by the recursion on k, and where it succeeds. A matching run is
-- document 01's list of a matched duty, its match distance the chase length, and a stuttering chain a chain of unmatched steps.
use Rattle.std.specs.Prelude.{ℕ, zero, suc, Bool, ◌&&◌, ◌||◌, not, cond, ltb, eqb}
use Rattle.lists.specs.Below.{any_below, most_below, first_below}
use Rattle.bisimulation.specs.Systems.{System, View, Ranks, flip, stays}
use Rattle.bisimulation.specs.Judge.{is2a, all_pairs, all_steps_from, initial_related, labels_equal}

-- A list of states, t first, with at most k steps inside, each silent, all related to the state that j leaves, whose last state has a step that
-- serves j and enters a state related to the one that j enters.
unfoldable pub matches_within : View → ℕ → ℕ → ℕ → Bool
matches_within v j zero t = v.related (v.own.from j) t && is2a v j t
matches_within v j (suc k) t =
    v.related (v.own.from j) t
    && (is2a v j t || any_below v.other.steps (λ e. eqb (v.other.from e) t && v.other.silent e && matches_within v j k (v.other.to e)))

-- The own step j is matched at t; fewer steps inside than the other side has states are enough.
unfoldable pub matched : View → ℕ → ℕ → Bool
matched v j t = any_below v.other.states (λ k. matches_within v j k t)

-- The match distance, document 01's chase length: the least number of steps inside.
unfoldable pub distance : View → ℕ → ℕ → ℕ
distance v j t = first_below v.other.states (λ k. matches_within v j k t)

-- The own step j may stand in a chain at t: it stays at t, and is unmatched there.
unfoldable pub may_chain : View → ℕ → ℕ → Bool
may_chain v t j = stays v j t && not (matched v j t)

-- The most steps in a chain from s of steps that pass the test, for chains of at most k steps: 0 where k is 0 or no such step leaves s, else one
-- more than the greatest over the next states for k - 1.
unfoldable pub chain_along : System → (ℕ → Bool) → ℕ → ℕ → ℕ
chain_along S test zero s = 0
chain_along S test (suc k) s = most_below S.steps (λ j. cond (eqb (S.from j) s && test j) (suc (chain_along S test k (S.to j))) 0)

-- The most steps in a chain at t from s, for chains of at most k steps: its steps may stand in a chain at t.
abbrev pub chain_length : View → ℕ → ℕ → ℕ → ℕ
chain_length v t = chain_along v.own (may_chain v t)

-- The A rank that is written: the most steps in a chain at t from s where s, t are related, else 0; k begins as the side's number of states.
unfoldable pub stutter_rank : View → ℕ → ℕ → ℕ
stutter_rank v s t = cond (v.related s t) (chain_length v t v.own.states s) 0

-- The C rank that is written: the match distance of a matched obligation, else 0.
unfoldable pub match_rank : View → ℕ → ℕ → ℕ
match_rank v j t = cond (matched v j t) (distance v j t) 0

abbrev pub made : View → Ranks
made v = record { stutter = stutter_rank v; match = match_rank v; stutter' = stutter_rank (flip v); match' = match_rank (flip v) }

-- No obligation that 22 names: each is matched, or its step stays at t.
unfoldable pub none_unmatched : View → Bool
none_unmatched v = all_pairs v (λ s t. all_steps_from v s (λ j. matched v j t || stays v j t))

-- No chain that 23 names: of as many steps as the side has states.
unfoldable pub none_endless : View → Bool
none_endless v = all_pairs v (λ s t. ltb (chain_length v t v.own.states s) v.own.states)

-- The maker succeeds.
unfoldable pub succeeds : View → Bool
succeeds v =
    initial_related v && initial_related (flip v) && labels_equal v && (none_unmatched v && none_unmatched (flip v)) && (none_endless v && none_endless (flip v))
