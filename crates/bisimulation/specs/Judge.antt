-- The judge's tests: the clauses 2a, 2b and 2c at an obligation, and what is accepted. The test of a step is a parameter of the view.
-- An obligation, document 01's duty, is an own step j with a state t of the other side that is related to the state j leaves.
use Rattle.std.specs.Prelude.{ℕ, Bool, ◌&&◌, ◌||◌, ltb, eqb}
use Rattle.lists.specs.Below.{any_below, all_below, implies}
use Rattle.bisimulation.specs.Systems.{View, Ranks, flip, swap, stays}

-- The other's step k meets the obligation by 2a: it leaves t, serves j, and enters a state related to the one that j enters.
abbrev pub meets2a : View → ℕ → ℕ → ℕ → Bool
meets2a v j t k = eqb (v.other.from k) t && v.serves j k && v.related (v.own.to j) (v.other.to k)

-- The other's step k meets it by 2c: it leaves t, is silent, enters a state related to the one that j leaves, and the match rank of j falls.
abbrev pub meets2c : View → Ranks → ℕ → ℕ → ℕ → Bool
meets2c v r j t k =
    eqb (v.other.from k) t && v.other.silent k && v.related (v.own.from j) (v.other.to k) && ltb (r.match j (v.other.to k)) (r.match j t)

-- 2a: some step of the other from t meets it.
unfoldable pub is2a : View → ℕ → ℕ → Bool
is2a v j t = any_below v.other.steps (meets2a v j t)

-- 2b: j stays at t, and the stutter rank falls.
unfoldable pub is2b : View → Ranks → ℕ → ℕ → Bool
is2b v r j t = stays v j t && ltb (r.stutter (v.own.to j) t) (r.stutter (v.own.from j) t)

-- 2c: some step of the other from t meets it.
unfoldable pub is2c : View → Ranks → ℕ → ℕ → Bool
is2c v r j t = any_below v.other.steps (meets2c v r j t)

-- The obligation is met: one of the three holds.
unfoldable pub is_met : View → Ranks → ℕ → ℕ → Bool
is_met v r j t = is2a v j t || is2b v r j t || is2c v r j t

-- Every related pair passes the test.
unfoldable pub all_pairs : View → (ℕ → ℕ → Bool) → Bool
all_pairs v f = all_below v.own.states (λ s. all_below v.other.states (λ t. implies (v.related s t) (f s t)))

-- Every own step from s passes the test.
unfoldable pub all_steps_from : View → ℕ → (ℕ → Bool) → Bool
all_steps_from v s f = all_below v.own.steps (λ j. implies (eqb (v.own.from j) s) (f j))

-- Each own initial state is related to some initial state of the other.
unfoldable pub initial_related : View → Bool
initial_related v =
    all_below v.own.states (λ s. implies (v.own.initial s) (any_below v.other.states (λ t. v.other.initial t && v.related s t)))

-- Related states have equal labels.
unfoldable pub labels_equal : View → Bool
labels_equal v = all_pairs v (λ s t. eqb (v.own.label s) (v.other.label t))

-- Every obligation of the own side is met.
unfoldable pub obligations_met : View → Ranks → Bool
obligations_met v r = all_pairs v (λ s t. all_steps_from v s (λ j. is_met v r j t))

-- The judge accepts the ranks: initial states related, labels equal, and the obligations of both sides met.
unfoldable pub accepts : View → Ranks → Bool
accepts v r = initial_related v && initial_related (flip v) && labels_equal v && obligations_met v r && obligations_met (flip v) (swap r)
