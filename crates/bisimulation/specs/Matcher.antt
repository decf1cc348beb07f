-- The path matcher: it follows a given path on the other side by the judge's clauses in order, the smallest state each time, with a new block
-- at each 2a; where the given path ends in a terminal state it goes on, by smallest states, to a terminal state.
use Rattle.std.specs.Prelude.{ℕ, zero, suc, ◌+◌, Bool, ◌&&◌, not, cond, List, [], ◌∷◌, eqb}
use Rattle.lists.specs.Below.{any_below, first_below, most_below}
use Rattle.bisimulation.specs.Systems.{System, View, Ranks}
use Rattle.bisimulation.specs.Judge.{meets2a, meets2c, is2a, is2b, is2c}
use Rattle.bisimulation.specs.StepPaths.{Cut}

-- The smallest state that some step which passes the test enters, and one more than the greatest end of a step where none passes.
unfoldable pub smallest_entered : System → (ℕ → Bool) → ℕ
smallest_entered S test = first_below (suc (most_below S.steps S.to)) (λ x. any_below S.steps (λ k. test k && eqb (S.to k) x))

-- Of the steps that pass, the first that enters the smallest state.
unfoldable pub smallest_step : System → (ℕ → Bool) → ℕ
smallest_step S test = first_below S.steps (λ k. test k && eqb (S.to k) (smallest_entered S test))

-- Some step leaves s.
unfoldable pub moves : System → ℕ → Bool
moves S s = any_below S.steps (λ j. eqb (S.from j) s)

-- No step more.
abbrev pub nothing : Cut
nothing = record { first = []; later = []; first' = []; later' = [] }

-- A new block on both sides, entered by j and by k, before the cut x.
abbrev pub enter : ℕ → ℕ → Cut → Cut
enter j k x = record { first = []; later = (j ∷ x.first) ∷ x.later; first' = []; later' = (k ∷ x.first') ∷ x.later' }

-- The own step j inside the first block, before the cut x.
abbrev pub grow : ℕ → Cut → Cut
grow j x = record { first = j ∷ x.first; later = x.later; first' = x.first'; later' = x.later' }

-- The other's step k inside the first block, before the cut x.
abbrev pub push : ℕ → Cut → Cut
push k x = record { first = x.first; later = x.later; first' = k ∷ x.first'; later' = x.later' }

-- Of three cuts the one of the first test that passes, and nothing where none does.
abbrev pub choose : Bool → Bool → Bool → Cut → Cut → Cut → Cut
choose a b c x y z = cond a x (cond b y (cond c z nothing))

-- At most N moves, from s with the steps J to go, facing t.
unfoldable pub match_steps : View → Ranks → ℕ → ℕ → List ℕ → ℕ → Cut
match_steps v r zero s J t = nothing
match_steps v r (suc N) s [] t =
    let k = smallest_step v.other (λ i. eqb (v.other.from i) t) in
    cond (not (moves v.own s) && moves v.other t) (push k (match_steps v r N s [] (v.other.to k))) nothing
match_steps v r (suc N) s (j ∷ J) t =
    let k = smallest_step v.other (meets2a v j t) in
    let e = smallest_step v.other (meets2c v r j t) in
    choose (is2a v j t) (is2b v r j t) (is2c v r j t)
    (enter j k (match_steps v r N (v.own.to j) J (v.other.to k)))
    (grow j (match_steps v r N (v.own.to j) J t))
    (push e (match_steps v r N s (j ∷ J) (v.other.to e)))

-- As many moves as it can make, where the other side has n states.
abbrev pub moves_needed : ℕ → List ℕ → ℕ
moves_needed n [] = suc n
moves_needed n (j ∷ J) = suc (n + moves_needed n J)

-- The path of the steps J from s, matched from t.
unfoldable pub match_path : View → Ranks → ℕ → List ℕ → ℕ → Cut
match_path v r s J t = match_steps v r (moves_needed v.other.states J) s J t
