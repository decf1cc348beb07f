-- Inner: the open steps of a side at a state t of the other side, those that may stand in a chain at t, kept in a list of their own, and one round over them.
use Rattle.std.specs.Prelude.{ℕ, suc, ◌≤◌, ◌<◌, ◌≡◌, Bool, true, false, cond, ◌&&◌, List, ltb, eqb, length, get_or}
use Rattle.lists.specs.Below.{most_below}
use Rattle.bisimulation.specs.Systems.{System}
use Rattle.lengths.specs.declared.Kept.{Kept}

-- The kept step j; past the last one a step from 0 to 0.
abbrev pub kept_at : List Kept → ℕ → Kept
kept_at kept j = get_or kept j (record { from = 0; to = 0 })

-- The system of the kept steps, given by the states that they leave and enter.
abbrev pub kept_system : List Kept → System
kept_system kept =
    record {
      states = 64;
      steps = length kept;
      initial = λ s. false;
      label = λ s. 0;
      from = λ j. (kept_at kept j).from;
      to = λ j. (kept_at kept j).to;
      silent = λ j. true;
    }

-- The test that every step passes.
abbrev pub every : ℕ → Bool
every j = true

-- Step j is open: it leaves a state below 64, and passes the test.
unfoldable pub is_open : System → (ℕ → Bool) → ℕ → Bool
is_open S test j = ltb (S.from j) 64 && test j

-- One more than the greatest length over the next states of s by those of the first m steps that pass the test, and 0 where there is none.
unfoldable pub longest : System → (ℕ → Bool) → (ℕ → ℕ) → ℕ → ℕ → ℕ
longest S test lengths m s = most_below m (λ j. cond (eqb (S.from j) s && test j) (suc (lengths (S.to j))) 0)

-- The ends of the kept steps are below 64.
pub record Ends (kept : List Kept) : Type 0 where
  pub from< : (i : ℕ) → i < length kept → (kept_at kept i).from < 64
  pub to< : (i : ℕ) → i < length kept → (kept_at kept i).to < 64

-- The list has the open ones of the first j steps: they are as many at most, lie below 64, and give each state the same greatest length.
pub record Open (S : System) (test : ℕ → Bool) (j : ℕ) (kept : List Kept) : Type 0 where
  pub few : length kept ≤ j
  pub ends : Ends kept
  pub same : (lengths : ℕ → ℕ) (s : ℕ) → s < 64 → longest (kept_system kept) every lengths (length kept) s ≡ longest S test lengths j s
