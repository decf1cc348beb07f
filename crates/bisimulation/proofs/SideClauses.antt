-- The paper's clauses of one side: clause 2 in its three parts, for an own state s, its step to u, and a state t of the other.
use mathlib.Core.Logic.{◌⊎◌}
use lib.Dec.{T}
use Rattle.bisimulation.specs.Namjoshi.{State}
use Rattle.bisimulation.specs.Systems.{Step, View}

-- the paper's clauses for an own state s, its step to u, and a state t of the other
module _ {ℓ κ} (v : View) {W : Type ℓ} (≺ : W → W → Type κ) (ρ : State v.own → State v.own → State v.other → W) where
  open v use {own, other, related}

  abbrev pub Side2a : State own → State other → State own → Type 0
  Side2a s t u = (x : State other) × Step other t.0 x.0 × T (related u.0 x.0)

  abbrev pub Side2b : State own → State other → State own → Type κ
  Side2b s t u = T (related u.0 t.0) × ≺ (ρ u u t) (ρ s s t)

  abbrev pub Side2cOpen : State own → State other → State own → Type κ
  Side2cOpen s t u = (x : State other) × Step other t.0 x.0 × T (related s.0 x.0) × ≺ (ρ u s x) (ρ u s t)

  abbrev pub Side2c : State own → State other → State own → Type κ
  Side2c s t u = (¬ T (related u.0 t.0)) × Side2cOpen s t u

  -- clause 2, with the third clause left open
  abbrev pub Met : (State own → State other → State own → Type κ) → State own → State other → State own → Type κ
  Met Third s t u = Side2a s t u ⊎ Side2b s t u ⊎ Third s t u

  abbrev pub OneSide : (State own → State other → State own → Type κ) → Type κ
  OneSide Third = (s : State own) (t : State other) → T (related s.0 t.0) → (u : State own) → Step own s.0 u.0 → Met Third s t u
