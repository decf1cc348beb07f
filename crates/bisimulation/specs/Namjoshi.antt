-- Source document 002 (Namjoshi 1997), section 2: transition systems and well-founded bisimulations, clause by clause; and two tables as one system.
use Rattle.std.specs.Prelude.{ℕ, suc, ◌<◌, ◌≡◌, ◌⊎◌, T}
use Rattle.std.proofs.Common.{inl, inr}
use Rattle.bisimulation.specs.Systems.{System, Step, View}

-- Definition (Transition System): (S, →, L, I, AP). A label, which there is a set of propositions, is a number here.
pub record TransitionSystem : Type 1 where
  pub S : Type 0
  pub ◌⟶◌ : S → S → Type 0
  pub L : S → ℕ
  pub I : S → Type 0

-- Footnote 3: (W, ≺) is well-founded where there is no a.0, a.1, .. with a.(i+1) ≺ a.i for every i.
abbrev pub NoDescent {ℓ κ} : {W : Type ℓ} → (W → W → Type κ) → Type (ℓ ⊔ κ)
NoDescent {W} ≺ = (a : ℕ → W) → ((i : ℕ) → ≺ (a (suc i)) (a i)) → ⊥

-- Definition (Well-Founded Bisimulation): B on A with respect to rank.
module _ {ℓ κ} (A : TransitionSystem) {W : Type ℓ} (◌≺◌ : W → W → Type κ) (rank : A.S → A.S → A.S → W) (B : A.S → A.S → Type 0) where
  infix 4 ◌≺◌
  infix 4 ◌⟶◌
  open A use {S, ◌⟶◌, L}

  -- (a) there is v with t → v and (u, v) ∈ B
  abbrev pub Clause2a : S → S → S → Type 0
  Clause2a s t u = (v : S) × (t ⟶ v) × B u v

  -- (b) (u, t) ∈ B and rank.(u, u, t) ≺ rank.(s, s, t)
  abbrev pub Clause2b : S → S → S → Type κ
  Clause2b s t u = B u t × (rank u u t ≺ rank s s t)

  -- (c) without its conjunct (u, t) ∉ B: there is v with t → v, (s, v) ∈ B and rank.(u, s, v) ≺ rank.(u, s, t)
  abbrev pub Clause2cOpen : S → S → S → Type κ
  Clause2cOpen s t u = (v : S) × (t ⟶ v) × B s v × (rank u s v ≺ rank u s t)

  -- (c) (u, t) ∉ B and there is v with t → v, (s, v) ∈ B and rank.(u, s, v) ≺ rank.(u, s, t)
  abbrev pub Clause2c : S → S → S → Type κ
  Clause2c s t u = (¬ B u t) × Clause2cOpen s t u

  -- The definition, over what stands in the place of (c).
  pub record BisimulationBy (Third : S → S → S → Type κ) : Type κ where
    pub symmetric : (s t : S) → B s t → B t s
    pub clause1 : (s t : S) → B s t → L s ≡ L t
    pub clause2 : (s t : S) → B s t → (u : S) → s ⟶ u → Clause2a s t u ⊎ Clause2b s t u ⊎ Third s t u

  -- The paper's.
  abbrev pub WellFoundedBisimulation : Type κ
  WellFoundedBisimulation = BisimulationBy Clause2c

  -- By document 01's clauses, where (c) has no such conjunct.
  abbrev pub WellFoundedWithoutConjunct : Type κ
  WellFoundedWithoutConjunct = BisimulationBy Clause2cOpen

-- A table as a transition system: its states are the numbers below their count.
abbrev pub State : System → Type 0
State X = (s : ℕ) × (s < X.states)

abbrev pub system : System → TransitionSystem
system X = record { S = State X; ◌⟶◌ = λ s u. Step X s.0 u.0; L = λ s. X.label s.0; I = λ s. T (X.initial s.0) }

-- Two transition systems side by side.
module _ (A A' : TransitionSystem) where
  abbrev pub UnionStep : A.S ⊎ A'.S → A.S ⊎ A'.S → Type 0
  UnionStep (inl s) (inl u) = A.◌⟶◌ s u
  UnionStep (inl s) (inr u) = ⊥
  UnionStep (inr s) (inl u) = ⊥
  UnionStep (inr s) (inr u) = A'.◌⟶◌ s u

  abbrev pub union_label : A.S ⊎ A'.S → ℕ
  union_label (inl s) = A.L s
  union_label (inr s) = A'.L s

  abbrev pub UnionInitial : A.S ⊎ A'.S → Type 0
  UnionInitial (inl s) = A.I s
  UnionInitial (inr s) = A'.I s

  abbrev pub union : TransitionSystem
  union = record { S = A.S ⊎ A'.S; ◌⟶◌ = UnionStep; L = union_label; I = UnionInitial }

  -- The symmetric relation on them that a relation from the one to the other gives.
  abbrev pub BothWays : (A.S → A'.S → Type 0) → A.S ⊎ A'.S → A.S ⊎ A'.S → Type 0
  BothWays R (inl s) (inl t) = ⊥
  BothWays R (inl s) (inr t) = R s t
  BothWays R (inr t) (inl s) = R s t
  BothWays R (inr s) (inr t) = ⊥

-- The two tables side by side, and the relation on them.
abbrev pub joint : View → TransitionSystem
joint v = union (system v.own) (system v.other)

abbrev pub Related : (v : View) → (joint v).S → (joint v).S → Type 0
Related v = BothWays (system v.own) (system v.other) (λ s t. T (v.related s.0 t.0))

-- The relation is a well-founded bisimulation of the two tables, with respect to this rank.
abbrev pub Bisimulation {ℓ κ} : (v : View) {W : Type ℓ} → (W → W → Type κ) → ((joint v).S → (joint v).S → (joint v).S → W) → Type κ
Bisimulation v ≺ rank = WellFoundedBisimulation (joint v) ≺ rank (Related v)

-- The same by the clauses without the conjunct (u, t) ∉ B of (c).
abbrev pub BisimulationWithoutConjunct {ℓ κ} : (v : View) {W : Type ℓ} → (W → W → Type κ) → ((joint v).S → (joint v).S → (joint v).S → W) → Type κ
BisimulationWithoutConjunct v ≺ rank = WellFoundedWithoutConjunct (joint v) ≺ rank (Related v)

-- Each initial state of the one table is related to some initial state of the other.
abbrev pub InitialStatesRelated : View → Type 0
InitialStatesRelated v =
    ((s : State v.own) → (joint v).I (inl s) → (t : State v.other) × (joint v).I (inr t) × Related v (inl s) (inr t))
    × ((t : State v.other) → (joint v).I (inr t) → (s : State v.own) × (joint v).I (inl s) × Related v (inl s) (inr t))

-- The relation is a well-founded bisimulation with respect to some rank into some well-founded order.
abbrev pub SomeRank : View → Type 1
SomeRank v = (W : Type 0) × (≺ : W → W → Type 0) × NoDescent ≺ × (rank : (joint v).S → (joint v).S → (joint v).S → W) × Bisimulation v ≺ rank
