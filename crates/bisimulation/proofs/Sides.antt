-- The paper's clauses of one side, read off the joint system and put together; and from them, that the maker finds no 22 and no 23.
-- The key idea: at an obligation that no run matches and whose step enters a state unrelated to t, only 2c is left, which leads to another
-- such t at a lower rank, for ever; and on a chain of unmatched steps only 2b is left, so a chain that comes back to a state would fall for ever.
-- Assumes nothing.
use Prim.Native.Nat.{ℕ, zero, suc, ◌≤◌, ◌<◌}
use mathlib.Core.Path.{◌≡◌, refl, sym, ap, subst, ◌∙◌}
use mathlib.Core.Logic.{◌↔◌, ◌⊎◌, inl, inr, ⊎_elim}
use mathlib.Core.HLevel.{Σ_prop_path}
use mathlib.Core.Bool.{◌&&◌, ◌||◌}
use mathlib.Core.List.{List, [], ◌∷◌, map}
use native.Mathlib.Nat.{le_of_suc-le-suc, not-suc-le-zero, le_refl}
use native.Mathlib.Bridge.{le_prop}
use native.Mathlib.Omega.{arith}
use native.Mathlib.Decide.{dec_lt}
use lib.Dec.{T, lt→ltb}
use lib.ListN.{length}
use Rattle.lists.specs.Lists.{All}
use Rattle.lists.proofs.BoolLaws.{and_i, or_l, or_r, T-dec}
use Rattle.bisimulation.specs.Maker.{matched, chain_length, none_unmatched, none_endless}
use Rattle.bisimulation.specs.Namjoshi.{
  NoDescent,
  Clause2a,
  Clause2b,
  Clause2cOpen,
  Clause2c,
  BisimulationBy,
  State,
  joint,
  Related,
  Bisimulation,
  BisimulationWithoutConjunct,
}
use Rattle.bisimulation.specs.Runs.{MatchingRun, Matched, StutteringChain}
use Rattle.bisimulation.specs.StepPaths.{StepPath}
use Rattle.bisimulation.specs.Systems.{System, Step, View, flip, WellFormed, Plain, LabelsEqual}
use Rattle.bisimulation.proofs.ClauseLaws.{pairs-i, steps-i}
use Rattle.bisimulation.proofs.Pigeonhole.{no_walk, pigeon}
use Rattle.bisimulation.proofs.RunLaws.{matched-iff, chain-some}
pub use Rattle.bisimulation.proofs.SideClauses.{Side2a, Side2b, Side2cOpen, Side2c, Met, OneSide}

-- one of three clauses for one of three others
pub clauses-map {κ λ'} : {A A' : Type 0} {B C : Type κ} {B' C' : Type λ'} → (A → A') → (B → B') → (C → A' ⊎ B' ⊎ C') → A ⊎ B ⊎ C → A' ⊎ B' ⊎ C'
clauses-map f g h (inl a) = inl (f a)
clauses-map f g h (inr (inl b)) = inr (inl (g b))
clauses-map f g h (inr (inr c)) = h c

-- the clauses of the joint system are the two sides' clauses
module _ {ℓ κ} (v : View) {W : Type ℓ} (≺ : W → W → Type κ) (rank : (joint v).S → (joint v).S → (joint v).S → W) where
  open v use {own, other}

  abbrev pub on_left : State own → State own → State other → W
  on_left u s t = rank (inl u) (inl s) (inr t)

  abbrev pub on_right : State other → State other → State own → W
  on_right u s t = rank (inr u) (inr s) (inl t)

  -- for any third clause that says the same of the joint system and of the sides
  module _ (Third : (joint v).S → (joint v).S → (joint v).S → Type κ)
      (X : State own → State other → State own → Type κ) (Y : State other → State own → State other → Type κ)
      (x : (s : State own) (t : State other) (u : State own) → Third (inl s) (inr t) (inl u) ↔ X s t u)
      (y : (s : State other) (t : State own) (u : State other) → Third (inr s) (inl t) (inr u) ↔ Y s t u) where
    to-sides : WellFormed v → BisimulationBy (joint v) ≺ rank (Related v) Third → LabelsEqual v × OneSide v ≺ on_left X × OneSide (flip v) ≺ on_right Y
    to-sides w b = (
      λ s t h. b.clause1 (inl (s, w.here.related< s t h)) (inr (t, w.there.related< t s h)) h,
      λ s t h u e. clauses-map (left-2a s t u) (λ c. c) (λ c. inr (inr ((x s t u).0 c))) (b.clause2 (inl s) (inr t) h (inl u) e),
      λ s t h u e. clauses-map (right-2a s t u) (λ c. c) (λ c. inr (inr ((y s t u).0 c))) (b.clause2 (inr s) (inl t) h (inr u) e),
    )
      where
        left-2a : (s : State own) (t : State other) (u : State own)
            → Clause2a (joint v) ≺ rank (Related v) (inl s) (inr t) (inl u) → Side2a v ≺ on_left s t u
        left-2a s t u (inl z, e, g) = absurd e
        left-2a s t u (inr z, e, g) = (z, e, g)

        right-2a : (s : State other) (t : State own) (u : State other)
            → Clause2a (joint v) ≺ rank (Related v) (inr s) (inl t) (inr u) → Side2a (flip v) ≺ on_right s t u
        right-2a s t u (inl z, e, g) = (z, e, g)
        right-2a s t u (inr z, e, g) = absurd e

    of-sides : LabelsEqual v × OneSide v ≺ on_left X × OneSide (flip v) ≺ on_right Y → BisimulationBy (joint v) ≺ rank (Related v) Third
    of-sides p = record { symmetric = sy; clause1 = c1; clause2 = c2 }
      where
        sy : (s t : (joint v).S) → Related v s t → Related v t s
        sy (inl s) (inl t) h = h
        sy (inl s) (inr t) h = h
        sy (inr s) (inl t) h = h
        sy (inr s) (inr t) h = h

        c1 : (s t : (joint v).S) → Related v s t → (joint v).L s ≡ (joint v).L t
        c1 (inl s) (inl t) h = absurd h
        c1 (inl s) (inr t) h = p.0 s.0 t.0 h
        c1 (inr s) (inl t) h = sym (p.0 t.0 s.0 h)
        c1 (inr s) (inr t) h = absurd h

        c2 : (s t : (joint v).S) → Related v s t → (u : (joint v).S) → (joint v).◌⟶◌ s u
            → Clause2a (joint v) ≺ rank (Related v) s t u ⊎ Clause2b (joint v) ≺ rank (Related v) s t u ⊎ Third s t u
        c2 (inl s) (inl t) h (inl u) e = absurd h
        c2 (inl s) (inl t) h (inr u) e = absurd h
        c2 (inl s) (inr t) h (inl u) e = clauses-map (λ a. (inr a.0, a.1, a.2)) (λ b. b) (λ c. inr (inr ((x s t u).1 c))) (p.1 s t h u e)
        c2 (inl s) (inr t) h (inr u) e = absurd e
        c2 (inr s) (inl t) h (inl u) e = absurd e
        c2 (inr s) (inl t) h (inr u) e = clauses-map (λ a. (inl a.0, a.1, a.2)) (λ b. b) (λ c. inr (inr ((y s t u).1 c))) (p.2 s t h u e)
        c2 (inr s) (inr t) h (inl u) e = absurd h
        c2 (inr s) (inr t) h (inr u) e = absurd h

  left_open : (s : State own) (t : State other) (u : State own)
      → Clause2cOpen (joint v) ≺ rank (Related v) (inl s) (inr t) (inl u) ↔ Side2cOpen v ≺ on_left s t u
  left_open s t u = (go, λ c. (inr c.0, c.1, c.2, c.3))
    where
      go : Clause2cOpen (joint v) ≺ rank (Related v) (inl s) (inr t) (inl u) → Side2cOpen v ≺ on_left s t u
      go (inl z, e, g, i) = absurd e
      go (inr z, e, g, i) = (z, e, g, i)

  right-open : (s : State other) (t : State own) (u : State other)
      → Clause2cOpen (joint v) ≺ rank (Related v) (inr s) (inl t) (inr u) ↔ Side2cOpen (flip v) ≺ on_right s t u
  right-open s t u = (go, λ c. (inl c.0, c.1, c.2, c.3))
    where
      go : Clause2cOpen (joint v) ≺ rank (Related v) (inr s) (inl t) (inr u) → Side2cOpen (flip v) ≺ on_right s t u
      go (inl z, e, g, i) = (z, e, g, i)
      go (inr z, e, g, i) = absurd e

  -- without the conjunct of 2c
  pub open-sides : WellFormed v → BisimulationWithoutConjunct v ≺ rank
      ↔ (LabelsEqual v × OneSide v ≺ on_left (Side2cOpen v ≺ on_left) × OneSide (flip v) ≺ on_right (Side2cOpen (flip v) ≺ on_right))
  open-sides w = (to-sides _ _ _ left_open right-open w, of-sides _ _ _ left_open right-open)

  -- and with it
  pub literal-sides : WellFormed v → Bisimulation v ≺ rank
      ↔ (LabelsEqual v × OneSide v ≺ on_left (Side2c v ≺ on_left) × OneSide (flip v) ≺ on_right (Side2c (flip v) ≺ on_right))
  literal-sides w = (to-sides _ _ _ left right w, of-sides _ _ _ left right)
    where
      left : (s : State own) (t : State other) (u : State own)
          → Clause2c (joint v) ≺ rank (Related v) (inl s) (inr t) (inl u) ↔ Side2c v ≺ on_left s t u
      left s t u = (λ c. (c.0, (left_open s t u).0 c.1), λ c. (c.0, (left_open s t u).1 c.1))

      right : (s : State other) (t : State own) (u : State other)
          → Clause2c (joint v) ≺ rank (Related v) (inr s) (inl t) (inr u) ↔ Side2c (flip v) ≺ on_right s t u
      right s t u = (λ c. (c.0, (right-open s t u).0 c.1), λ c. (c.0, (right-open s t u).1 c.1))

-- the i-th state of the path from s, its last where it is shorter
visit : System → ℕ → List ℕ → ℕ → ℕ
visit X s [] i = s
visit X s (j ∷ J) zero = s
visit X s (j ∷ J) (suc i) = visit X (X.to j) J i

module _ (X : System) where
  visit-all : (P : ℕ → Type 0) (J : List ℕ) (s : ℕ) → All P (s ∷ map X.to J) → (i : ℕ) → P (visit X s J i)
  unfolding visit
  visit-all P [] s a i = a.0
  visit-all P (j ∷ J) s a zero = a.0
  visit-all P (j ∷ J) s a (suc i) = visit-all P J (X.to j) a.1 i

  visit-zero : (J : List ℕ) (s : ℕ) → visit X s J 0 ≡ s
  unfolding visit
  visit-zero [] s = refl
  visit-zero (j ∷ J) s = refl

  visit-step : (P : ℕ → Type 0) (J : List ℕ) (s : ℕ) → StepPath X s J → All P J → (i : ℕ) → i < length J
      → (j : ℕ) × (j < X.steps) × (X.from j ≡ visit X s J i) × (X.to j ≡ visit X s J (suc i)) × P j
  unfolding visit
  visit-step P [] s p a i l = absurd (not-suc-le-zero l)
  visit-step P (j ∷ J) s p a zero l = (j, p.0, p.1, sym (visit-zero J (X.to j)), a.0)
  visit-step P (j ∷ J) s p a (suc i) l = visit-step P J (X.to j) p.2 a.1 i (le_of_suc-le-suc l)

module _ {ℓ κ} (v : View) (w : WellFormed v) (k : Plain v) {W : Type ℓ} (≺ : W → W → Type κ) (nd : NoDescent ≺)
    (ρ : State v.own → State v.own → State v.other → W) (O : OneSide v ≺ ρ (Side2c v ≺ ρ)) where
  open v use {own, other, related}

  -- an serve at t is a run with no step inside, and a step before a run makes a longer one
  one-run : (j t : ℕ) → T (related (own.from j) t) → (x : ℕ) × Step other t x × T (related (own.to j) x) → MatchingRun v j t []
  one-run j t h (x, e, g) = record { last = e.0; path = (e.1, e.2, tt); inside = tt; related = (h, tt); serves = k.serves j e.0; meets = rw e.3 g }

  longer-run : (j y x : ℕ) (K : List ℕ) → T (related (own.from j) y) → (e : Step other y x) → MatchingRun v j x K → MatchingRun v j y (e.0 ∷ K)
  longer-run j y x K h e r =
      record {
        last = r.last;
        path = (e.1, e.2, rw e.3 r.path);
        inside = (k.silent' e.0, r.inside);
        related = (h, rw e.3 r.related);
        serves = r.serves;
        meets = r.meets;
      }

  module _ (j : ℕ) (l : j < own.steps) where
    abbrev s₀ : State own
    s₀ = (own.from j, w.here.from< j l)

    abbrev u₀ : State own
    u₀ = (own.to j, w.here.to< j l)

    -- no run from this state matches j, and u is not related to it: only 2c is left, and leads to another such state
    record Stuck : Type 0 where
      at : State other
      here : T (related (own.from j) at.0)
      never : ¬ Matched v j at.0
      apart : T (related (own.to j) at.0) → ⊥

    stuck-next : (x : Stuck) → (y : Stuck) × ≺ (ρ u₀ s₀ y.at) (ρ u₀ s₀ x.at)
    stuck-next x =
        ⊎_elim (λ a. absurd (x.never ([], one-run j x.at.0 x.here (a.0.0, a.1, a.2))))
        (λ a. ⊎_elim (λ b. absurd (x.apart b.0)) (λ b. let c = b.1 in (
          record {
            at = c.0;
            here = c.2;
            never = λ m. x.never (c.1.0 ∷ m.0, longer-run j x.at.0 c.0.0 m.0 x.here c.1 m.1);
            apart = λ p. x.never ([], one-run j x.at.0 x.here (c.0.0, c.1, p));
          },
          c.3,
        )) a)
        (O s₀ x.at x.here u₀ (j, l, refl, refl))

    not_stuck : Stuck → ⊥
    not_stuck = no_walk ≺ nd (λ x. ρ u₀ s₀ x.at) stuck-next

    obligation-passes : (t : ℕ) → T (related (own.from j) t) → T (matched v j t || own.silent j && related (own.to j) t)
    obligation-passes t h =
        ⊎_elim (λ a. or_l (matched v j t) _ a)
        (λ a.
        ⊎_elim (λ b. or_r (matched v j t) _ (let c = k.silent j in search and_i))
        (λ b. absurd (not_stuck (record { at = (t, w.there.related< t (own.from j) h); here = h; never = λ m. a ((matched-iff v w j t).1 m); apart = b })))
        (T-dec (related (own.to j) t)))
        (T-dec (matched v j t))

  pub side-none-unmatched : T (none_unmatched v)
  unfolding none_unmatched
  side-none-unmatched = pairs-i v _ λ s t r. steps-i v s _ λ j l e. obligation-passes j l t (rw e r)

  module _ (s t : ℕ) (J : List ℕ) (c : StutteringChain v t s J) (long : own.states ≤ length J) where
    abbrev t₁ : State other
    t₁ = (t, w.there.related< t s c.related.0)

    near : (i : ℕ) → T (related (visit own s J i) t)
    near = visit-all own (λ x. T (related x t)) J s c.related

    abbrev on : ℕ → State own
    on i = (visit own s J i, w.here.related< _ t (near i))

    falls : (i : ℕ) → i < own.states → ≺ (ρ (on (suc i)) (on (suc i)) t₁) (ρ (on i) (on i) t₁)
    falls i l =
        let q = visit-step own (λ j. ¬ Matched v j t) J s c.path c.unmatched i (omega arith) in
        ⊎_elim (λ b. absurd (q.4 ([], one-run q.0 t (rw q.2 (near i)) (b.0.0, b.1, rw q.3 b.2))))
        (λ b. ⊎_elim (λ d. d.1) (λ d. absurd (d.0 (near (suc i)))) b)
        (O (on i) t₁ (near i) (on (suc i)) (q.0, q.1, q.2, q.3))

    -- round and round from the first of two equal states to the second
    no-long : ⊥
    no-long = no_walk ≺ nd (λ x. ρ (on x.0) (on x.0) t₁) next (i₀, le_refl _, d.2)
      where
        d : (i i' : ℕ) × (i < i') × (i' ≤ own.states) × (visit own s J i ≡ visit own s J i')
        d = pigeon own.states (visit own s J) (λ i l. (on i).1)

        i₀ : ℕ
        i₀ = d.0

        same : on d.1 ≡ on d.0
        same = Σ_prop_path (λ x. le_prop) (sym d.4)

        next : (x : (i : ℕ) × (d.0 ≤ i) × (i < d.1)) → (y : (i : ℕ) × (d.0 ≤ i) × (i < d.1))
            × ≺ (ρ (on y.0) (on y.0) t₁) (ρ (on x.0) (on x.0) t₁)
        next x = elim (dec_lt (suc x.0) d.1) [
          | yes g ↦ ((suc x.0, omega arith, g), falls x.0 (omega (arith, d.3)))
          | no g ↦ (
            (d.0, le_refl _, d.2),
            subst (λ z. ≺ (ρ z z t₁) (ρ (on x.0) (on x.0) t₁))
                (ap on (let e : suc x.0 ≡ d.1 = omega arith in e) ∙ same)
                (falls x.0 (omega (arith, d.3))),
          )
        ]

  pub side-none-endless : T (none_endless v)
  unfolding none_endless
  side-none-endless = pairs-i v _ λ s t r. elim (dec_lt (chain_length v t own.states s) own.states) [
    | yes h ↦ lt→ltb _ _ h
    | no h ↦ absurd (let c = chain-some v w t own.states s r in no-long s t c.0 c.1 (omega (arith, c.2)))
  ]
