-- Demand 2 for plain tables: the relations that have an accepted certificate are the paper's well-founded bisimulations with initial states
-- related, and how a certificate's ranks and the paper's rank of triples meet. The key idea: for a step from a state to itself the paper's 2c
-- is shut, and without its conjunct 2c implies 2a there, so a triple (u, s, t) names either the pair (s, t) or the step from s to u, and its
-- rank is an A rank or a C rank. Assumes nothing.
use Prim.Native.Nat.{ℕ, ◌≤◌, ◌<◌}
use mathlib.Core.Path.{◌≡◌, refl, ap, subst, ◌∙◌}
use mathlib.Core.HLevel.{Σ_prop_path}
use mathlib.Core.Logic.{◌↔◌, inl, inr}
use native.Mathlib.Bridge.{le_prop}
use native.Mathlib.Decide.{ℕ_discrete}
use lib.Dec.{T, eqb, eqb→eq, eqb_refl}
use Rattle.lists.proofs.BoolLaws.{and_i, cond-true, cond-false}
use Rattle.bisimulation.specs.Clauses.{Meets2a, Meets2b, Meets2c, Meets, MeetsLiterally, EveryObligation, Certified}
use Rattle.bisimulation.specs.Judge.{accepts}
use Rattle.bisimulation.specs.Maker.{made, succeeds}
use Rattle.bisimulation.specs.Namjoshi.{NoDescent, State, joint, Bisimulation, BisimulationWithoutConjunct, InitialStatesRelated, SomeRank}
use Rattle.bisimulation.specs.PathProperty.{PathProperty}
use Rattle.bisimulation.specs.Systems.{NoTwice, View, flip, Ranks, swap, Bytes, WellFormed, Plain, StartsRule, LabelsEqual}
use Rattle.bisimulation.specs.Triples.{step_of, own_rank, triple_rank, raised}
use Rattle.bisimulation.proofs.ClauseLaws.{flip-formed, initial-i, labels-i}
use Rattle.bisimulation.proofs.Equivalences.{succeeds-iff-bytes, succeeds-iff-property}
use Rattle.bisimulation.proofs.Literal.{accepted-literal, literal-accepted}
use Rattle.bisimulation.proofs.Made.{made-accepted}
use Rattle.bisimulation.proofs.Pigeonhole.{no_descent}
use Rattle.bisimulation.proofs.PlainPaths.{step-of, flip-plain}
use Rattle.bisimulation.proofs.Sides.{
  clauses-map,
  Side2a,
  Side2b,
  Side2cOpen,
  Side2c,
  Met,
  OneSide,
  on_left,
  on_right,
  open-sides,
  literal-sides,
  side-none-unmatched,
  side-none-endless,
}

module _ (v : View) (r : Ranks) where
  rank_same : (s t : ℕ) → own_rank v r s s t ≡ r.stutter s t
  unfolding own_rank
  rank_same s t = cond-true (eqb s s) _ _ (eqb_refl s)

  rank_step : (u s t : ℕ) → ¬ (u ≡ s) → own_rank v r u s t ≡ r.match (step_of v.own s u) t
  unfolding own_rank
  rank_step u s t h = cond-false (eqb u s) _ _ (λ e. h (eqb→eq u s e))

-- one side: the paper's clauses with the rank of triples that a certificate gives are the clauses with its A and C ranks
module _ (v : View) (w : WellFormed v) (k : Plain v) (r : Ranks) where
  open v use {own, other, related}

  abbrev ρ : State own → State own → State other → ℕ
  ρ u s t = own_rank v r u.0 s.0 t.0

  -- at the first step j with its ends, and a state t of the other
  module _ (j t : ℕ) (l : j < own.steps) (lt : t < other.states) (first : step_of own (own.from j) (own.to j) ≡ j) where
    abbrev s₁ : State own
    s₁ = (own.from j, w.here.from< j l)

    abbrev u₁ : State own
    u₁ = (own.to j, w.here.to< j l)

    abbrev t₁ : State other
    t₁ = (t, lt)

    at-2a : Meets2a v j t ↔ Side2a v ◌<◌ ρ s₁ t₁ u₁
    at-2a = (
      λ a. ((other.to a.0, w.there.to< a.0 a.1), (a.0, a.1, a.2, refl), a.4),
      λ a. let e = a.1 in (e.0, e.1, e.2, k.serves j e.0, rw e.3 a.2),
    )

    at-2b : Meets2b v r j t ↔ Side2b v ◌<◌ ρ s₁ t₁ u₁
    at-2b = (
      λ a. (a.0.1, rw (rank_same v r (own.to j) t, rank_same v r (own.from j) t) a.1),
      λ a. ((k.silent j, a.0), rw (rank_same v r (own.to j) t, rank_same v r (own.from j) t) at a.1),
    )

    rank_is : ¬ (own.to j ≡ own.from j) → (x : ℕ) → own_rank v r (own.to j) (own.from j) x ≡ r.match j x
    rank_is n x = rank_step v r (own.to j) (own.from j) x n ∙ ap (λ i. r.match i x) first

    -- where j goes to another state
    at-2c : ¬ (own.to j ≡ own.from j) → Meets2c v r j t ↔ Side2cOpen v ◌<◌ ρ s₁ t₁ u₁
    at-2c n = (
      λ a. ((other.to a.0, w.there.to< a.0 a.1), (a.0, a.1, a.2, refl), a.4, rw (rank_is n (other.to a.0), rank_is n t) a.5),
      λ a. let e = a.1 in (e.0, e.1, e.2, k.silent' e.0, rw e.3 a.2, rw e.3 (rw (rank_is n a.0.0, rank_is n t) at a.3)),
    )

    -- the rank at a step from a state to itself is an A rank, but there 2c, by whichever rank, implies 2a
    open_at : T (related (own.from j) t) → Meets v r j t ↔ Met v ◌<◌ ρ (Side2cOpen v ◌<◌ ρ) s₁ t₁ u₁
    open_at h = (
      clauses-map at-2a.0 at-2b.0 λ c. elim (ℕ_discrete (own.to j) (own.from j)) [
        | yes f ↦ inl (at-2a.0 (c.0, c.1, c.2, k.serves j c.0, rw f c.4))
        | no n ↦ inr (inr ((at-2c n).0 c))
      ],
      clauses-map at-2a.1 at-2b.1 λ c. elim (ℕ_discrete (own.to j) (own.from j)) [
        | yes f ↦ inl (at-2a.1 (c.0, c.1, rw f c.2))
        | no n ↦ inr (inr ((at-2c n).1 c))
      ],
    )

    -- and the paper's conjunct rules such a step out
    literal-at : T (related (own.from j) t) → MeetsLiterally v r j t ↔ Met v ◌<◌ ρ (Side2c v ◌<◌ ρ) s₁ t₁ u₁
    literal-at h = (
      clauses-map at-2a.0 at-2b.0 λ c.
          let n : ¬ T (related (own.to j) t) = λ g. c.0 (k.silent j, g) in
          inr (inr (n, (at-2c (λ f. n (rw f h))).0 c.1)),
      clauses-map at-2a.1 at-2b.1 λ c. inr (inr (λ p. c.0 p.1, (at-2c (λ f. c.0 (rw f h))).1 c.1)),
    )

  -- every obligation, for any clauses that say the same at the first step with its ends
  module _ (Clauses : ℕ → ℕ → Type 0) (Third : State own → State other → State own → Type 0)
      (same : (j t : ℕ) (l : j < own.steps) (lt : t < other.states) → step_of own (own.from j) (own.to j) ≡ j → T (related (own.from j) t)
      → Clauses j t ↔ Met v ◌<◌ ρ Third (own.from j, w.here.from< j l) (t, lt) (own.to j, w.here.to< j l)) where
    to-side : ((j t : ℕ) → j < own.steps → T (related (own.from j) t) → Clauses j t) → OneSide v ◌<◌ ρ Third
    to-side D (s, ls) (t, lt) h (u, lu) e =
        let j = step_of own s u in
        let q = step-of own s u e in
        let g : T (related (own.from j) t) = rw q.1 h in
        let m = (same j t q.0 lt (rw (q.1, q.2)) g).0 (D j t q.0 g) in
        subst (λ (x : State own). Met v ◌<◌ ρ Third x (t, lt) (u, lu)) (Σ_prop_path (λ x. le_prop) q.1)
        (subst (λ (x : State own). Met v ◌<◌ ρ Third (own.from j, w.here.from< j q.0) (t, lt) x) (Σ_prop_path (λ x. le_prop) q.2) m)

    of-side : NoTwice own → OneSide v ◌<◌ ρ Third → (j t : ℕ) → j < own.steps → T (related (own.from j) t) → Clauses j t
    of-side once O j t l h =
        let q = step-of own (own.from j) (own.to j) (j, l, refl, refl) in
        let lt = w.there.related< t (own.from j) h in
        (same j t l lt (once _ j q.0 l q.1 q.2) h).1 (O (own.from j, w.here.from< j l) (t, lt) h (own.to j, w.here.to< j l) (j, l, refl, refl))

  literal-side : EveryObligation MeetsLiterally v r → OneSide v ◌<◌ ρ (Side2c v ◌<◌ ρ)
  literal-side = to-side (MeetsLiterally v r) _ literal-at

  side-literal : NoTwice own → OneSide v ◌<◌ ρ (Side2c v ◌<◌ ρ) → EveryObligation MeetsLiterally v r
  side-literal = of-side (MeetsLiterally v r) _ literal-at

  open-side : EveryObligation Meets v r → OneSide v ◌<◌ ρ (Side2cOpen v ◌<◌ ρ)
  open-side = to-side (Meets v r) _ open_at

  side-open : NoTwice own → OneSide v ◌<◌ ρ (Side2cOpen v ◌<◌ ρ) → EveryObligation Meets v r
  side-open = of-side (Meets v r) _ open_at

-- initial states by number and by the paper's states
pub initial-by-number : (v : View) → WellFormed v → InitialStatesRelated v → StartsRule v
initial-by-number v w p = (
  λ s a. let q = p.0 (s, w.here.initial< s a) a in (q.0.0, q.1, q.2),
  λ t a. let q = p.1 (t, w.there.initial< t a) a in (q.0.0, q.1, q.2),
)

pub initial-by-state : (v : View) → WellFormed v → StartsRule v → InitialStatesRelated v
initial-by-state v w p = (
  λ s a. let q = p.0 s.0 a in ((q.0, w.there.initial< q.0 q.1), q.1, q.2),
  λ t a. let q = p.1 t.0 a in ((q.0, w.here.initial< q.0 q.1), q.1, q.2),
)

module _ (v : View) (w : WellFormed v) (k : Plain v) where
  -- A and C ranks that meet the paper's clauses give a rank of triples that does
  literal-bisimulation : (r : Ranks) → Certified MeetsLiterally v r → Bisimulation v ◌<◌ (triple_rank v r)
  literal-bisimulation r c =
      let g = literal-side (flip v) (flip-formed v w) (flip-plain v k) (swap r) c.other-met in
      (literal-sides v ◌<◌ (triple_rank v r) w).1 (c.labels, literal-side v w k r c.own-met, g)

  -- initial states, labels and the obligations of both sides, put together
  certified-of : (Clauses : View → Ranks → ℕ → ℕ → Type 0) (r : Ranks) → InitialStatesRelated v → LabelsEqual v
      → EveryObligation Clauses v r → EveryObligation Clauses (flip v) (swap r) → Certified Clauses v r
  certified-of Clauses r p m f g = record { starts = initial-by-number v w p; labels = m; own-met = f; other-met = g }

  -- Demand 2, how the two meet, from the paper to document 01: a certificate of which the paper's clauses hold literally is accepted
  pub bisimulation-accepted : NoTwice v.own → NoTwice v.other → (r : Ranks)
      → InitialStatesRelated v → Bisimulation v ◌<◌ (triple_rank v r) → T (accepts v r)
  bisimulation-accepted o o' r p b =
      let q = (literal-sides v ◌<◌ (triple_rank v r) w).0 b in
      let f = side-literal v w k r o q.1 in
      let g = side-literal (flip v) (flip-formed v w) (flip-plain v k) (swap r) o' q.2 in
      literal-accepted v w r (certified-of MeetsLiterally r p q.0 f g)

  -- Demand 2, how the two meet, from document 01 to the paper: an accepted certificate's ranks, once the A ranks are raised,
  -- satisfy the paper's clauses literally
  pub accepted-bisimulation : (r : Ranks) → T (accepts v r) → InitialStatesRelated v × Bisimulation v ◌<◌ (triple_rank v (raised v r))
  accepted-bisimulation r h =
      let c = accepted-literal v w r h in
      (initial-by-state v w c.starts, literal-bisimulation (raised v r) c)

  -- Demand 2, how the two meet, both ways: document 01's clauses hold of A and C ranks as they stand exactly where the paper's clauses without
  -- the conjunct of 2c hold of the rank of triples that they give
  pub certified-iff-triples : NoTwice v.own → NoTwice v.other → (r : Ranks)
      → Certified Meets v r ↔ (InitialStatesRelated v × BisimulationWithoutConjunct v ◌<◌ (triple_rank v r))
  certified-iff-triples o o' r =
      let s = open-sides v ◌<◌ (triple_rank v r) w in (
        λ c. (
          initial-by-state v w c.starts,
          s.1 (c.labels, open-side v w k r c.own-met, open-side (flip v) (flip-formed v w) (flip-plain v k) (swap r) c.other-met),
        ),
        λ p.
            let q = s.0 p.1 in
            certified-of Meets r p.0 q.0 (side-open v w k r o q.1) (side-open (flip v) (flip-formed v w) (flip-plain v k) (swap r) o' q.2),
      )

  -- whatever the order and the rank, the maker succeeds
  pub bisimulation-succeeds : {W : Type 0} (≺ : W → W → Type 0) → NoDescent ≺
      → (rank : (joint v).S → (joint v).S → (joint v).S → W)
      → InitialStatesRelated v → Bisimulation v ≺ rank → T (succeeds v)
  unfolding succeeds
  bisimulation-succeeds ≺ nd rank p b =
      let z = initial-by-number v w p in
      let q = (literal-sides v ≺ rank w).0 b in
      let a = initial-i v w z.0 in
      let a' = initial-i (flip v) (flip-formed v w) z.1 in
      let m = labels-i v q.0 in
      let c = side-none-unmatched v w k ≺ nd (on_left v ≺ rank) q.1 in
      let d = side-none-unmatched (flip v) (flip-formed v w) (flip-plain v k) ≺ nd (on_right v ≺ rank) q.2 in
      let e = side-none-endless v w k ≺ nd (on_left v ≺ rank) q.1 in
      let f = side-none-endless (flip v) (flip-formed v w) (flip-plain v k) ≺ nd (on_right v ≺ rank) q.2 in
      search and_i

  -- Demand 2, which relations: some certificate with byte ranks is accepted exactly where the relation is a well-founded bisimulation
  -- with initial states related
  pub accepted-iff-bisimulation : v.own.states ≤ 64 → v.other.states ≤ 64
      → ((r : Ranks) × Bytes r × T (accepts v r)) ↔ (InitialStatesRelated v × SomeRank v)
  accepted-iff-bisimulation a b = (
    λ p. let q = accepted-bisimulation p.0 p.2 in (q.0, (ℕ, ◌<◌, no_descent, triple_rank v (raised v p.0), q.1)),
    λ p. (succeeds-iff-bytes v w a b).0 (bisimulation-succeeds p.1.1 p.1.2 p.1.3 p.0 p.1.4),
  )

  -- the paper's Theorem 6 for two tables, with the path property in the place of stuttering bisimulation
  pub bisimulation-iff-property : (InitialStatesRelated v × SomeRank v) ↔ PathProperty v
  bisimulation-iff-property = (
    λ p. (succeeds-iff-property v w k).0 (bisimulation-succeeds p.1.1 p.1.2 p.1.3 p.0 p.1.4),
    λ p.
        let q = accepted-bisimulation (made v) (made-accepted v w ((succeeds-iff-property v w k).1 p)) in
        (q.0, (ℕ, ◌<◌, no_descent, triple_rank v (raised v (made v)), q.1)),
  )
