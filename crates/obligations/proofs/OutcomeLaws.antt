-- The outcome of an obligation is what the documents' words say, and these leave one outcome only. Assumes nothing.
use Rattle.outcomes.specs.declared.Outcome.{Outcome}
use Rattle.outcomes.specs.declared.Outcome.TheVariants.{Met, Failed}
use Prim.Native.Nat.{ℕ}
use mathlib.Core.Path.{◌≡◌, refl, subst}
use mathlib.Core.Logic.{inl, inr, ⊎_elim}
use mathlib.Core.Bool.{Bool, true, false, cond}
use native.Mathlib.Omega.{arith}
use lib.Dec.{T, ltb, eqb→eq, ltb→lt, lt→ltb}
use Rattle.lists.specs.Below.{Smallest}
use Rattle.lists.proofs.BoolLaws.{and_l, and_r, and_i, eq→eqb}
use Rattle.lists.proofs.BelowLaws.{smallest-as, smallest-one}
use Rattle.answers.proofs.DecideLaws.{Decides, decides-as, test-decides, eqb-decides, not-decides, and-decides, any-decides}
use Rattle.bisimulation.specs.Systems.{View, Ranks}
use Rattle.bisimulation.specs.Clauses.{Meets2a, Meets2b, Meets2c, Meets}
use Rattle.bisimulation.specs.Judge.{meets2a, meets2c, is2a, is2b, is2c}
use Rattle.bisimulation.specs.Matcher.{smallest_entered}
use Rattle.bisimulation.specs.Triples.{ahead}
use Rattle.bisimulation.proofs.ClauseLaws.{Enters, smallest-entered, is2a-e, is2a-i, is2b-e, is2b-i, is2c-e, is2c-i}
use Rattle.outcomes.specs.declared.Clause.{Clause}
use Rattle.outcomes.specs.declared.Clause.TheVariants.{Step, Stutter, Match}
use Rattle.outcomes.specs.declared.Failure.TheVariants as failure
use Rattle.outcomes.specs.Obligation.{outcome_after2a, is_apart, obligation_at}
use Rattle.obligations.specs.Outcomes.{Apart, MetFirstBy, ServesBy, HasOutcome}

-- ---- the tests decide the words

pub apart-decides : (v : View) (j t : ℕ) → Decides (is_apart v j t) (Apart v j t)
unfolding is_apart ahead
apart-decides v j t =
    decides-as
    (and-decides (not-decides (and-decides (test-decides (v.own.silent j)) (test-decides (v.related (v.own.to j) t))))
    (not-decides (any-decides v.other.steps (λ k.
    and-decides (and-decides (eqb-decides (v.other.from k) t) (test-decides (v.other.silent k)))
    (test-decides (v.related (v.own.from j) (v.other.to k)))))))
    (λ p. (p.0, λ k l e q h. p.1 (k, l, ((e, q), h)))) (λ p. (p.0, λ q. p.1 q.0 q.1 q.2.0.0 q.2.0.1 q.2.1))

pub step-decides : (v : View) (j t : ℕ) → Decides (is2a v j t) (Meets2a v j t)
step-decides v j t = record { sound = is2a-e v j t; complete = is2a-i v j t }

pub stutter-decides : (v : View) (r : Ranks) (j t : ℕ) → Decides (is2b v r j t) (Meets2b v r j t)
stutter-decides v r j t = record { sound = is2b-e v r j t; complete = is2b-i v r j t }

pub match-decides : (v : View) (r : Ranks) (j t : ℕ) → Decides (is2c v r j t) (Meets2c v r j t)
match-decides v r j t = record { sound = is2c-e v r j t; complete = is2c-i v r j t }

module _ (v : View) (r : Ranks) (j t : ℕ) where
  open v use {own, other, related, serves}

  -- ---- the smallest state that serves

  step-serves : T (is2a v j t) → Smallest (ServesBy v r j t Step) (smallest_entered other (meets2a v j t))
  unfolding is2a
  step-serves h = smallest-as (Enters other (meets2a v j t)) (ServesBy v r j t Step) go back (smallest-entered other (meets2a v j t) h)
    where
      go : (x : ℕ) → Enters other (meets2a v j t) x → ServesBy v r j t Step x
      go x q =
          let d = q.2 in
          let g : T (related (own.to j) (other.to q.0)) = search (and_l, and_r) in
          (q.0, q.1, eqb→eq _ _ (search (and_l, and_r)), q.3, search (and_l, and_r), rw q.3 at g)

      back : (x : ℕ) → ServesBy v r j t Step x → Enters other (meets2a v j t) x
      back x q =
          let e = eq→eqb _ _ q.2 in
          let d = q.4 in
          let g : T (related (own.to j) (other.to q.0)) = rw q.3 q.5 in
          (q.0, q.1, search and_i, q.3)

  match-serves : T (is2c v r j t) → Smallest (ServesBy v r j t Match) (smallest_entered other (meets2c v r j t))
  unfolding is2c
  match-serves h = smallest-as (Enters other (meets2c v r j t)) (ServesBy v r j t Match) go back (smallest-entered other (meets2c v r j t) h)
    where
      go : (x : ℕ) → Enters other (meets2c v r j t) x → ServesBy v r j t Match x
      go x q =
          let d = q.2 in
          let g : T (related (own.from j) (other.to q.0)) = search (and_l, and_r) in
          let f : T (ltb (r.match j (other.to q.0)) (r.match j t)) = search (and_l, and_r) in
          (q.0, q.1, eqb→eq _ _ (search (and_l, and_r)), q.3, search (and_l, and_r), rw q.3 at g, ltb→lt _ _ (rw q.3 at f))

      back : (x : ℕ) → ServesBy v r j t Match x → Enters other (meets2c v r j t) x
      back x q =
          let e = eq→eqb _ _ q.2 in
          let d = q.4 in
          let g : T (related (own.from j) (other.to q.0)) = rw q.3 q.5 in
          let f : T (ltb (r.match j (other.to q.0)) (r.match j t)) = rw q.3 (lt→ltb _ _ q.6) in
          (q.0, q.1, search and_i, q.3)

  -- ---- the outcome

  has-outcome : (a b c d : Bool) (x y : ℕ)
      → Decides a (Meets2a v j t) → Decides b (Meets2b v r j t) → Decides c (Meets2c v r j t) → Decides d (Apart v j t)
      → (T a → Smallest (ServesBy v r j t Step) x) → (T c → Smallest (ServesBy v r j t Match) y)
      → HasOutcome v r j t (cond a (Met Step x) (outcome_after2a b t c y d))
  unfolding outcome_after2a
  has-outcome true b c d x y p q s e f g = (p.sound tt, f tt)
  has-outcome false true c d x y p q s e f g = ((p.complete, q.sound tt), (refl, λ z h. omega (arith, h)))
  has-outcome false false true d x y p q s e f g = ((p.complete, q.complete, s.sound tt), g tt)
  has-outcome false false false true x y p q s e f g = (⊎_elim p.complete (⊎_elim q.complete s.complete), e.sound tt)
  has-outcome false false false false x y p q s e f g = (⊎_elim p.complete (⊎_elim q.complete s.complete), e.complete)

  pub outcome-is : HasOutcome v r j t (obligation_at v r j t)
  unfolding obligation_at
  outcome-is =
      has-outcome (is2a v j t) (is2b v r j t) (is2c v r j t) (is_apart v j t) _ _
      (step-decides v j t) (stutter-decides v r j t) (match-decides v r j t) (apart-decides v j t) step-serves match-serves

  -- ---- and no other

  pub meets-first : (clause : Clause) → MetFirstBy v r j t clause → Meets v r j t
  meets-first Step p = inl p
  meets-first Stutter p = inr (inl p.1)
  meets-first Match p = inr (inr p.2)

  -- two clauses are not both the first
  pub first_one : (c k : Clause) → MetFirstBy v r j t c → MetFirstBy v r j t k → c ≡ k
  first_one Step Step p q = refl
  first_one Step Stutter p q = absurd (q.0 p)
  first_one Step Match p q = absurd (q.0 p)
  first_one Stutter Step p q = absurd (p.0 q)
  first_one Stutter Stutter p q = refl
  first_one Stutter Match p q = absurd (q.1 p.1)
  first_one Match Step p q = absurd (p.0 q)
  first_one Match Stutter p q = absurd (p.1 q.1)
  first_one Match Match p q = refl

  pub outcome-one : (o e : Outcome) → HasOutcome v r j t o → HasOutcome v r j t e → o ≡ e
  outcome-one (Met c x) (Met k y) p q = same c k x y (first_one c k p.0 q.0) p.1 q.1
    where
      same : (c k : Clause) (x y : ℕ) → c ≡ k → Smallest (ServesBy v r j t c) x → Smallest (ServesBy v r j t k) y
          → ◌≡◌ {A = Outcome} (Met c x) (Met k y)
      same c k x y e p q =
          let z : x ≡ y = smallest-one (ServesBy v r j t k) (subst (λ (a : Clause). Smallest (ServesBy v r j t a) x) e p) q in
          rw (e, z)
  outcome-one (Met c x) (Failed failure.Apart) p q = absurd (q.0 (meets-first c p.0))
  outcome-one (Met c x) (Failed failure.Rank) p q = absurd (q.0 (meets-first c p.0))
  outcome-one (Failed failure.Apart) (Met k y) p q = absurd (p.0 (meets-first k q.0))
  outcome-one (Failed failure.Rank) (Met k y) p q = absurd (p.0 (meets-first k q.0))
  outcome-one (Failed failure.Apart) (Failed failure.Apart) p q = refl
  outcome-one (Failed failure.Apart) (Failed failure.Rank) p q = absurd (q.1 p.1)
  outcome-one (Failed failure.Rank) (Failed failure.Apart) p q = absurd (p.1 q.1)
  outcome-one (Failed failure.Rank) (Failed failure.Rank) p q = refl
