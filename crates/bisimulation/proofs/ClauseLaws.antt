-- The judge's tests say what the clauses say, each read off and put together, for one side; and the matcher's pick is a step that passes. Assumes nothing.
use Prim.Native.Nat.{ℕ, suc, ◌<◌}
use mathlib.Core.Path.{◌≡◌, refl}
use mathlib.Core.Logic.{◌↔◌, inl, inr, ⊎_elim}
use mathlib.Core.Bool.{Bool, ◌&&◌, ◌||◌}
use native.Mathlib.Omega.{arith}
use lib.Dec.{T, eqb, eqb→eq, ltb→lt, lt→ltb}
use Rattle.lists.specs.Below.{any_below, most_below, Smallest}
use Rattle.lists.proofs.BelowLaws.{any-e, any-i, all-e, all-i, most-ge, first-le, first-at, first-smallest, smallest-as}
use Rattle.lists.proofs.BoolLaws.{and_l, and_r, and_i, or-e, or_l, or_r, imp-i, imp-e, eq→eqb}
use Rattle.bisimulation.specs.Clauses.{Meets2a, Meets2b, Meets2c, Meets, EveryObligation, Certified}
use Rattle.bisimulation.specs.Judge.{
  meets2a,
  meets2c,
  is2a,
  is2b,
  is2c,
  is_met,
  all_pairs,
  all_steps_from,
  initial_related,
  labels_equal,
  obligations_met,
  accepts,
}
use Rattle.bisimulation.specs.Matcher.{smallest_entered, smallest_step}
use Rattle.bisimulation.specs.Systems.{System, View, flip, Ranks, swap, WellFormed, InitialRelated, LabelsEqual}

pub flip-formed : (v : View) → WellFormed v → WellFormed (flip v)
flip-formed v w = record { here = w.there; there = w.here }

-- ---- the smallest state that steps enter

-- Some step that passes the test enters x.
abbrev pub Enters : System → (ℕ → Bool) → ℕ → Type 0
Enters S test x = (k : ℕ) × (k < S.steps) × T (test k) × (S.to k ≡ x)

module _ (S : System) (test : ℕ → Bool) (h : T (any_below S.steps test)) where
  -- where some step passes the test, the smallest is the smallest that one enters
  pub smallest-entered : Smallest (Enters S test) (smallest_entered S test)
  unfolding smallest_entered
  smallest-entered =
      let a = any-e _ _ h in
      smallest-as (λ x. T (passed x)) (Enters S test) entered told
      (first-smallest (suc (most_below S.steps S.to)) passed small (S.to a.0) (told _ (a.0, a.1, a.2, refl)))
    where
      passed : ℕ → Bool
      passed x = any_below S.steps (λ k. test k && eqb (S.to k) x)

      entered : (x : ℕ) → T (passed x) → Enters S test x
      entered x p =
          let q = any-e _ _ p in
          (q.0, q.1, and_l (test q.0) _ q.2, eqb→eq _ _ (and_r (test q.0) _ q.2))

      told : (x : ℕ) → Enters S test x → T (passed x)
      told x e = any-i _ _ e.0 e.1 (and_i (test e.0) _ e.2 (eq→eqb _ _ e.3))

      small : (x : ℕ) → T (passed x) → x < suc (most_below S.steps S.to)
      small x p = let e = entered x p in let m = most-ge S.steps S.to e.0 e.1 in rw (← e.3) (omega arith)

  -- the step picked is one, passes, and enters that state
  pub pick-passes : let k = smallest_step S test in (k < S.steps) × T (test k) × (S.to k ≡ smallest_entered S test)
  unfolding smallest_step
  pick-passes =
      let e = smallest-entered.0 in
      let g : ℕ → Bool = λ k. test k && eqb (S.to k) (smallest_entered S test) in
      let b : T (g e.0) = and_i (test e.0) _ e.2 (eq→eqb _ _ e.3) in
      let c = first-at S.steps g e.0 e.1 b in
      (omega (arith, e.1, first-le S.steps g e.0 e.1 b), search and_l, eqb→eq _ _ (search and_r))

-- ---- the clauses

module _ (v : View) where
  open v use {own, other, related, serves}

  pub pairs-e : WellFormed v → (f : ℕ → ℕ → Bool) → T (all_pairs v f) → (s t : ℕ) → T (related s t) → T (f s t)
  unfolding all_pairs
  pairs-e w f h s t r = imp-e (related s t) (f s t) (all-e _ _ (all-e _ _ h s (w.here.related< s t r)) t (w.there.related< t s r)) r

  pub pairs-i : (f : ℕ → ℕ → Bool) → ((s t : ℕ) → T (related s t) → T (f s t)) → T (all_pairs v f)
  unfolding all_pairs
  pairs-i f h = all-i _ _ λ s ls. all-i _ _ λ t lt. imp-i (related s t) (f s t) (h s t)

  pub initial-e : WellFormed v → T (initial_related v) → InitialRelated v
  unfolding initial_related
  initial-e w h s a =
      let q = any-e _ _ (imp-e (own.initial s) _ (all-e _ _ h s (w.here.initial< s a)) a) in
      (q.0, search (and_l, and_r), search (and_l, and_r))

  pub initial-i : WellFormed v → InitialRelated v → T (initial_related v)
  unfolding initial_related
  initial-i w h = all-i _ _ λ s l. imp-i (own.initial s) _ λ a. let q = h s a in any-i _ _ q.0 (w.there.initial< q.0 q.1) (search and_i)

  pub steps-e : (s : ℕ) (f : ℕ → Bool) → T (all_steps_from v s f) → (j : ℕ) → j < own.steps → own.from j ≡ s → T (f j)
  unfolding all_steps_from
  steps-e s f h j l e = imp-e (eqb (own.from j) s) (f j) (all-e _ _ h j l) (eq→eqb _ _ e)

  pub steps-i : (s : ℕ) (f : ℕ → Bool) → ((j : ℕ) → j < own.steps → own.from j ≡ s → T (f j)) → T (all_steps_from v s f)
  unfolding all_steps_from
  steps-i s f h = all-i _ _ λ j l. imp-i (eqb (own.from j) s) (f j) λ e. h j l (eqb→eq _ _ e)

  -- the step that the matcher picks by 2a
  pub picked-2a : (j t : ℕ) → T (is2a v j t)
      → let k = smallest_step other (meets2a v j t) in (k < other.steps) × (other.from k ≡ t) × T (serves j k) × T (related (own.to j) (other.to k))
  unfolding is2a
  picked-2a j t h =
      let q = pick-passes other (meets2a v j t) h in
      (q.0, eqb→eq _ _ (search (and_l, and_r)), search (and_l, and_r), search (and_l, and_r))

  pub is2a-e : (j t : ℕ) → T (is2a v j t) → Meets2a v j t
  is2a-e j t h = let q = picked-2a j t h in (_, q.0, q.1, q.2, q.3)

  pub is2a-i : (j t : ℕ) → Meets2a v j t → T (is2a v j t)
  unfolding is2a
  is2a-i j t r = any-i _ _ r.0 r.1 (search (and_i, eq→eqb))

  module _ (r : Ranks) where
    pub is2b-e : (j t : ℕ) → T (is2b v r j t) → Meets2b v r j t
    unfolding is2b
    is2b-e j t h = search (and_l, and_r, ltb→lt)

    pub is2b-i : (j t : ℕ) → Meets2b v r j t → T (is2b v r j t)
    unfolding is2b
    is2b-i j t p = search (and_i, lt→ltb)

    -- the step that it picks by 2c
    pub picked-2c : (j t : ℕ) → T (is2c v r j t)
        → let k = smallest_step other (meets2c v r j t) in
        (k < other.steps) × (other.from k ≡ t) × T (other.silent k) × T (related (own.from j) (other.to k))
        × (r.match j (other.to k) < r.match j t)
    unfolding is2c
    picked-2c j t h =
        let q = pick-passes other (meets2c v r j t) h in
        (q.0, eqb→eq _ _ (search (and_l, and_r)), search (and_l, and_r), search (and_l, and_r), ltb→lt _ _ (search (and_l, and_r)))

    pub is2c-e : (j t : ℕ) → T (is2c v r j t) → Meets2c v r j t
    is2c-e j t h = let q = picked-2c j t h in (_, q.0, q.1, q.2, q.3, q.4)

    pub is2c-i : (j t : ℕ) → Meets2c v r j t → T (is2c v r j t)
    unfolding is2c
    is2c-i j t q = any-i _ _ q.0 q.1 (search (and_i, eq→eqb, lt→ltb))

    -- the obligation is met just where one of the clauses holds
    pub met-e : (j t : ℕ) → T (is_met v r j t) → Meets v r j t
    unfolding is_met
    met-e j t h =
        ⊎_elim (λ h. ⊎_elim (λ a. inl (is2a-e j t a)) (λ b. inr (inl (is2b-e j t b))) (or-e (is2a v j t) (is2b v r j t) h)) (λ c. inr (inr (is2c-e j t c)))
        (or-e (is2a v j t || is2b v r j t) (is2c v r j t) h)

    pub met-i : (j t : ℕ) → Meets v r j t → T (is_met v r j t)
    unfolding is_met
    met-i j t (inl a) = or_l (is2a v j t || is2b v r j t) (is2c v r j t) (or_l (is2a v j t) (is2b v r j t) (is2a-i j t a))
    met-i j t (inr (inl b)) = or_l (is2a v j t || is2b v r j t) (is2c v r j t) (or_r (is2a v j t) (is2b v r j t) (is2b-i j t b))
    met-i j t (inr (inr c)) = or_r (is2a v j t || is2b v r j t) (is2c v r j t) (is2c-i j t c)

-- every obligation of the side is met by one of the clauses just where the judge finds it so
module _ (v : View) (w : WellFormed v) (r : Ranks) where
  pub obligations-e : T (obligations_met v r) → EveryObligation Meets v r
  unfolding obligations_met
  obligations-e h j t l p = met-e v r j t (steps-e v (v.own.from j) _ (pairs-e v w _ h (v.own.from j) t p) j l refl)

  pub obligations-i : EveryObligation Meets v r → T (obligations_met v r)
  unfolding obligations_met
  obligations-i h = pairs-i v _ λ s t p. steps-i v s _ λ j l e. met-i v r j t (h j t l (rw e p))

-- the labels that are tested, and the initial states
pub labels-e : (v : View) → WellFormed v → T (labels_equal v) → LabelsEqual v
unfolding labels_equal
labels-e v w h s t p = eqb→eq _ _ (pairs-e v w _ h s t p)

pub labels-i : (v : View) → LabelsEqual v → T (labels_equal v)
unfolding labels_equal
labels-i v h = pairs-i v _ λ s t p. eq→eqb _ _ (h s t p)

-- Demand 2, which certificates: the judge accepts exactly where the initial states are related, the labels are equal,
-- and every obligation of both sides meets 2a, 2b or 2c
pub accepts-iff : (v : View) → WellFormed v → (r : Ranks) → T (accepts v r) ↔ Certified Meets v r
unfolding accepts
accepts-iff v w r = (
  λ h. record {
    starts = (initial-e v w (search (and_l, and_r)), initial-e (flip v) (flip-formed v w) (search (and_l, and_r)));
    labels = labels-e v w (search (and_l, and_r));
    own-met = obligations-e v w r (search (and_l, and_r));
    other-met = obligations-e (flip v) (flip-formed v w) (swap r) (search (and_l, and_r));
  },
  λ c.
      let a = initial-i v w c.starts.0 in
      let b = initial-i (flip v) (flip-formed v w) c.starts.1 in
      let d = labels-i v c.labels in
      let e = obligations-i v w r c.own-met in
      let f = obligations-i (flip v) (flip-formed v w) (swap r) c.other-met in
      search and_i,
)
