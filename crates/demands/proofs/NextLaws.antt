-- How the path matcher goes on, in the words of document 02: by the outcome of each obligation, and at the end by smallest steps. The key idea: where a loop
-- that follows the path stands, its next move is known, and of the places and the states to come one less is left after it. Assumes nothing.
use Rattle.outcomes.specs.declared.Outcome.TheVariants.{Met}
use Prim.Native.Nat.{ℕ, zero, suc, ◌+◌, ◌-◌, ◌≤◌, ◌<◌}
use mathlib.Core.Path.{◌≡◌, ap, ◌∙◌, subst}
use mathlib.Core.Logic.{◌⊎◌, inl, inr, ⊎_elim}
use mathlib.Core.List.{List, [], ◌∷◌, ◌++◌, head-eq_of_cons-eq, tail-eq_of_cons-eq}
use native.Mathlib.Nat.{not-suc-le-zero, le_refl}
use native.Mathlib.Numerals.{add-one}
use native.Mathlib.Omega.{arith}
use native.Mathlib.Decide.{dec_lt}
use lib.Dec.{T, eqb, eqb→eq}
use lib.ListN.{length, get_or, take, drop, drop_of_length-le}
use lib.Seq.{drop-cons}
use Rattle.lists.specs.Below.{Smallest}
use Rattle.lists.proofs.BelowLaws.{smallest-as}
use Rattle.lists.proofs.BoolLaws.{T-dec, eq→eqb, cond-true, cond-false}
use Rattle.bisimulation.specs.Systems.{System, Step, View, Ranks, WellFormed, flip}
use Rattle.bisimulation.specs.Clauses.{Meets, EveryObligation}
use Rattle.bisimulation.specs.Judge.{meets2a, meets2c, is2a, is2b, is2c}
use Rattle.bisimulation.specs.Matcher.{smallest_entered, moves}
use Rattle.bisimulation.specs.PathProperty.{IsPath}
use Rattle.bisimulation.specs.PathMatching.{Entry}
use Rattle.bisimulation.specs.Triples.{step_of}
use Rattle.bisimulation.proofs.ClauseLaws.{Enters, smallest-entered, is2a-i, is2b-i, is2c-i}
use Rattle.bisimulation.proofs.Sound.{still-terminal}
use Rattle.bisimulation.proofs.StandingLaws.{
  At,
  given_along,
  matching_along,
  Standing,
  standing-start,
  standing-step,
  standing-2a,
  standing-2b,
  standing-2c,
  standing_on,
  standing-stop,
}
use Rattle.outcomes.specs.declared.Clause.TheVariants as clause
use Rattle.outcomes.specs.Obligation.{outcome_after2a, obligation_at}
use Rattle.obligations.specs.Outcomes.{HasOutcome}
use Rattle.obligations.proofs.OutcomeLaws.{outcome-is}
use Rattle.demands.specs.Ask3.{Next, by-2a, by-2b, by-2c, by-steps, ends}

-- ---- the outcome, where the tests are known

module _ (v : View) (r : Ranks) (j t : ℕ) where
  outcome-2a : T (is2a v j t) → HasOutcome v r j t (Met clause.Step (smallest_entered v.other (meets2a v j t)))
  unfolding obligation_at
  outcome-2a a = subst (HasOutcome v r j t) (cond-true (is2a v j t) _ _ a) (outcome-is v r j t)

  module _ (na : ¬ T (is2a v j t)) where
    outcome-2b : T (is2b v r j t) → HasOutcome v r j t (Met clause.Stutter t)
    unfolding obligation_at outcome_after2a
    outcome-2b b = subst (HasOutcome v r j t) (cond-false (is2a v j t) _ _ na ∙ cond-true (is2b v r j t) _ _ b) (outcome-is v r j t)

    outcome-2c : ¬ T (is2b v r j t) → T (is2c v r j t) → HasOutcome v r j t (Met clause.Match (smallest_entered v.other (meets2c v r j t)))
    unfolding obligation_at outcome_after2a
    outcome-2c nb c =
        subst (HasOutcome v r j t) (cond-false (is2a v j t) _ _ na ∙ cond-false (is2b v r j t) _ _ nb ∙ cond-true (is2c v r j t) _ _ c) (outcome-is v r j t)

-- the smallest state that a step from t enters
smallest-step : (S : System) (t : ℕ) → T (moves S t) → Smallest (Step S t) (smallest_entered S (λ k. eqb (S.from k) t))
unfolding moves
smallest-step S t h =
    smallest-as (Enters S (λ k. eqb (S.from k) t)) (Step S t)
    (λ x q. (q.0, q.1, eqb→eq _ _ q.2, q.3)) (λ x q. (q.0, q.1, eq→eqb _ _ q.2, q.3))
    (smallest-entered S (λ k. eqb (S.from k) t) h)

-- ---- one move after the other

-- what stands at a place is the first of what is to come
at_drop : (l : List Entry) (m : ℕ) (e : Entry) → At l m e → drop m l ≡ e ∷ drop (m + 1) l
at_drop l m e a = rw add-one (go l m a.below (rw add-one at a.more))
  where
    go : (l : List Entry) (m : ℕ) → m < length l → take (suc m) l ≡ take m l ++ (e ∷ []) → drop m l ≡ e ∷ drop (suc m) l
    go [] m b q = absurd (not-suc-le-zero b)
    go (x ∷ l) zero b q = ap (λ (y : Entry). y ∷ l) (head-eq_of_cons-eq q)
    go (x ∷ l) (suc m) b q = go l m (omega arith) (tail-eq_of_cons-eq q)

module _ (v : View) (r : Ranks) (w : WellFormed v) (D : EveryObligation Meets v r) (l : List ℕ) (a : IsPath v.own l) (t₀ : ℕ) where
  open v use {own, other}

  abbrev G : List Entry
  G = given_along v r l t₀

  abbrev W : List Entry
  W = matching_along v r l t₀

  abbrev From : (i n t m : ℕ) → Type 0
  From i n t m = Next v r (get_or l i 0) (drop (i + 1) l) t n (drop (i + 1) G) (drop m W)

  -- an obligation that no test passes is not met
  unmet : (j t : ℕ) → j < own.steps → T (v.related (own.from j) t) → ¬ T (is2a v j t) → ¬ T (is2b v r j t) → ¬ T (is2c v r j t) → ⊥
  unmet j t k h na nb nc = ⊎_elim (λ m. na (is2a-i v j t m)) (⊎_elim (λ m. nb (is2b-i v r j t m)) (λ m. nc (is2c-i v r j t m))) (D j t k h)

  stops : {i n t m : ℕ} → Standing v r l t₀ i n t m → length l ≤ i + 1 → T (moves own (get_or l i 0)) ⊎ (¬ T (moves other t)) → From i n t m
  stops {i} {n} {t} {m} g d c =
      let q = standing-stop v r w l a t₀ g d c in
      let e : length G ≤ i + 1 = omega (arith, q.1) in
      let f : length W ≤ m = omega (arith, q.0) in
      rw (drop_of_length-le l d, drop_of_length-le G e, drop_of_length-le W f)
      (ends (⊎_elim (λ x h. let y = (smallest-step own (get_or l i 0) x).0 in absurd (h y.0 y.1 y.2)) (λ x h. still-terminal other t x) c))

  goes_on : (N : ℕ) {i n t m : ℕ} → Standing v r l t₀ i n t m → length l - i + (length W - m) ≤ N → From i n t m
  goes_on zero g b = absurd (omega (arith, g.inside))
  goes_on (suc N) {i} {n} {t} {m} g b = elim (dec_lt (i + 1) (length l)) [
    | yes k ↦
        let s = standing-step v r w l a t₀ g k in
        let j = step_of own (get_or l i 0) (get_or l (i + 1) 0) in
        let e : drop (i + 1) l ≡ get_or l (i + 1) 0 ∷ drop (i + 1 + 1) l = rw (add-one (i + 1)) (drop-cons l (i + 1) 0 k) in
        ⊎_elim
        (λ c.
        let q = standing-2a v r w l a t₀ g k c in
        rw (e, at_drop G (i + 1) _ q.1, at_drop W m _ q.2)
        (by-2a s (outcome-2a v r j t c) (goes_on N q.0 (omega (arith, q.0.room, g.inside)))))
        (λ na. ⊎_elim
        (λ c.
        let q = standing-2b v r w l a t₀ g k na c in
        rw (e, at_drop G (i + 1) _ q.1) (by-2b s (outcome-2b v r j t na c) (goes_on N q.0 (omega (arith, g.inside)))))
        (λ nb. ⊎_elim
        (λ c.
        let q = standing-2c v r w l a t₀ g k na nb c in
        rw (e, at_drop W m _ q.1) (by-2c s (outcome-2c v r j t na nb c) (rw e at (goes_on N q.0 (omega (arith, q.0.room))))))
        (λ nc. absurd (unmet j t s.0 (rw s.1 g.related) na nb nc))
        (T-dec (is2c v r j t)))
        (T-dec (is2b v r j t)))
        (T-dec (is2a v j t))
    | no k ↦
        let d : length l ≤ i + 1 = omega arith in
        let e : drop (i + 1) l ≡ [] = drop_of_length-le l d in
        ⊎_elim (λ c. stops g d (inl c))
        (λ f. ⊎_elim
        (λ c.
        let q = standing_on v r w l a t₀ g d f c in
        rw (e, at_drop W m _ q.1)
        (by-steps (still-terminal own (get_or l i 0) f) (smallest-step other t c) (rw e at (goes_on N q.0 (omega (arith, q.0.room))))))
        (λ c. stops g d (inr c))
        (T-dec (moves other t)))
        (T-dec (moves own (get_or l i 0)))
  ]

  pub path-next : (r' : Ranks) → EveryObligation Meets (flip v) r' → T (v.related (get_or l 0 0) t₀) → From 0 0 t₀ 1
  path-next r' D' h = goes_on _ (standing-start v r w l a t₀ r' D' h).0 (le_refl _)
