-- Laws of the given path as it is read off a side: the step between two of its states, and whether it is a path. Assumes nothing.
use Prim.Native.Nat.{ℕ, zero, suc, ◌+◌, ◌≤◌, ◌<◌}
use mathlib.Core.Path.{◌≡◌, refl, sym, ap, ap₂, ◌∙◌, subst}
use mathlib.Core.Logic.{inl, inr, ⊎_elim}
use mathlib.Core.Bool.{Bool, true, false, cond, ◌&&◌, ◌||◌}
use mathlib.Core.List.{List, [], ◌∷◌, ◌++◌}
use native.Mathlib.Nat.{eq-or-lt_of_le}
use native.Mathlib.Omega.{arith}
use lib.Dec.{T, eqb}
use lib.ListN.{length}
use borrow.Author.Tests.{eq-eqb, ne_eqb}
use Rattle.lists.specs.Below.{any_below, first_below}
use Rattle.lists.specs.Lists.{join_below}
use Rattle.lists.specs.Numbers.{byte_at}
use Rattle.bisimulation.specs.Systems.{System, Step, steps_from}
use Rattle.bisimulation.specs.Triples.{step_of}
use Rattle.lists.proofs.BoolLaws.{false-not-T}
use Rattle.answers.proofs.DecideLaws.{decides-true, decides-false}
use Rattle.words.specs.Bits.{has_bit}
use Rattle.sides.specs.declared.Side.{Side}
use Rattle.sides.specs.Side.{system_in, silent_from, steps_in}
use Rattle.sides.specs.Built.{Linked, PlainSide}
use Rattle.sides.proofs.PlainLaws.{plain-entered}
use Rattle.path_matcher.specs.Following.{has_step, wrong_path}
use Rattle.path_matcher.specs.FollowCauses.{WrongPath}
use Rattle.path_matcher.specs.OnSides.{first_to, step_between}
use Rattle.path_matcher.proofs.FollowCauseLaws.{has-step-decides, path-decides}

-- ---- the walk to the step between two states

module _ (side : Side) (u : ℕ) {left : List ℕ} where
  -- What is found among the steps that are left.
  pub between_start : (s : ℕ) → left ≡ steps_in side s → step_between side s u ≡ first_to side u left
  unfolding step_between
  between_start s e = ap (first_to side u) (sym e)

  pub between-here : {j : ℕ} {js : List ℕ} → left ≡ j ∷ js → (system_in side).to j ≡ u → first_to side u left ≡ j
  unfolding first_to
  between-here {j} l e = ap (first_to side u) l ∙ rw (eq-eqb ((system_in side).to j) u e)

  pub between_next : {j : ℕ} {js : List ℕ} → left ≡ j ∷ js → ¬ ((system_in side).to j ≡ u) → first_to side u left ≡ first_to side u js
  unfolding first_to
  between_next {j} l n = ap (first_to side u) l ∙ rw (ne_eqb ((system_in side).to j) u n)

  pub between-end : left ≡ [] → first_to side u left ≡ 256
  unfolding first_to
  between-end l = ap (first_to side u) l

-- ---- it is the theory's step

-- among the indices that pass the one test, the first that passes the other too
first-among : (side : Side) (u n : ℕ) (g : ℕ → ℕ) (p : ℕ → Bool) → T (any_below n (λ i. p i && eqb ((system_in side).to (g i)) u))
    → first_to side u (join_below n (λ i. cond (p i) (g i ∷ []) [])) ≡ g (first_below n (λ i. p i && eqb ((system_in side).to (g i)) u))
unfolding any_below first_below join_below first_to
first-among side u zero g p h = absurd h
first-among side u (suc n) g p h = go (p 0) (eqb ((system_in side).to (g 0)) u) refl h (first-among side u n (λ i. g (suc i)) (λ i. p (suc i)))
  where
    later : List ℕ
    later = join_below n (λ i. cond (p (suc i)) (g (suc i) ∷ []) [])

    found : Bool
    found = any_below n (λ i. p (suc i) && eqb ((system_in side).to (g (suc i))) u)

    place : ℕ
    place = first_below n (λ i. p (suc i) && eqb ((system_in side).to (g (suc i))) u)

    go : (a b : Bool) → eqb ((system_in side).to (g 0)) u ≡ b → T ((a && b) || found) → (T found → first_to side u later ≡ g (suc place))
        → first_to side u (cond a (g 0 ∷ []) [] ++ later) ≡ g (cond (a && b) 0 (suc place))
    go true true e h rest = rw e
    go true false e h rest = rw e (rest h)
    go false b e h rest = rest h

module _ (side : Side) (linked : Linked side) (s u : ℕ) where
  pub between_is : T (has_step (system_in side) s u) → step_between side s u ≡ step_of (system_in side) s u
  unfolding step_between steps_from step_of has_step
  between_is h = ap (first_to side u) (linked.steps-are s) ∙ first-among side u (system_in side).steps (λ i. i) (λ j. eqb ((system_in side).from j) s) h

-- ---- whether the bytes are a path

module _ (S : System) (path : List ℕ) where
  -- The first i bytes are states, each stepping to the next.
  pub record ReadTo (i : ℕ) : Type 0 where
    pub states : (k : ℕ) → k < i → byte_at path k < S.states
    pub steps : (k : ℕ) → k + 1 < i → T (has_step S (byte_at path k) (byte_at path (k + 1)))

  pub read_first : byte_at path 0 < S.states → ReadTo 1
  read_first h = record { states = λ k l. let e : k ≡ 0 = omega arith in rw e h; steps = λ k l. absurd (omega arith) }

  -- state i, which follows state k, is one more
  pub read_more : (k : ℕ) {i : ℕ} → i ≡ k + 1 → ReadTo i → T (has_step S (byte_at path k) (byte_at path i))
      → byte_at path i < S.states → ReadTo (i + 1)
  read_more k {i} e r h b =
      record {
        states = λ x l. ⊎_elim (λ q. rw q b) (λ m. r.states x m) (eq-or-lt_of_le (let z : x ≤ i = omega arith in z));
        steps = λ x l. ⊎_elim
            (λ q.
            let f : x ≡ k = omega arith in
            let z : T (has_step S (byte_at path x) (byte_at path i)) = rw f h in
            subst (λ (y : ℕ). T (has_step S (byte_at path x) (byte_at path y))) (sym q) z)
            (λ m. r.steps x m) (eq-or-lt_of_le (let z : x + 1 ≤ i = omega arith in z));
      }

  -- any fault makes it none
  pub no-path : WrongPath 0 S path → true ≡ wrong_path 0 S path
  no-path w = sym (decides-true (path-decides 0 S path) w)

  pub no_step : (k : ℕ) {i : ℕ} → i ≡ k + 1 → i < length path → has_step S (byte_at path k) (byte_at path i) ≡ false → true ≡ wrong_path 0 S path
  no_step k {i} e l h =
      let n : ¬ Step S (byte_at path k) (byte_at path i) = λ p. false-not-T _ h ((has-step-decides S (byte_at path k) (byte_at path i)).complete p) in
      no-path (inr (inr (inr (inr (k, omega arith, rw (← e) n)))))

  pub no-state : (i : ℕ) → i < length path → S.states ≤ byte_at path i → true ≡ wrong_path 0 S path
  no-state i l h = no-path (inr (inr (inr (inl (i, l, h)))))

  -- where all bytes are read, it is one
  no-fault : 0 < length path → length path ≤ 256 → ReadTo (length path) → WrongPath 0 S path → ⊥
  no-fault some few r (inl p) = p.0 refl
  no-fault some few r (inr (inl p)) = omega arith
  no-fault some few r (inr (inr (inl p))) = omega arith
  no-fault some few r (inr (inr (inr (inl p)))) = omega (arith, r.states p.0 p.1, p.2)
  no-fault some few r (inr (inr (inr (inr p)))) = p.2 ((has-step-decides S _ _).sound (r.steps p.0 p.1))

  pub a-path : 0 < length path → length path ≤ 256 → ReadTo (length path) → false ≡ wrong_path 0 S path
  a-path some few r = sym (decides-false (path-decides 0 S path) (no-fault some few r))

-- the word of the states that steps from s enter tells whether one enters u
pub read_step : {side : Side} → PlainSide side → (path : List ℕ) (k i : ℕ) {s u word : ℕ} {has : Bool}
    → s ≡ byte_at path k → u ≡ byte_at path i → word ≡ silent_from side s → has ≡ has_bit word u
    → has_step (system_in side) (byte_at path k) (byte_at path i) ≡ has
unfolding has_step
read_step {side} plain path k i es eu ew eh =
    sym (plain-entered plain (byte_at path k) (byte_at path i)) ∙ ap₂ has_bit (ap (silent_from side) (sym es) ∙ sym ew) (sym eu) ∙ sym eh
