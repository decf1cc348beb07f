-- Laws of one obligation on words: the walk that finds the smallest falling state, and that the words give the theory's outcome. Assumes nothing.
use Rattle.outcomes.specs.declared.Outcome.TheVariants.{Met}
use Prim.Native.Nat.{ℕ, ◌^◌, ◌≤◌, ◌<◌}
use mathlib.Core.Path.{◌≡◌, refl, sym, ap, ap₂, ◌∙◌, subst}
use mathlib.Core.Bool.{Bool, true, false, cond, not, ◌&&◌, and-false}
use mathlib.Core.List.{List}
use native.Mathlib.Omega.{arith}
use native.Mathlib.Decide.{ℕ_discrete}
use lib.Bits.{bit_and}
use lib.Dec.{T, ltb, eqb, lt→ltb, ltb→lt, eqb→eq}
use borrow.Author.Tests.{le-ltb, ltb-false, ne_eqb}
use Rattle.lists.specs.Below.{any_below, first_below}
use Rattle.lists.specs.Numbers.{byte_at}
use Rattle.lists.proofs.BoolLaws.{and_l, and_r, and_i, eq→eqb, same-T, not-T-false}
use Rattle.lists.proofs.BelowLaws as below
use Rattle.words.specs.Bits.{has_bit, first_bit, remove_bit}
use Rattle.words.proofs.BitLaws as bits
use Rattle.outcomes.specs.declared.Clause.TheVariants.{Step, Match}
use Rattle.bisimulation.specs.Systems.{System, View, Ranks, stays}
use Rattle.bisimulation.specs.Judge.{meets2a, meets2c, is2a, is2b, is2c}
use Rattle.bisimulation.specs.Matcher.{smallest_entered}
use Rattle.bisimulation.specs.Triples.{ahead}
use Rattle.bisimulation.proofs.ClauseLaws.{Enters, smallest-entered}
use Rattle.outcomes.specs.Obligation.{Facing, outcome_after2a, is_apart, obligation_at, first_falling, stays_at}
use Rattle.outcomes.specs.Obligation.{without_stutter, without_step, serving_state, obligation_of}

-- ---- what is asked of words and numbers

-- The numbers are the ranks that the own step j is tested by at t: the A ranks before and after it, and its C rank at each state.
pub record Ranked (v : View) (r : Ranks) (j t before after : ℕ) (ranks : List ℕ) : Type 0 where
  pub before-is : before ≡ r.stutter (v.own.from j) t
  pub after_is : after ≡ r.stutter (v.own.to j) t
  pub ranks-are : (x : ℕ) → byte_at ranks x ≡ r.match j x

-- The words are those of the own step j at t.
pub record Faces (v : View) (j t : ℕ) (f : Facing) : Type 0 where
  pub related-from : (x : ℕ) → has_bit f.from x ≡ v.related (v.own.from j) x
  pub related-to : (x : ℕ) → has_bit f.to x ≡ v.related (v.own.to j) x
  pub serving : (x : ℕ) → has_bit f.serving x ≡ any_below v.other.steps (λ k. eqb (v.other.from k) t && v.serves j k && eqb (v.other.to k) x)
  pub silent : (x : ℕ) → has_bit f.silent x ≡ any_below v.other.steps (λ k. eqb (v.other.from k) t && v.other.silent k && eqb (v.other.to k) x)
  pub quiet : f.quiet ≡ v.own.silent j
  -- they are words of 64 bits
  pub serving< : f.serving < 2 ^ 64
  pub silent< : f.silent < 2 ^ 64

module _ (ranks : List ℕ) (t : ℕ) where
  -- the rank falls at x
  abbrev falls : ℕ → Bool
  falls x = ltb (byte_at ranks x) (byte_at ranks t)

  module _ (word : ℕ) where
    -- an empty word has none
    pub falling-none : 64 ≤ first_bit word → first_falling word ranks t ≡ 64
    unfolding first_falling
    falling-none h =
        below.first-none 64 _ (λ k l b. bits.first-least word k (omega arith) (and_l (has_bit word k) (falls k) b))

    -- the first state of the word, where the rank falls at it
    pub falling-here : first_bit word < 64 → byte_at ranks (first_bit word) < byte_at ranks t → first_falling word ranks t ≡ first_bit word
    unfolding first_falling
    falling-here h f =
        below.first-is 64 _ (first_bit word) h (and_i (has_bit word (first_bit word)) (falls (first_bit word)) (bits.first-has word h) (lt→ltb _ _ f))
        (λ k l b. bits.first-least word k l (and_l (has_bit word k) (falls k) b))

    -- where it does not, the state is taken out
    pub falling-next : word < 2 ^ 64 → byte_at ranks t ≤ byte_at ranks (first_bit word)
        → first_falling word ranks t ≡ first_falling (remove_bit word (first_bit word)) ranks t
    unfolding first_falling
    falling-next w f = below.first_cong 64 _ _ λ x l. elim (ℕ_discrete x (first_bit word)) [
      | yes e ↦ (let z : falls x ≡ false = ap falls e ∙ le-ltb _ _ f in none (has_bit word x) z ∙ sym (none (has_bit (remove_bit word (first_bit word)) x) z))
      | no e ↦ ap (λ (b : Bool). b && falls x)
          (sym (bits.has-remove word (first_bit word) x w ∙ ap (λ (b : Bool). not b && has_bit word x) (ne_eqb x (first_bit word) e)))
    ]
      where
        none : (b : Bool) {d : Bool} → d ≡ false → (b && d) ≡ false
        none b z = ap (λ (d : Bool). b && d) z ∙ and-false b

module _ (word : ℕ) (w : word < 2 ^ 64) where
  none-there : 64 ≤ first_bit word → word ≡ 0
  none-there h =
      bits.words-equal word 0 w (omega arith) λ x l.
      not-T-false (has_bit word x) (bits.first-none word (omega (arith, bits.first-bound word)) x w) ∙ sym (bits.has-empty x)

  first-small : (word ≡ 0 → ⊥) → (b : Bool) → ltb (first_bit word) 64 ≡ b → b ≡ true
  first-small n true e = refl
  first-small n false e = absurd (n (none-there (ltb-false (first_bit word) 64 e)))

  -- a word has a state where it is not 0
  pub some-state : ltb (first_bit word) 64 ≡ not (eqb word 0)
  unfolding first_bit
  some-state = elim (ℕ_discrete word 0) [
    | yes e ↦ rw (e, below.first-none 64 (has_bit 0) (λ x l b. subst T (bits.has-empty x) b)) refl
    | no e ↦ rw (ne_eqb word 0 e) (first-small e (ltb (first_bit word) 64) refl)
  ]

-- ---- the first that holds

-- a state is named only where its clause holds
same_outcome : (a b c d : Bool) (t : ℕ) {x x' y y' : ℕ} → (T a → x ≡ x') → (T c → y ≡ y')
    → cond a (Met Step x) (outcome_after2a b t c y d) ≡ cond a (Met Step x') (outcome_after2a b t c y' d)
unfolding outcome_after2a
same_outcome true b c d t e g = ap (λ (i : ℕ). Met Step i) (e tt)
same_outcome false true c d t e g = refl
same_outcome false false true d t e g = ap (λ (i : ℕ). Met Match i) (g tt)
same_outcome false false false d t e g = refl

-- ---- the states that steps enter

-- The test on states tells those that steps which pass the other test enter, and all are below 64.
record Tells (S : System) (test f : ℕ → Bool) : Type 0 where
  entered : (x : ℕ) → T (f x) → Enters S test x
  told : (x : ℕ) → Enters S test x → T (f x)
  small : (x : ℕ) → T (f x) → x < 64

module _ (S : System) (test f : ℕ → Bool) (w : Tells S test f) where
  tells-some : ltb (first_below 64 f) 64 ≡ any_below S.steps test
  tells-some =
      same-T _ _
      (λ h. let e = w.entered _ (below.first_passes 64 f (ltb→lt _ _ h)) in below.any-i _ _ e.0 e.1 e.2)
      (λ h.
      let e = below.any-e _ _ h in
      let b = w.told (S.to e.0) (e.0, e.1, e.2, refl) in
      let l = w.small _ b in
      lt→ltb (first_below 64 f) 64 (omega (arith, below.first-le 64 f _ l b)))

  tells-smallest : T (any_below S.steps test) → first_below 64 f ≡ smallest_entered S test
  tells-smallest h =
      let e = below.any-e _ _ h in
      below.smallest-one (Enters S test)
      (below.smallest-as (λ x. T (f x)) (Enters S test) w.entered w.told
      (below.first-smallest 64 f w.small _ (w.told (S.to e.0) (e.0, e.1, e.2, refl))))
      (smallest-entered S test h)

-- ---- the words of an obligation give the theory's outcome

module _ (v : View) (r : Ranks) (j t : ℕ) (f : Facing) (faces : Faces v j t f) where
  open v use {own, other, related, serves}

  -- the states of two words: those that steps from t enter, and those related to a state of the own side
  module _ (P : ℕ → Bool) (word to s : ℕ)
      (is : (x : ℕ) → has_bit word x ≡ any_below other.steps (λ k. eqb (other.from k) t && P k && eqb (other.to k) x))
      (rel : (x : ℕ) → has_bit to x ≡ related s x) (w : word < 2 ^ 64) where
    both-tell : Tells other (λ k. eqb (other.from k) t && P k && related s (other.to k)) (has_bit (bit_and word to))
    both-tell = record { entered = entered; told = told; small = λ x. bits.has-lt _ x (bits.both_word word to w) }
      where
        entered : (x : ℕ) → T (has_bit (bit_and word to) x) → Enters other (λ k. eqb (other.from k) t && P k && related s (other.to k)) x
        entered x b =
            let c = subst T (bits.has_both word to x) b in
            let q = below.any-e _ _ (subst T (is x) (and_l (has_bit word x) _ c)) in
            let d = q.2 in
            let e : other.to q.0 ≡ x = eqb→eq _ _ (search (and_l, and_r)) in
            let g : T (related s (other.to q.0)) = rw e (subst T (rel x) (and_r (has_bit word x) _ c)) in
            (q.0, q.1, search (and_i, and_l, and_r), e)

        told : (x : ℕ) → Enters other (λ k. eqb (other.from k) t && P k && related s (other.to k)) x → T (has_bit (bit_and word to) x)
        told x q =
            let d = q.2 in
            let e = eq→eqb _ _ q.3 in
            let g : T (related s (other.to q.0)) = search (and_l, and_r) in
            let b : T (has_bit word x) = subst T (sym (is x)) (below.any-i _ _ q.0 q.1 (search (and_i, and_l, and_r))) in
            let c : T (has_bit to x) = subst T (sym (rel x)) (rw q.3 at g) in
            subst T (sym (bits.has_both word to x)) (and_i (has_bit word x) (has_bit to x) b c)

  answer-tells : Tells other (meets2a v j t) (has_bit (bit_and f.serving f.to))
  answer-tells = both-tell (serves j) f.serving f.to (own.to j) faces.serving faces.related-to faces.serving<

  ahead-tells : Tells other (λ k. eqb (other.from k) t && other.silent k && related (own.from j) (other.to k))
      (has_bit (bit_and f.silent f.from))
  ahead-tells = both-tell other.silent f.silent f.from (own.from j) faces.silent faces.related-from faces.silent<

  stays-is : stays_at f t ≡ stays v j t
  stays-is = ap₂ ◌&&◌ faces.quiet (faces.related-to t)

  module _ (before after : ℕ) (ranks : List ℕ) (ranked : Ranked v r j t before after ranks) where
    stutter-is : (stays_at f t && ltb after before) ≡ is2b v r j t
    unfolding is2b
    stutter-is = ap₂ ◌&&◌ stays-is (ap₂ ltb ranked.after_is ranked.before-is)

    falls-is : (x : ℕ) → falls ranks t x ≡ ltb (r.match j x) (r.match j t)
    falls-is x = ap₂ ltb (ranked.ranks-are x) (ranked.ranks-are t)

    match-tells : Tells other (meets2c v r j t) (λ x. has_bit (bit_and f.silent f.from) x && falls ranks t x)
    match-tells = record { entered = entered; told = told; small = λ x p. ahead-tells.small x (and_l (has_bit set x) _ p) }
      where
        set : ℕ
        set = bit_and f.silent f.from

        entered : (x : ℕ) → T (has_bit set x && falls ranks t x) → Enters other (meets2c v r j t) x
        entered x p =
            let q = ahead-tells.entered x (and_l (has_bit set x) _ p) in
            let d = q.2 in
            let g : T (ltb (r.match j (other.to q.0)) (r.match j t)) = rw q.3 (subst T (falls-is x) (and_r (has_bit set x) _ p)) in
            (q.0, q.1, search and_i, q.3)

        told : (x : ℕ) → Enters other (meets2c v r j t) x → T (has_bit set x && falls ranks t x)
        told x q =
            let d = q.2 in
            let g : T (ltb (r.match j (other.to q.0)) (r.match j t)) = search (and_l, and_r) in
            and_i (has_bit set x) _ (ahead-tells.told x (q.0, q.1, search (and_i, and_l), q.3)) (subst T (sym (falls-is x)) (rw q.3 at g))

    -- on the words and ranks of a step the outcome is the theory's
    pub obligation-is : obligation_of f t before after ranks ≡ obligation_at v r j t
    unfolding obligation_of serving_state without_step without_stutter outcome_after2a obligation_at is_apart ahead is2a is2c first_bit first_falling
    obligation-is =
        rw (tells-some _ _ _ answer-tells, stutter-is, tells-some _ _ _ match-tells, stays-is, tells-some _ _ _ ahead-tells)
        (same_outcome (is2a v j t) (is2b v r j t) (is2c v r j t) (is_apart v j t) t (tells-smallest _ _ _ answer-tells) (tells-smallest _ _ _ match-tells))
