-- Laws of the set of a step as it grows: a round that looks only at the states that came in last brings exactly those of the next chase length, and where a round
-- brings none, no state is missing.
-- The key idea: a state that comes in with round k + 1 has a silent step into the set after round k, and if the state entered there had come in earlier, so
-- would the first. Assumes nothing.
use Prim.Native.Nat.{ℕ, zero, suc, ◌+◌, ◌-◌, ◌^◌, ◌≤◌, ◌<◌, zero-le, min}
use mathlib.Core.Path.{◌≡◌, refl, sym, ap, ◌∙◌, subst}
use mathlib.Core.Logic.{◌⊎◌, inl, inr, ⊎_elim}
use mathlib.Core.Bool.{Bool, true, false, not, cond, ◌&&◌, ◌||◌, false≢true}
use mathlib.Core.List.{List}
use native.Mathlib.Numerals.{add-one, unary_clauses}
use native.Mathlib.Omega.{arith}
use native.Mathlib.Decide.{dec_lt}
use lib.Dec.{T, T_not, not_T, eqb, eqb→eq}
use lib.ListN.{length, get_or}
use lib.Bits.{bit_and, bit_or}
use borrow.Author.Tests.{lt-ltb}
use Rattle.lists.specs.Lists.{tabulate}
use Rattle.lists.specs.Below.{first_below, count_below}
use Rattle.lists.proofs.BoolLaws.{and_l, and_r, and_i, or-e, or_l, or_r, eq→eqb, T-dec, T_true, same-T, cond-true, cond-false, false-not-T}
use Rattle.lists.proofs.BelowLaws.{any-e, any-i, first-is, first-none, count-lt, count-bound}
use Rattle.lists.proofs.FillLaws.{tabulate-of, tabulate-cong}
use Rattle.words.specs.Bits.{has_bit, without_bits, first_bit}
use Rattle.words.proofs.BitLaws.{has-lt, has-empty, has-or, has_both, has-without, or_word, both_word, without-word}
use Rattle.words.proofs.BitLaws.{first-has, first-none as no-first, first-bound, words-equal}
use Rattle.bisimulation.specs.Systems.{View}
use Rattle.bisimulation.specs.Judge.{is2a}
use Rattle.bisimulation.specs.Maker.{matches_within, distance}
use Rattle.bisimulation.proofs.ClauseLaws.{is2a-i, is2a-e}
use Rattle.bisimulation.proofs.RunLaws.{within-related}
use Rattle.sides.specs.declared.Side.{Side}
use Rattle.sides.specs.Side.{system_in, key_at, related_to}
use Rattle.sides.specs.Views.{view_in}
use Rattle.match_sets.specs.Sets.{AfterRounds}
use Rattle.match_sets.specs.Predecessors.{Predecessors, ComeFrom, enters_by, EnterBy}
use Rattle.match_sets.specs.Growing.{earlier, Grown, Newcomers, Marked, Rounds}

-- a word that is not 0 has a state
some-state : (word : ℕ) → word < 2 ^ 64 → (word ≡ 0 → ⊥) → (t : ℕ) × (t < 64) × T (has_bit word t)
some-state word small never = elim (dec_lt (first_bit word) 64) [
  | yes h ↦ (first_bit word, h, first-has word h)
  | no h ↦ absurd (never (words-equal word 0 small (omega arith) (λ t l.
      same-T (has_bit word t) (has_bit 0 t) (λ b. absurd (no-first word (let q = first-bound word in omega arith) t small b))
      (λ b. absurd (false-not-T (has_bit 0 t) (has-empty t) b)))))
]

-- the test of growth, as the loop makes it
module _ {word : ℕ} {empty : Bool} (e : empty ≡ eqb word 0) where
  pub some-fresh : not empty ≡ true → word ≡ 0 → ⊥
  some-fresh h q = false≢true (sym (ap not (e ∙ T_true (eqb word 0) (eq→eqb word 0 q))) ∙ h)

  pub none-fresh : not empty ≡ false → word ≡ 0
  none-fresh h = eqb→eq word 0 (subst T e (go empty h))
    where
      go : (b : Bool) → not b ≡ false → T b
      go true q = tt
      go false q = absurd (false≢true (sym q))

-- the first index that passes is k, or the bound where k is not below it
first-min : (n k : ℕ) (f : ℕ → Bool) → T (f k) → ((i : ℕ) → i < k → T (f i) → ⊥) → first_below n f ≡ min k n
first-min n k f h none = elim (dec_lt k n) [
  | yes l ↦ first-is n f k l h none ∙ omega arith
  | no l ↦ first-none n f (λ i a b. none i (omega arith) b) ∙ omega arith
]

module _ (v : View) (j : ℕ) where
  open v use {own, other, related}

  abbrev from : ℕ
  from = own.from j

  -- ---- rounds

  -- a round keeps what the set has
  pub within_more : (k t : ℕ) → T (matches_within v j k t) → T (matches_within v j (suc k) t)
  unfolding matches_within
  within_more zero t h = and_i (related from t) _ (and_l (related from t) _ h) (or_l (is2a v j t) _ (and_r (related from t) _ h))
  within_more (suc k) t h =
      and_i (related from t) _ (and_l (related from t) _ h)
      (⊎_elim (or_l (is2a v j t) _)
      (λ a.
      let q = any-e _ _ a in
      let b = q.2 in
      let more = within_more k (other.to q.0) (search (and_l, and_r)) in
      or_r (is2a v j t) _
      (any-i other.steps (λ e. eqb (other.from e) t && other.silent e && matches_within v j (suc k) (other.to e)) q.0 q.1
      (let x : T (eqb (other.from q.0) t) = search (and_l, and_r) in let y : T (other.silent q.0) = search (and_l, and_r) in search and_i)))
      (or-e (is2a v j t) _ (and_r (related from t) _ h)))

  later : (d i t : ℕ) → T (matches_within v j i t) → T (matches_within v j (i + d) t)
  later zero i t h = simp unary_clauses h
  later (suc d) i t h = simp unary_clauses (within_more (i + d) t (later d i t h))

  pub within-later : (i k t : ℕ) → i ≤ k → T (matches_within v j i t) → T (matches_within v j k t)
  within-later i k t l h = subst (λ (m : ℕ). T (matches_within v j m t)) (let z : i + (k - i) ≡ k = omega arith in z) (later (k - i) i t h)

  -- it adds the related states with a silent step into the set, and no other
  within_step : (k e : ℕ) → e < other.steps → T (other.silent e) → T (related from (other.from e)) → T (matches_within v j k (other.to e))
      → T (matches_within v j (suc k) (other.from e))
  unfolding matches_within
  within_step k e l quiet r h =
      let here = eq→eqb (other.from e) (other.from e) refl in
      and_i (related from (other.from e)) _ r (or_r (is2a v j (other.from e)) _
      (any-i other.steps (λ i. eqb (other.from i) (other.from e) && other.silent i && matches_within v j k (other.to i)) e l (search and_i)))

  abbrev Enters : ℕ → ℕ → Type 0
  Enters k t = (e : ℕ) × (e < other.steps) × T (other.silent e) × (other.from e ≡ t) × T (matches_within v j k (other.to e))

  at_once : (k t : ℕ) → T (related from t) → T (is2a v j t) → T (matches_within v j k t)
  unfolding matches_within
  at_once zero t r a = and_i (related from t) _ r a
  at_once (suc k) t r a = and_i (related from t) _ r (or_l (is2a v j t) _ a)

  within-cases : (k t : ℕ) → T (matches_within v j (suc k) t) → T (matches_within v j k t) ⊎ Enters k t
  unfolding matches_within
  within-cases k t h =
      ⊎_elim (λ a. inl (at_once k t (and_l (related from t) _ h) a))
      (λ a.
      let q = any-e _ _ a in
      let b = q.2 in
      let m : T (matches_within v j k (other.to q.0)) = search (and_l, and_r) in
      inr (q.0, q.1, search (and_l, and_r), eqb→eq _ _ (search (and_l, and_r)), m))
      (or-e (is2a v j t) _ (and_r (related from t) _ h))

  -- what holds of the first set, and of each related state with a silent step into a state of which it holds, holds of every set
  within-least : (P : ℕ → Type 0) → ((t : ℕ) → T (matches_within v j 0 t) → P t)
      → ((e : ℕ) → e < other.steps → T (other.silent e) → T (related from (other.from e)) → P (other.to e) → P (other.from e))
      → (i t : ℕ) → T (matches_within v j i t) → P t
  within-least P first next zero t h = first t h
  within-least P first next (suc i) t h =
      ⊎_elim (within-least P first next i t)
      (λ s.
      let r : T (related from (other.from s.0)) = rw s.3 (within-related v j (suc i) t h) in
      subst P s.3 (next s.0 s.1 s.2 r (within-least P first next i (other.to s.0) s.4)))
      (within-cases i t h)

  -- so where a round brings nothing, no later one does
  pub within-stable : (k : ℕ) → ((t : ℕ) → T (matches_within v j (suc k) t) → T (matches_within v j k t)) → (i t : ℕ) → T (matches_within v j i t)
      → T (matches_within v j k t)
  within-stable k stops =
      within-least (λ t. T (matches_within v j k t)) (λ t. within-later 0 k t zero-le)
      (λ e l quiet r h. stops (other.from e) (within_step k e l quiet r h))

  -- ---- what came earlier

  earlier-in : (k t : ℕ) → T (earlier v j k t) → T (matches_within v j k t)
  unfolding earlier
  earlier-in zero t h = absurd h
  earlier-in (suc k) t h = within_more k t h

  -- a state with a silent step into one that came earlier is in the set
  earlier_step : (k e : ℕ) → e < other.steps → T (other.silent e) → T (related from (other.from e)) → T (earlier v j k (other.to e))
      → T (matches_within v j k (other.from e))
  unfolding earlier
  earlier_step zero e l quiet r h = absurd h
  earlier_step (suc k) e l quiet r h = within_step k e l quiet r h

  -- what is in no earlier set is in none of those before
  none_before : (k t : ℕ) → (T (earlier v j k t) → ⊥) → (i : ℕ) → i < k → T (matches_within v j i t) → ⊥
  unfolding earlier
  none_before zero t never i l h = omega arith
  none_before (suc k) t never i l h = never (within-later i k t (omega arith) h)

  -- ---- the set

  -- it begins with chase length 0
  pub grown-first : {states : ℕ} → AfterRounds v j 0 states → Grown v j 0 states states
  unfolding earlier
  grown-first {states} a =
      record {
        after = a;
        fresh< = a.set<;
        came = λ t. a.exactly t ∙ same-T (matches_within v j 0 t) (matches_within v j 0 t && true) (λ h. and_i (matches_within v j 0 t) true h tt)
            (and_l (matches_within v j 0 t) true);
        grew = zero-le;
      }

  module _ {k states fresh : ℕ} (g : Grown v j k states fresh) where
    came-within : (t : ℕ) → T (has_bit fresh t) → T (matches_within v j k t)
    came-within t h = and_l (matches_within v j k t) _ (subst T (g.came t) h)

    came-late : (t : ℕ) → T (has_bit fresh t) → T (earlier v j k t) → ⊥
    came-late t h = T_not (earlier v j k t) (and_r (matches_within v j k t) _ (subst T (g.came t) h))

    came-in : (t : ℕ) → T (matches_within v j k t) → (T (earlier v j k t) → ⊥) → T (has_bit fresh t)
    came-in t h late = subst T (sym (g.came t)) (and_i (matches_within v j k t) _ h (not_T (earlier v j k t) late))

    -- where it grew, one state more is in it than before
    grew-more : (fresh ≡ 0 → ⊥) → k + 1 ≤ count_below 64 (matches_within v j k)
    grew-more never =
        let s = some-state fresh g.fresh< never in
        let more = count-lt 64 (earlier v j k) (matches_within v j k) s.0 s.1 (came-late s.0 s.2) (came-within s.0 s.2)
        (λ i l. earlier-in k i) in
        omega (arith, g.grew)

    -- so there are at most 64 rounds
    pub few-rounds : (fresh ≡ 0 → ⊥) → k < 64
    few-rounds never = let more = grew-more never in omega (arith, count-bound 64 (matches_within v j k))

    -- ---- a round

    module _ {words : List ℕ} {near found states' : ℕ} (p : Predecessors other other.steps words) (near< : near < 2 ^ 64)
        (near-is : (t : ℕ) → has_bit near t ≡ related from t) (n : Newcomers words near states fresh found) (joined : states' ≡ bit_or states found) where
      small : (t : ℕ) → T (related from t) → t < 64
      small t r = has-lt near t near< (subst T (sym (near-is t)) r)

      found-next : (t : ℕ) → T (has_bit found t) → T (matches_within v j (suc k) t) × (T (matches_within v j k t) → ⊥)
      found-next t h =
          let q = n.is t h in
          let y = q.2.0 in
          let s = p.step t y q.2.2 in
          let r : T (related from (other.from s.0)) = rw s.3 (subst T (near-is t) q.0) in
          let w : T (matches_within v j k (other.to s.0)) = rw s.4 (came-within y q.2.1) in
          (subst (λ (x : ℕ). T (matches_within v j (suc k) x)) s.3 (within_step k s.0 s.1 s.2 r w), λ b. q.1 (subst T (sym (g.after.exactly t)) b))

      next-found : (t : ℕ) → T (matches_within v j (suc k) t) → (T (matches_within v j k t) → ⊥) → T (has_bit found t)
      next-found t h late = ⊎_elim (λ b. absurd (late b)) enters (within-cases k t h)
        where
          enters : Enters k t → T (has_bit found t)
          enters s =
              let e = s.0 in
              let r = within-related v j (suc k) t h in
              let from_is : other.from e ≡ t = s.3 in
              let r' : T (related from (other.from e)) = rw from_is r in
              let new : T (has_bit fresh (other.to e)) =
              came-in (other.to e) s.4 (λ b. late (subst (λ (x : ℕ). T (matches_within v j k x)) from_is (earlier_step k e s.1 s.2 r' b))) in
              let near-to = small (other.to e) (within-related v j k (other.to e) s.4) in
              n.all t (other.to e) (subst T (sym (near-is t)) r) (λ b. late (subst T (g.after.exactly t) b)) new
              (subst (λ (x : ℕ). T (has_bit (get_or words (other.to e) 0) x)) from_is (p.all e s.1 s.2 (small (other.from e) r') near-to))

      -- the set after it, and those that came in with it
      round-exactly : (t : ℕ) → has_bit states' t ≡ matches_within v j (suc k) t
      round-exactly t =
          ap (λ (w : ℕ). has_bit w t) joined ∙ has-or states found t
          ∙ same-T (has_bit states t || has_bit found t) (matches_within v j (suc k) t)
          (λ h. ⊎_elim (λ b. within_more k t (subst T (g.after.exactly t) b)) (λ b. (found-next t b).0) (or-e (has_bit states t) (has_bit found t) h))
          (λ h. ⊎_elim (λ b. or_l (has_bit states t) (has_bit found t) (subst T (sym (g.after.exactly t)) b))
          (λ b. or_r (has_bit states t) (has_bit found t) (next-found t h b))
          (T-dec (matches_within v j k t)))

      round-came : (t : ℕ) → has_bit found t ≡ (matches_within v j (suc k) t && not (matches_within v j k t))
      round-came t =
          same-T (has_bit found t) (matches_within v j (suc k) t && not (matches_within v j k t))
          (λ h. let q = found-next t h in and_i (matches_within v j (suc k) t) _ q.0 (not_T (matches_within v j k t) q.1))
          (λ h. next-found t (and_l (matches_within v j (suc k) t) _ h) (T_not (matches_within v j k t) (and_r (matches_within v j (suc k) t) _ h)))

      pub grown-more : (fresh ≡ 0 → ⊥) → Grown v j (k + 1) states' found
      unfolding earlier
      grown-more never =
          let more = grew-more never in
          rw add-one
          (record {
            after = record { set< = rw joined (or_word states found g.after.set< n.found<); exactly = round-exactly };
            fresh< = n.found<;
            came = round-came;
            grew = omega arith;
          })

    -- ---- the end: where a round brought no state, none is missing

    stopped : fresh ≡ 0 → (t : ℕ) → T (matches_within v j k t) → T (earlier v j k t)
    stopped e t h = ⊎_elim (λ b. b) (λ b. absurd (false-not-T (has_bit 0 t) (has-empty t) (rw e at (came-in t h b)))) (T-dec (earlier v j k t))

    pub nothing-missed : fresh ≡ 0 → (i t : ℕ) → T (matches_within v j i t) → T (earlier v j k t)
    nothing-missed e =
        within-least (λ t. T (earlier v j k t)) (λ t h. stopped e t (within-later 0 k t zero-le h))
        (λ i l quiet r h. stopped e (other.from i) (earlier_step k i l quiet r h))

  -- ---- the row

  pub rounds-none : (row : List ℕ) → length row ≡ 64 → ((t : ℕ) → t < 64 → get_or row t 0 ≡ other.states) → Rounds v j 0 row
  unfolding earlier
  rounds-none row l e = record { room = l; in-set = λ t h b. absurd b; not_yet = λ t h b. e t h }

  module _ {k states fresh : ℕ} {row : List ℕ} (g : Grown v j k states fresh) (r : Rounds v j k row) where
    -- the states that came in with round k get its number
    pub rounds-more : {row' : List ℕ} {len : ℕ} → len ≡ min k other.states → Marked fresh 64 len row row' → Rounds v j (k + 1) row'
    unfolding earlier distance
    rounds-more {row'} {len} el m =
        rw add-one
        (record {
          room = m.room ∙ r.room;
          in-set = λ t l h. ⊎_elim
              (λ b. cell t l ∙ cond-true (has_bit fresh t) len (get_or row t 0) b ∙ el
              ∙ sym (first-min other.states k (λ i. matches_within v j i t) h (none_before k t (came-late g t b))))
              (λ b. cell t l ∙ cond-false (has_bit fresh t) len (get_or row t 0) b ∙ r.in-set t l (before t h b))
              (T-dec (has_bit fresh t));
          not_yet = λ t l h.
              cell t l ∙ cond-false (has_bit fresh t) len (get_or row t 0) (λ b. h (came-within g t b)) ∙ r.not_yet t l (λ b. h (earlier-in k t b));
        })
      where
        cell : (t : ℕ) → t < 64 → get_or row' t 0 ≡ cond (has_bit fresh t) len (get_or row t 0)
        cell t l = m.cell t l ∙ ap (λ (b : Bool). cond (b && has_bit fresh t) len (get_or row t 0)) (lt-ltb t 64 l)

        before : (t : ℕ) → T (matches_within v j k t) → (T (has_bit fresh t) → ⊥) → T (earlier v j k t)
        before t h b = ⊎_elim (λ x. x) (λ x. absurd (b (came-in g t h x))) (T-dec (earlier v j k t))

    -- where a round brought no state, the row has the match distances
    pub rounds-all : fresh ≡ 0 → row ≡ tabulate 64 (distance v j)
    unfolding distance
    rounds-all e = sym (tabulate-of row 64 (sym r.room)) ∙ tabulate-cong 64 _ _ λ t l. ⊎_elim (r.in-set t l)
        (λ b. r.not_yet t l b ∙ sym (first-none other.states (λ i. matches_within v j i t) (λ i h m. b (nothing-missed g e i t m))))
        (T-dec (earlier v j k t))

-- ---- the words as the code joins them

-- the first set, of the states from which a step with our key enters a state related to the one that our step enters
module _ (ours theirs : Side) (j : ℕ) where
  abbrev v : View
  v = view_in ours theirs

  pub first-set : {near target candidates key states : ℕ} → candidates ≡ related_to ours ((system_in ours).from j) → candidates < 2 ^ 64
      → target ≡ related_to ours ((system_in ours).to j) → key ≡ key_at ours j → EnterBy theirs key target (system_in theirs).steps near
      → states ≡ bit_and near candidates → AfterRounds (view_in ours theirs) j 0 states
  unfolding matches_within enters_by
  first-set {near} {target} {candidates} {key} {states} ec small et ek f es =
      record {
        set< = rw es (both_word near candidates f.found<);
        exactly = λ t.
            ap (λ (w : ℕ). has_bit w t) es ∙ has_both near candidates t
            ∙ same-T (has_bit near t && has_bit candidates t) (has_bit (related_to ours ((system_in ours).from j)) t && is2a v j t)
            (λ h.
            let q = f.step t (and_l (has_bit near t) _ h) in
            let e = q.0 in
            let serves = eq→eqb (key_at ours j) (key_at theirs e) (sym ek ∙ sym (eqb→eq (key_at theirs e) key (and_l (eqb (key_at theirs e) key) _ q.2))) in
            and_i (has_bit (related_to ours ((system_in ours).from j)) t) _ (rw ec at (and_r (has_bit near t) _ h))
            (is2a-i v j t (e, q.1, q.3, serves, rw et at (and_r (eqb (key_at theirs e) key) _ q.2))))
            (λ h.
            let r : T (has_bit candidates t) = rw ec (and_l (has_bit (related_to ours ((system_in ours).from j)) t) _ h) in
            let q = is2a-e v j t (and_r (has_bit (related_to ours ((system_in ours).from j)) t) _ h) in
            let e = q.0 in
            let same = eq→eqb (key_at theirs e) key (sym (eqb→eq (key_at ours j) (key_at theirs e) q.3) ∙ sym ek) in
            let enters = and_i (eqb (key_at theirs e) key) (has_bit target ((system_in theirs).to e)) same (rw et q.4) in
            let near-from : (system_in theirs).from e < 64 = rw q.2 (has-lt candidates t small r) in
            and_i (has_bit near t) (has_bit candidates t) (rw q.2 at (f.all e q.1 enters near-from)) r);
      }

-- those that a round brings
pub newcomers-are : {words : List ℕ} {near inside candidates states fresh found : ℕ} → fresh < 2 ^ 64 → ComeFrom words fresh 64 near
    → inside ≡ bit_and near candidates → found ≡ without_bits inside states → Newcomers words candidates states fresh found
newcomers-are {words} {near} {inside} {candidates} {states} {fresh} {found} small f ei ef =
    record {
      found< = rw (ef, ei) (without-word (bit_and near candidates) states (both_word near candidates f.found<));
      is = λ t h.
          let g = subst T (has t) h in
          let b = and_l (has_bit near t && has_bit candidates t) _ g in
          (and_r (has_bit near t) _ b, T_not (has_bit states t) (and_r (has_bit near t && has_bit candidates t) _ g), f.into t (and_l (has_bit near t) _ b));
      all = λ t y r late b w.
          subst T (sym (has t))
          (and_i (has_bit near t && has_bit candidates t) (not (has_bit states t))
          (and_i (has_bit near t) (has_bit candidates t) (f.all t y (has-lt fresh y small b) b w) r)
          (not_T (has_bit states t) late));
    }
  where
    has : (t : ℕ) → has_bit found t ≡ (has_bit near t && has_bit candidates t && not (has_bit states t))
    has t =
        ap (λ (w : ℕ). has_bit w t) ef ∙ has-without inside states t
        ∙ ap (λ (b : Bool). b && not (has_bit states t)) (ap (λ (w : ℕ). has_bit w t) ei ∙ has_both near candidates t)
