-- Laws of the states from which steps enter a state or a set: the start, one turn and the end of each loop that collects them. Assumes nothing.
use Prim.Native.Nat.{ℕ, ◌+◌, ◌^◌, ◌≤◌, ◌<◌}
use mathlib.Core.Path.{◌≡◌, refl, sym, ap, ◌∙◌, subst}
use mathlib.Core.Logic.{⊎_elim}
use mathlib.Core.Bool.{true, false, ◌&&◌, ◌||◌}
use mathlib.Core.List.{List}
use native.Mathlib.Nat.{not-suc-le-zero}
use native.Mathlib.Omega.{arith}
use native.Mathlib.Decide.{dec_lt, ℕ_discrete}
use lib.Dec.{T, ltb, eqb, eqb→eq}
use lib.ListN.{length, get_or, set, length-set, replicate, length-replicate, get_or-replicate}
use lib.Seq.{get_or-set_same, get_or-set_other}
use lib.Bits.{bit_or}
use borrow.Author.Count.{below_more}
use borrow.Author.Tests.{lt-ltb, le-ltb}
use Rattle.lists.proofs.BoolLaws.{and_l, and_r, and_i, or-e, or_l, or_r, eq→eqb, true-T, false-not-T}
use Rattle.lists.proofs.FillLaws.{get_or-past}
use Rattle.words.specs.Bits.{has_bit, add_bit}
use Rattle.words.proofs.BitLaws.{has-lt, has-empty, has-or, has-add, has-add-below, add-word, or_word}
use Rattle.bisimulation.specs.Systems.{System}
use Rattle.sides.specs.declared.Side.{Side}
use Rattle.sides.specs.Side.{system_in, key_at}
use Rattle.match_sets.specs.Predecessors.{with_predecessor, Predecessors, ComeFrom, enters_by, EnterBy}

-- the empty word has no state
empty-none : {word : ℕ} (t : ℕ) → word ≡ 0 → T (has_bit word t) → ⊥
empty-none {word} t e h = false-not-T (has_bit 0 t) (has-empty t) (rw e at h)

-- ---- the words of predecessors

zeros-at : (n y : ℕ) → get_or {A = ℕ} (replicate n 0) y 0 ≡ 0
zeros-at n y = elim (dec_lt y n) [
  | yes h ↦ get_or-replicate n y 0 0 h
  | no h ↦ get_or-past (replicate n 0) y (rw length-replicate (omega arith))
]

module _ (S : System) where
  pub predecessors-none : Predecessors S 0 (replicate 64 0)
  predecessors-none =
      record {
        room = length-replicate {A = ℕ} 64 0;
        words< = λ y. rw (zeros-at 64 y) (omega arith);
        step = λ x y h. absurd (empty-none x (zeros-at 64 y) h);
        all = λ e l. absurd (not-suc-le-zero l);
      }

  module _ {e : ℕ} {words : List ℕ} (p : Predecessors S e words) where
    -- step e is not silent
    pub predecessors-skip : (T (S.silent e) → ⊥) → Predecessors S (e + 1) words
    predecessors-skip never =
        record {
          room = p.room;
          words< = p.words<;
          step = λ x y h. let q = p.step x y h in (q.0, omega arith, q.2, q.3, q.4);
          all = below_more
              (λ (i : ℕ). T (S.silent i) → S.from i < 64 → S.to i < 64 → T (has_bit (get_or words (S.to i) 0) (S.from i))) e
              p.all (λ s. absurd (never s));
        }

    -- it is silent, and its end has no word
    past : 64 ≤ S.to e → Predecessors S (e + 1) words
    past far =
        record {
          room = p.room;
          words< = p.words<;
          step = λ x y h. let q = p.step x y h in (q.0, omega arith, q.2, q.3, q.4);
          all = below_more
              (λ (i : ℕ). T (S.silent i) → S.from i < 64 → S.to i < 64 → T (has_bit (get_or words (S.to i) 0) (S.from i))) e
              p.all (λ s a b. absurd (let z : ⊥ = omega arith in z));
        }

    -- it is silent, and its end has one
    added : T (S.silent e) → S.to e < 64 → Predecessors S (e + 1) (set words (S.to e) (add_bit (get_or words (S.to e) 0) (S.from e)))
    added quiet near =
        let y = S.to e in
        let x = S.from e in
        let w = get_or words y 0 in
        let k : y < length words = omega (arith, p.room) in
        let here : get_or (set words y (add_bit w x)) y 0 ≡ add_bit w x = get_or-set_same words y (add_bit w x) 0 k in
        record {
          room = length-set words y (add_bit w x) ∙ p.room;
          words< = λ z. elim (ℕ_discrete z y) [
            | yes q ↦ rw (q, here) (add-word w x (p.words< y))
            | no q ↦ rw (get_or-set_other words y z (add_bit w x) 0 q) (p.words< z)
          ];
          step = λ t z h. elim (ℕ_discrete z y) [
            | yes q ↦
                ⊎_elim
                (λ b. (e, omega arith, quiet, sym (eqb→eq t x (and_r (ltb x 64) (eqb t x) b)), sym q))
                (λ b. let r = p.step t y b in (r.0, omega arith, r.2, r.3, r.4 ∙ sym q))
                (or-e (ltb x 64 && eqb t x) (has_bit w t) (subst T (ap (λ (u : ℕ). has_bit (get_or (set words y (add_bit w x)) u 0) t) q
                ∙ ap (λ (u : ℕ). has_bit u t) here ∙ has-add w x t) h))
            | no q ↦ let r = p.step t z (rw (get_or-set_other words y z (add_bit w x) 0 q) at h) in (r.0, omega arith, r.2, r.3, r.4)
          ];
          all = below_more
              (λ (i : ℕ). T (S.silent i) → S.from i < 64 → S.to i < 64
              → T (has_bit (get_or (set words y (add_bit w x)) (S.to i) 0) (S.from i))) e
              (λ i l s a b. elim (ℕ_discrete (S.to i) y) [
                | yes q ↦ rw (q, here, has-add w x (S.from i)) (or_r (ltb x 64 && eqb (S.from i) x) (has_bit w (S.from i)) (rw q at (p.all i l s a b)))
                | no q ↦ rw (get_or-set_other words y (S.to i) (add_bit w x) 0 q) (p.all i l s a b)
              ])
              (λ s a b. rw (here, has-add-below w x x a) (or_l (eqb x x) (has_bit w x) (eq→eqb x x refl)));
        }

    pub predecessors-more : {words' : List ℕ} {x y : ℕ} → T (S.silent e) → x ≡ S.from e → y ≡ S.to e → words' ≡ with_predecessor words y x
        → Predecessors S (e + 1) words'
    unfolding with_predecessor
    predecessors-more {words'} {x} {y} quiet ex ey ew = elim (dec_lt (S.to e) 64) [
      | yes h ↦ rw (ew, ey, ex, lt-ltb (S.to e) 64 h) (added quiet h)
      | no h ↦ rw (ew, ey, le-ltb (S.to e) 64 (omega arith)) (past (omega arith))
    ]

-- ---- the predecessors of a set

module _ (words : List ℕ) (states : ℕ) where
  pub come-none : {found u : ℕ} → found ≡ 0 → ((y : ℕ) → 0 ≤ y → y < u → has_bit states y ≡ false) → ComeFrom words states u found
  come-none {found} {u} e gap =
      record {
        found< = rw e (omega arith);
        into = λ x h. absurd (empty-none x e h);
        all = λ x y l b. absurd (false-not-T (has_bit states y) (gap y (omega arith) l) b);
      }

  module _ {found y : ℕ} (f : ComeFrom words states y found) where
    -- those of y are found too, and no state of the set is between y and the next
    pub come-more : {found' next : ℕ} → has_bit states y ≡ true → get_or words y 0 < 2 ^ 64 → found' ≡ bit_or found (get_or words y 0)
        → ((u : ℕ) → y + 1 ≤ u → u < next → has_bit states u ≡ false) → ComeFrom words states next found'
    come-more {found'} {next} here small e gap =
        let has : (x : ℕ) → has_bit found' x ≡ (has_bit found x || has_bit (get_or words y 0) x) =
        λ x. ap (λ (w : ℕ). has_bit w x) e ∙ has-or found (get_or words y 0) x in
        record {
          found< = rw e (or_word found (get_or words y 0) f.found< small);
          into = λ x h. ⊎_elim (f.into x) (λ b. (y, true-T (has_bit states y) here, b)) (or-e (has_bit found x) (has_bit (get_or words y 0) x) (subst T (has x) h));
          all = λ x u l s b. subst T (sym (has x)) (elim (dec_lt u y) [
            | yes k ↦ or_l (has_bit found x) (has_bit (get_or words y 0) x) (f.all x u k s b)
            | no k ↦ elim (ℕ_discrete u y) [
              | yes q ↦ or_r (has_bit found x) (has_bit (get_or words y 0) x) (rw q at b)
              | no q ↦ absurd (false-not-T (has_bit states u) (gap u (omega arith) l) s)
            ]
          ]);
        }

    pub come-all : 64 ≤ y → ComeFrom words states 64 found
    come-all far = record { found< = f.found<; into = f.into; all = λ x u l s b. f.all x u (omega arith) s b }

-- ---- the states from which steps with a key enter a target

module _ (theirs : Side) (key target : ℕ) where
  pub enter-none : {found : ℕ} → found ≡ 0 → EnterBy theirs key target 0 found
  enter-none e = record { found< = rw e (omega arith); step = λ x h. absurd (empty-none x e h); all = λ i l. absurd (not-suc-le-zero l) }

  module _ {e found : ℕ} (f : EnterBy theirs key target e found) where
    pub enter-skip : (T (enters_by theirs key target e) → ⊥) → EnterBy theirs key target (e + 1) found
    enter-skip never =
        record {
          found< = f.found<;
          step = λ x h. let q = f.step x h in (q.0, omega arith, q.2, q.3);
          all = below_more
              (λ (i : ℕ). T (enters_by theirs key target i) → (system_in theirs).from i < 64 → T (has_bit found ((system_in theirs).from i))) e
              f.all (λ s. absurd (never s));
        }

    pub enter-more : {found' x : ℕ} → T (enters_by theirs key target e) → x ≡ (system_in theirs).from e → found' ≡ add_bit found x
        → EnterBy theirs key target (e + 1) found'
    enter-more {found'} {x} here ex ef =
        let has : (t : ℕ) → has_bit found' t ≡ (ltb x 64 && eqb t x || has_bit found t) = λ t. ap (λ (w : ℕ). has_bit w t) ef ∙ has-add found x t in
        record {
          found< = rw ef (add-word found x f.found<);
          step = λ t h.
              ⊎_elim
              (λ b. (e, omega arith, here, sym ex ∙ sym (eqb→eq t x (and_r (ltb x 64) (eqb t x) b))))
              (λ b. let q = f.step t b in (q.0, omega arith, q.2, q.3))
              (or-e (ltb x 64 && eqb t x) (has_bit found t) (subst T (has t) h));
          all = below_more
              (λ (i : ℕ). T (enters_by theirs key target i) → (system_in theirs).from i < 64 → T (has_bit found' ((system_in theirs).from i))) e
              (λ i l s a. subst T (sym (has ((system_in theirs).from i)))
              (or_r (ltb x 64 && eqb ((system_in theirs).from i) x) (has_bit found ((system_in theirs).from i)) (f.all i l s a)))
              (λ s a. rw (ef, ex, has-add-below found ((system_in theirs).from e) ((system_in theirs).from e) a)
              (or_l (eqb ((system_in theirs).from e) ((system_in theirs).from e)) (has_bit found ((system_in theirs).from e))
              (eq→eqb ((system_in theirs).from e) ((system_in theirs).from e) refl)));
        }

  -- for silent steps they are the predecessors of the target
  pub enter-silent : {words : List ℕ} {found : ℕ} → key ≡ 0 → target < 2 ^ 64 → Predecessors (system_in theirs) (system_in theirs).steps words
      → ComeFrom words target 64 found → EnterBy theirs key target (system_in theirs).steps found
  unfolding enters_by
  enter-silent {words} {found} ek small p f =
      record {
        found< = f.found<;
        step = λ x h.
            let q = f.into x h in
            let r = p.step x q.0 q.2 in
            (r.0, r.1, and_i (eqb (key_at theirs r.0) key) _ (rw ek r.2) (rw r.4 q.1), r.3);
        all = λ e l s a.
            let quiet : T (eqb (key_at theirs e) 0) = rw ek at (and_l (eqb (key_at theirs e) key) _ s) in
            let in-target = and_r (eqb (key_at theirs e) key) _ s in
            let near = has-lt target ((system_in theirs).to e) small in-target in
            f.all ((system_in theirs).from e) ((system_in theirs).to e) near in-target (p.all e l quiet a near);
      }
