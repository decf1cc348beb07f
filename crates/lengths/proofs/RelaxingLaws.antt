-- Laws of relaxing: one store keeps the bounds, and a row that is settled has the match distances.
-- The key idea: a row within its bounds is nowhere too small, since each length below the number of states counts the steps inside a run, and a settled row is
-- nowhere too large, by induction on the steps inside. Assumes nothing.
use Prim.Native.Nat.{ℕ, zero, suc, ◌+◌, ◌^◌, ◌≤◌, ◌<◌, zero-le}
use mathlib.Core.Path.{◌≡◌, refl, sym, ap, ◌∙◌, subst}
use mathlib.Core.Logic.{⊎_elim}
use mathlib.Core.Bool.{Bool, true, false, not, ◌&&◌, ◌||◌, false≢true}
use mathlib.Core.List.{List}
use native.Mathlib.Nat.{not-suc-le-zero}
use native.Mathlib.Numerals.{add-one}
use native.Mathlib.Omega.{arith}
use native.Mathlib.Decide.{dec_lt, ℕ_discrete}
use lib.Dec.{T, eqb, eqb→eq, ltb→lt, lt→ltb}
use lib.ListN.{length, get_or, set, length-set}
use lib.Seq.{get_or-set_same, get_or-set_other}
use borrow.Author.Count.{below_more}
use Rattle.lists.specs.Lists.{tabulate}
use Rattle.lists.proofs.BoolLaws.{and_l, and_r, and_i, or-e, or_r, eq→eqb, T-dec, true-T, false-not-T}
use borrow.Author.Tests.{ne_eqb}
use Rattle.lists.proofs.BelowLaws.{any-e, any-i, first-is, first-none, sum_lt}
use Rattle.lists.proofs.FillLaws.{tabulate-of, tabulate-cong}
use Rattle.words.specs.Bits.{has_bit, add_bit, without_bits}
use Rattle.words.proofs.BitLaws.{has-lt, has-empty, has-add-below, has-without}
use Rattle.bisimulation.specs.Systems.{View}
use Rattle.bisimulation.specs.Judge.{is2a}
use Rattle.bisimulation.specs.Maker.{matches_within, distance}
use Rattle.bisimulation.proofs.ClauseLaws.{is2a-i, is2a-e}
use Rattle.bisimulation.proofs.RunLaws.{within-related}
use Rattle.sides.specs.declared.Side.{Side}
use Rattle.sides.specs.Side.{system_in, key_at, related_to}
use Rattle.sides.specs.Views.{view_in}
use Rattle.lengths.specs.Relaxing.{total, met_by, shortens, Bounds, Settled, Round, Zeroed}

-- what holds of each length holds after a store of one of which it holds
set-each : (P : ℕ → ℕ → Type 0) (row : List ℕ) (x z : ℕ) → x < length row → P x z → ((t : ℕ) → t < 64 → P t (get_or row t 0)) → (t : ℕ) → t < 64
    → P t (get_or (set row x z) t 0)
set-each P row x z h p all t l = elim (ℕ_discrete t x) [
  | yes e ↦ subst (λ (k : ℕ). P k (get_or (set row x z) k 0)) (sym e) (subst (P x) (sym (get_or-set_same row x z 0 h)) p)
  | no e ↦ subst (P t) (sym (get_or-set_other row x t z 0 e)) (all t l)
]

-- a store of a smaller length makes the sum fall
pub total_falls : (row : List ℕ) (x z : ℕ) → x < 64 → x < length row → z < get_or row x 0 → total (set row x z) < total row
unfolding total
total_falls row x z h k l =
    sum_lt 64 (λ t. get_or (set row x z) t 0) (λ t. get_or row t 0) x h (rw (get_or-set_same row x z 0 k) l)
    (set-each (λ t y. y ≤ get_or row t 0) row x z k (omega arith) (λ t b. omega arith))

-- ---- the test of a step

module _ (word : ℕ) (row : List ℕ) (x y : ℕ) (quiet : Bool) where
  pub shortens-e : {r : Bool} → r ≡ shortens word row x y quiet → r ≡ true
      → (x < 64) × (y < 64) × (get_or row y 0 + 1 < get_or row x 0) × T (has_bit word x) × T quiet
  unfolding shortens
  shortens-e q e =
      let h = true-T _ (sym q ∙ e) in
      (ltb→lt _ _ (search (and_l, and_r)), ltb→lt _ _ (search (and_l, and_r)), ltb→lt _ _ (search (and_l, and_r)), search (and_l, and_r), search (and_l, and_r))

  pub shortens-not : {r : Bool} → r ≡ shortens word row x y quiet → r ≡ false → x < 64 → y < 64 → T (has_bit word x) → T quiet
      → get_or row x 0 ≤ get_or row y 0 + 1
  unfolding shortens
  shortens-not q e h k b s = elim (dec_lt (get_or row y 0 + 1) (get_or row x 0)) [
    | yes l ↦ (let a = lt→ltb x 64 h in let d = lt→ltb y 64 k in let f = lt→ltb _ _ l in absurd (false-not-T _ (sym q ∙ e) (search and_i)))
    | no l ↦ omega arith
  ]

-- ---- the row and its laws

module _ (v : View) (j : ℕ) where
  open v use {own, other, related, serves}

  abbrev from : ℕ
  from = own.from j

  -- at first every length is the number of states
  pub bounds-none : (row : List ℕ) → length row ≡ 64 → ((t : ℕ) → t < 64 → get_or row t 0 ≡ other.states) → Bounds v j 0 row
  bounds-none row l e =
      record {
        len = l;
        most = λ t h. omega (arith, e t h);
        within = λ t h k. absurd (let z : ⊥ = omega (arith, e t h) in z);
        none_inside = λ k h. absurd (not-suc-le-zero h);
      }

  module _ {e : ℕ} {row : List ℕ} (b : Bounds v j e row) where
    -- step e meets the obligation, and the length at its start becomes 0
    pub bounds-zero : e < other.steps → other.from e < 64 → T (serves j e) → T (related from (other.from e)) → T (related (own.to j) (other.to e))
        → Bounds v j (e + 1) (set row (other.from e) 0)
    unfolding matches_within
    bounds-zero l h m p q =
        let k : other.from e < length row = omega (arith, b.len) in
        record {
          len = length-set row (other.from e) 0 ∙ b.len;
          most = set-each (λ t y. y ≤ other.states) row (other.from e) 0 k zero-le b.most;
          within = set-each (λ t y. y < other.states → T (matches_within v j y t)) row (other.from e) 0 k
              (λ z. and_i (related from (other.from e)) (is2a v j (other.from e)) p (is2a-i v j (other.from e) (e, l, refl, m, q)))
              b.within;
          none_inside = below_more
              (λ (i : ℕ). T (serves j i) → T (related from (other.from i)) → T (related (own.to j) (other.to i))
              → get_or (set row (other.from e) 0) (other.from i) 0 ≡ 0) e
              (λ i d m r s. elim (ℕ_discrete (other.from i) (other.from e)) [
                | yes w ↦ ap (λ (y : ℕ). get_or (set row (other.from e) 0) y 0) w ∙ get_or-set_same row (other.from e) 0 0 k
                | no w ↦ get_or-set_other row (other.from e) (other.from i) 0 0 w ∙ b.none_inside i d m r s
              ])
              (λ m r s. get_or-set_same row (other.from e) 0 0 k);
        }

    -- step e does not meet it
    pub bounds-skip : (T (serves j e) → T (related from (other.from e)) → T (related (own.to j) (other.to e)) → ⊥) → Bounds v j (e + 1) row
    bounds-skip never =
        record {
          len = b.len;
          most = b.most;
          within = b.within;
          none_inside = below_more
              (λ (i : ℕ). T (serves j i) → T (related from (other.from i)) → T (related (own.to j) (other.to i)) → get_or row (other.from i) 0 ≡ 0) e
              b.none_inside (λ m r s. absurd (never m r s));
        }

    -- a silent step that shortens a length
    pub bounds-lower : (k : ℕ) → k < other.steps → T (other.silent k) → other.from k < 64 → other.to k < 64
        → get_or row (other.to k) 0 + 1 < get_or row (other.from k) 0
        → T (related from (other.from k))
        → Bounds v j e (set row (other.from k) (get_or row (other.to k) 0 + 1))
    unfolding matches_within
    bounds-lower k l quiet hx hy short p =
        let x = other.from k in
        let y = other.to k in
        let z = get_or row y 0 in
        let kx : x < length row = omega (arith, b.len) in
        let mx = b.most x hx in
        let here = eq→eqb x x refl in
        let run : T (matches_within v j z y) = b.within y hy (omega arith) in
        let longer : T (matches_within v j (suc z) x) =
        and_i (related from x) _ p (or_r (is2a v j x) _
        (any-i other.steps (λ i. eqb (other.from i) x && other.silent i && matches_within v j z (other.to i)) k l (search and_i))) in
        record {
          len = length-set row x (z + 1) ∙ b.len;
          most = set-each (λ t y. y ≤ other.states) row x (z + 1) kx (omega arith) b.most;
          within = set-each (λ t y. y < other.states → T (matches_within v j y t)) row x (z + 1) kx (λ w. rw add-one longer) b.within;
          none_inside = λ i d m r s. elim (ℕ_discrete (other.from i) x) [
            | yes w ↦ absurd (let a = b.none_inside i d m r s in let c : get_or row x 0 ≡ 0 = ap (λ (y : ℕ). get_or row y 0) (sym w) ∙ a in omega arith)
            | no w ↦ get_or-set_other row x (other.from i) (z + 1) 0 w ∙ b.none_inside i d m r s
          ];
        }

  pub settled-none : (row : List ℕ) → Settled v j 0 row
  settled-none row = record { short = λ k h. absurd (not-suc-le-zero h) }

  pub settled-more : {e : ℕ} {row : List ℕ} → Settled v j e row
      → (T (other.silent e) → T (related from (other.from e)) → other.to e < 64 → get_or row (other.from e) 0 ≤ get_or row (other.to e) 0 + 1)
      → Settled v j (e + 1) row
  settled-more {e} {row} s h =
      record {
        short = below_more
            (λ (k : ℕ). T (other.silent k) → T (related from (other.from k)) → other.to k < 64 → get_or row (other.from k) 0 ≤ get_or row (other.to k) 0 + 1) e
            s.short h;
      }

  -- ---- the end

  module _ (small : (t : ℕ) → T (related from t) → t < 64) {row : List ℕ} (b : Bounds v j other.steps row) (s : Settled v j other.steps row) where
    at_once : (t : ℕ) → T (related from t) → T (is2a v j t) → get_or row t 0 ≤ 0
    at_once t r a =
        let q = is2a-e v j t a in
        let w = b.none_inside q.0 q.1 q.3 (rw q.2 r) q.4 in
        omega (arith, ap (λ (y : ℕ). get_or row y 0) (sym q.2) ∙ w)

    -- a run with d steps inside keeps the length at most d
    row-le : (d t : ℕ) → T (matches_within v j d t) → get_or row t 0 ≤ d
    unfolding matches_within
    row-le zero t h = at_once t (and_l (related from t) _ h) (and_r (related from t) _ h)
    row-le (suc d) t h =
        let r = and_l (related from t) _ h in
        ⊎_elim
        (λ a. omega (arith, at_once t r a))
        (λ a.
        let q = any-e _ _ a in
        let w = q.2 in
        let e : other.from q.0 ≡ t = eqb→eq _ _ (search (and_l, and_r)) in
        let m : T (matches_within v j d (other.to q.0)) = search (and_l, and_r) in
        let i = row-le d (other.to q.0) m in
        let f = s.short q.0 q.1 (search (and_l, and_r)) (rw e r) (small (other.to q.0) (within-related v j d (other.to q.0) m)) in
        let g : get_or row (other.from q.0) 0 ≡ get_or row t 0 = ap (λ (y : ℕ). get_or row y 0) e in
        omega arith)
        (or-e (is2a v j t) _ (and_r (related from t) _ h))

    row_at : (t : ℕ) → t < 64 → get_or row t 0 ≡ distance v j t
    unfolding distance
    row_at t l = elim (dec_lt (get_or row t 0) other.states) [
      | yes h ↦ sym (first-is other.states (λ k. matches_within v j k t) (get_or row t 0) h (b.within t l h) (λ k g m. omega (arith, row-le k t m)))
      | no h ↦ (let w = b.most t l in let z = first-none other.states (λ k. matches_within v j k t) (λ k g m. omega (arith, row-le k t m)) in omega arith)
    ]

    -- a settled row has the match distances
    pub row-distances : row ≡ tabulate 64 (distance v j)
    row-distances = sym (tabulate-of row 64 (sym b.len)) ∙ tabulate-cong 64 _ _ row_at

  -- ---- a round

  pub round-none : {row : List ℕ} → Bounds v j other.steps row → Round v j 0 row row false
  round-none {row} b = record { bounds = b; settled = λ e. settled-none row; same = λ e. refl; fell = λ e. absurd (false≢true e) }

  -- one turn of the round, for the step from x to y
  module _ (small : (t : ℕ) → T (related from t) → t < 64) (word : ℕ) (is : (t : ℕ) → has_bit word t ≡ related from t)
      {e : ℕ} {before row : List ℕ} {changed : Bool} (r : Round v j e before row changed) {x y : ℕ} (x-is : x ≡ other.from e) (y-is : y ≡ other.to e) where
    pub round-lower : {s : Bool} → e < other.steps → s ≡ shortens word row x y (other.silent e) → s ≡ true
        → Round v j (e + 1) before (set row x (get_or row y 0 + 1)) true
    round-lower l d h =
        let q = shortens-e word row x y (other.silent e) d h in
        let k : x < length row = omega (arith, r.bounds.len, q.0) in
        let f = total_falls row x (get_or row y 0 + 1) q.0 k q.2 in
        record {
          bounds = rw (x-is, y-is) (bounds-lower r.bounds e l q.4 (rw x-is at q.0) (rw y-is at q.1) (rw (x-is, y-is) at q.2)
              (subst T (is (other.from e)) (rw x-is at q.3)));
          settled = λ w. absurd (false≢true (sym w));
          same = λ w. absurd (false≢true (sym w));
          fell = λ w. by changed refl f;
        }
      where
        by : (c : Bool) → changed ≡ c → total (set row x (get_or row y 0 + 1)) < total row → total (set row x (get_or row y 0 + 1)) < total before
        by true w f = omega (arith, r.fell w)
        by false w f = omega (arith, r.same w)

    pub round-skip : {s : Bool} → s ≡ shortens word row x y (other.silent e) → s ≡ false → Round v j (e + 1) before row changed
    round-skip d h =
        record {
          bounds = r.bounds;
          settled = λ w. settled-more (r.settled w)
              (λ m p l. shortens-not word row (other.from e) (other.to e) (other.silent e) (rw (x-is, y-is) at d) h (small (other.from e) p) l
              (subst T (sym (is (other.from e))) p) m);
          same = r.same;
          fell = r.fell;
        }

-- ---- the start, by the words of the states related to the two ends of our step

module _ (ours theirs : Side) (j : ℕ) {from to : ℕ} (from_is : from ≡ related_to ours ((system_in ours).from j))
    (to_is : to ≡ related_to ours ((system_in ours).to j))
    {key : ℕ} (key-is : key ≡ key_at ours j) {e : ℕ} {row : List ℕ} (b : Bounds (view_in ours theirs) j e row) {m : Bool}
    (m-is : m ≡ met_by theirs from to key e) where
  -- their step e meets the obligation
  met-parts : T m → T (has_bit from ((system_in theirs).from e)) × T (has_bit to ((system_in theirs).to e)) × T (eqb (key_at theirs e) key)
  unfolding met_by
  met-parts h = let g = subst T m-is h in (search and_l, search (and_l, and_r), search (and_l, and_r))

  pub met-from : from < 2 ^ 64 → m ≡ true → (system_in theirs).from e < 64
  met-from small h = has-lt from ((system_in theirs).from e) small (met-parts (true-T m h)).0

  pub start-hit : e < (system_in theirs).steps → from < 2 ^ 64 → m ≡ true → {x : ℕ} → x ≡ (system_in theirs).from e
      → Bounds (view_in ours theirs) j (e + 1) (set row x 0)
  start-hit l small h x-is =
      let p = met-parts (true-T m h) in
      rw x-is
      (bounds-zero (view_in ours theirs) j b l (met-from small h)
      (eq→eqb (key_at ours j) (key_at theirs e) (sym (eqb→eq (key_at theirs e) key p.2 ∙ key-is)))
      (rw from_is at p.0) (rw to_is at p.1))

  pub start-miss : m ≡ false → Bounds (view_in ours theirs) j (e + 1) row
  unfolding met_by
  start-miss h =
      bounds-skip (view_in ours theirs) j b (λ s f t.
      let x : T (has_bit from ((system_in theirs).from e)) = rw from_is f in
      let y : T (has_bit to ((system_in theirs).to e)) = rw to_is t in
      let z : T (eqb (key_at theirs e) key) = eq→eqb (key_at theirs e) key (sym (eqb→eq (key_at ours j) (key_at theirs e) s) ∙ sym key-is) in
      false-not-T m h (subst T (sym m-is) (search and_i)))

-- ---- a start that no round changes

pub zeroed-none : {word : ℕ} (row : List ℕ) → word ≡ 0 → Zeroed word row
zeroed-none row e = record { zeros = λ x h. absurd (false-not-T (has_bit 0 x) (has-empty x) (rw e at h)) }

pub zeroed-more : {word more : ℕ} {row : List ℕ} {x : ℕ} → Zeroed word row → x < 64 → length row ≡ 64 → more ≡ add_bit word x → Zeroed more (set row x 0)
zeroed-more {word} {more} {row} {x} z h l e =
    let k : x < length row = omega arith in
    record {
      zeros = λ y b. elim (ℕ_discrete y x) [
        | yes q ↦ ap (λ (i : ℕ). get_or (set row x 0) i 0) q ∙ get_or-set_same row x 0 0 k
        | no q ↦ get_or-set_other row x y 0 0 q ∙ z.zeros y
            (subst T (ap (λ (w : ℕ). has_bit w y) e ∙ has-add-below word x y h ∙ ap (λ (c : Bool). c || has_bit word y) (ne_eqb y x q)) b)
      ];
    }

-- where every state related to the one that the step leaves is 0, no step shortens a length
pub zeroed-settled : (ours theirs : Side) (j : ℕ) {from word rest : ℕ} {row : List ℕ} → from ≡ related_to ours ((system_in ours).from j) → Zeroed word row
    → rest ≡ without_bits from word → {empty changed : Bool} → empty ≡ eqb rest 0 → changed ≡ not empty → changed ≡ false
    → Settled (view_in ours theirs) j (system_in theirs).steps row
zeroed-settled ours theirs j {from} {word} {rest} {row} ef z er {empty} {changed} ee ec n =
    record {
      short = λ k l q r t. let e = z.zeros ((system_in theirs).from k) (inside ((system_in theirs).from k) r) in omega arith;
    }
  where
    none : rest ≡ 0
    none = eqb→eq rest 0 (subst T ee (not-false empty (sym ec ∙ n)))
      where
        not-false : (b : Bool) → not b ≡ false → T b
        not-false true q = tt
        not-false false q = absurd (false≢true (sym q))

    inside : (x : ℕ) → T (has_bit (related_to ours ((system_in ours).from j)) x) → T (has_bit word x)
    inside x r =
        ⊎_elim (λ h. h) (λ h. absurd (false-not-T (has_bit 0 x) (has-empty x)
        (subst T (sym (has-without from word x) ∙ ap (λ (w : ℕ). has_bit w x) (sym er ∙ none))
        (and_i (has_bit from x) (not (has_bit word x)) (rw ef r) (not_T (has_bit word x) h)))))
        (T-dec (has_bit word x))
      where
        not_T : (b : Bool) → (T b → ⊥) → T (not b)
        not_T true h = absurd (h tt)
        not_T false h = tt
