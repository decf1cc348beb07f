-- Laws of the open steps: they are kept one by one, a round over them gives the chain lengths for one step more, and their chains are those of the side.
-- The key idea: a step that is not open gives no state a length, so the greatest length over the kept steps is that over all steps. Assumes nothing.
use Prim.Native.Nat.{ℕ, zero, suc, ◌+◌, ◌*◌, max, ◌≤◌, ◌<◌, zero-le}
use mathlib.Core.Path.{◌≡◌, refl, sym, ap, ap₂, ◌∙◌, subst}
use mathlib.Core.Bool.{Bool, true, false, cond, ◌&&◌, and-true, and-false}
use mathlib.Core.List.{List, [], ◌∷◌, ◌++◌}
use native.Mathlib.Nat.{not-suc-le-zero}
use native.Mathlib.Numerals.{add-one}
use native.Mathlib.Omega.{arith}
use native.Mathlib.Decide.{dec_lt}
use lib.Dec.{T, eqb, eqb→eq, ltb, ltb→lt, lt→ltb}
use lib.ListN.{length, get_or, set, replicate, length-append, get_or-append}
use lib.Seq.{get_or_at}
use borrow.Author.Count.{below_more}
use borrow.Author.Tests.{eq-eqb, ne_eqb, lt-ltb, le-ltb, le-leb, lt-leb}
use Rattle.lists.specs.Below.{most_below}
use Rattle.lists.specs.Lists.{tabulate}
use Rattle.lists.specs.Numbers.{byte_at}
use Rattle.lists.proofs.BoolLaws.{and_l, and_r, and_i, T_true, true-T, false-not-T, cond-false}
use Rattle.lists.proofs.BelowLaws.{most-cong, most-more}
use Rattle.lists.proofs.FillLaws.{tabulate-cong, tabulate-set, length-tabulate, get_or-tabulate, get_or-past}
use Rattle.words.specs.Bits.{has_bit}
use Rattle.words.proofs.BitLaws.{has-empty}
use Rattle.bisimulation.specs.Systems.{System, stays}
use Rattle.bisimulation.specs.Maker.{chain_along}
use Rattle.bisimulation.proofs.RunLaws.{along-bound}
use Rattle.sides.specs.declared.Side.{Side}
use Rattle.sides.specs.Side.{related_to, system_in}
use Rattle.sides.specs.Views.{view_in}
use Rattle.sides.proofs.ViewLaws.{related-past}
use Rattle.lengths.specs.Chains.{open_by}
use Rattle.lengths.specs.OpenSteps.{kept_at, kept_system, every, is_open, longest, Ends, Open}
use Rattle.lengths.specs.declared.Kept.{Kept}
use Rattle.lengths.proofs.CellLaws.{zeros}

-- ---- one round over steps all of which count

module _ (S : System) (lengths : ℕ → ℕ) where
  pub longest-none : (test : ℕ → Bool) (s : ℕ) → longest S test lengths 0 s ≡ 0
  unfolding longest most_below
  longest-none test s = refl

  module _ (j : ℕ) where
    longest-here : longest S every lengths (j + 1) (S.from j) ≡ max (longest S every lengths j (S.from j)) (suc (lengths (S.to j)))
    unfolding longest
    longest-here =
        most-more j (λ i. cond (eqb (S.from i) (S.from j) && true) (suc (lengths (S.to i))) 0)
        ∙ ap (λ (b : Bool). max (longest S every lengths j (S.from j)) (cond (b && true) (suc (lengths (S.to j))) 0)) (eq-eqb (S.from j) (S.from j) refl)

    longest-other : (s : ℕ) → (s ≡ S.from j → ⊥) → longest S every lengths (j + 1) s ≡ longest S every lengths j s
    unfolding longest
    longest-other s d =
        most-more j (λ i. cond (eqb (S.from i) s && true) (suc (lengths (S.to i))) 0)
        ∙ ap (λ (b : Bool). max (longest S every lengths j s) (cond (b && true) (suc (lengths (S.to j))) 0)) (ne_eqb (S.from j) s (λ e. d (sym e)))
        ∙ omega arith

    -- a state keeps its length or gets that of the step
    pub longest-next : {row : List ℕ} → row ≡ tabulate 64 (longest S every lengths j) → {x more : ℕ} → x ≡ S.from j → more ≡ suc (lengths (S.to j)) → x < 64
        → set row x (max (get_or row x 0) more) ≡ tabulate 64 (longest S every lengths (j + 1))
    longest-next {row} e {x} {more} x-is more-is h =
        ap (λ (r : List ℕ). set r x (max (get_or row x 0) more)) e
        ∙ tabulate-set 64 x (max (get_or row x 0) more) (longest S every lengths j) (longest S every lengths (j + 1)) h
        (omega (arith, at_x, longest-here) ∙ ap (longest S every lengths (j + 1)) (sym x-is))
        (λ s k d. sym (longest-other s (λ q. d (q ∙ sym x-is))))
      where
        at_x : get_or row x 0 ≡ longest S every lengths j (S.from j)
        at_x = ap (λ (l : List ℕ). get_or l x 0) e ∙ get_or-tabulate 64 x (longest S every lengths j) h ∙ ap (longest S every lengths j) x-is

  pub longest-start : replicate 64 0 ≡ tabulate 64 (longest S every lengths 0)
  longest-start = zeros 64 ∙ tabulate-cong 64 _ _ (λ s l. sym (longest-none every s))

-- only the lengths at the next states count
longest-cong : (S : System) (test : ℕ → Bool) (f g : ℕ → ℕ) (m s : ℕ) → ((j : ℕ) → j < m → f (S.to j) ≡ g (S.to j))
    → longest S test f m s ≡ longest S test g m s
unfolding longest
longest-cong S test f g m s h = most-cong m _ _ (λ j l. ap (λ (x : ℕ). cond (eqb (S.from j) s && test j) (suc x) 0) (h j l))

-- ---- the recursion on the bound

-- a chain of one step more is a round over the chains
along-more : (S : System) (test : ℕ → Bool) (k s : ℕ) → chain_along S test (suc k) s ≡ longest S test (chain_along S test k) S.steps s
unfolding chain_along longest
along-more S test k s = refl

module _ (kept : List Kept) where
  abbrev S : System
  S = kept_system kept

  -- chains of no step
  pub kept-none : replicate 64 0 ≡ tabulate 64 (chain_along S every 0)
  unfolding chain_along
  kept-none = zeros 64

  -- a round after k gives k + 1
  pub kept-round : (k : ℕ) {before row : List ℕ} → Ends kept → before ≡ tabulate 64 (chain_along S every k)
      → row ≡ tabulate 64 (longest S every (λ u. get_or before u 0) (length kept)) → row ≡ tabulate 64 (chain_along S every (k + 1))
  kept-round k {before} ends b r =
      r ∙ tabulate-cong 64 _ _ (λ s l.
      longest-cong S every (λ u. get_or before u 0) (chain_along S every k) (length kept) s
      (λ j m.
      ap (λ (x : List ℕ). get_or x (S.to j) 0) b ∙ get_or-tabulate 64 (S.to j) _ (ends.to< j m))
      ∙ sym (along-more S every k s) ∙ ap (λ (i : ℕ). chain_along S every i s) (sym (add-one k)))

  -- lengths for k leave room for one more in a byte
  pub kept-room : {k : ℕ} {before : List ℕ} → k < 255 → before ≡ tabulate 64 (chain_along S every k) → (i : ℕ) → get_or before i 0 < 255
  kept-room {k} {before} h b i = elim (dec_lt i 64) [
    | yes l ↦ omega (arith, ap (λ (x : List ℕ). get_or x i 0) b ∙ get_or-tabulate 64 i _ l, along-bound S every k i)
    | no l ↦ omega (arith, ap (λ (x : List ℕ). get_or x i 0) b ∙ get_or-past (tabulate 64 (chain_along S every k)) i (rw length-tabulate (omega arith)))
  ]

-- ---- the open steps

module _ (kept : List Kept) (step : Kept) where
  -- the list with one step more
  abbrev longer : List Kept
  longer = kept ++ (step ∷ [])

  before-it : (i : ℕ) → i < length kept → kept_at longer i ≡ kept_at kept i
  before-it i h = get_or-append kept (step ∷ []) (record { from = 0; to = 0 }) i h

  at_it : kept_at longer (length kept) ≡ step
  at_it = get_or_at kept step [] (record { from = 0; to = 0 }) (length kept) refl

  kept-longest : (lengths : ℕ → ℕ) (s : ℕ) → longest (kept_system longer) every lengths (length longer) s
      ≡ max (longest (kept_system kept) every lengths (length kept) s) (cond (eqb step.from s && true) (suc (lengths step.to)) 0)
  unfolding longest
  kept-longest lengths s =
      ap (λ (n : ℕ). most_below n (λ i. cond (eqb (kept_at longer i).from s && true) (suc (lengths (kept_at longer i).to)) 0))
      (length-append kept (step ∷ []))
      ∙ most-more (length kept) (λ i. cond (eqb (kept_at longer i).from s && true) (suc (lengths (kept_at longer i).to)) 0)
      ∙ ap₂ max
      (most-cong (length kept) _ _ (λ i l. ap (λ (k : Kept). cond (eqb k.from s && true) (suc (lengths k.to)) 0) (before-it i l)))
      (ap (λ (k : Kept). cond (eqb k.from s && true) (suc (lengths k.to)) 0) at_it)

  -- what holds of each kept step and of this one
  kept-each : (P : Kept → Type 0) → P step → ((i : ℕ) → i < length kept → P (kept_at kept i)) → (i : ℕ) → i < length longer → P (kept_at longer i)
  kept-each P h all i l =
      below_more (λ (i : ℕ). P (kept_at longer i)) (length kept) (λ i l. subst P (sym (before-it i l)) (all i l)) (subst P (sym at_it) h) i
      (subst (λ (n : ℕ). i < n) (length-append kept (step ∷ [])) l)

module _ (S : System) (test : ℕ → Bool) where
  -- the length that step j gives s
  abbrev given : (ℕ → ℕ) → ℕ → ℕ → ℕ
  given lengths s j = cond (eqb (S.from j) s && test j) (suc (lengths (S.to j))) 0

  pub open-start : Open S test 0 []
  open-start =
      record {
        few = zero-le;
        ends = record { from< = λ i h. absurd (not-suc-le-zero h); to< = λ i h. absurd (not-suc-le-zero h) };
        same = λ lengths s h. longest-none (kept_system []) lengths every s ∙ sym (longest-none S lengths test s);
      }

  module _ {j : ℕ} {kept : List Kept} (o : Open S test j kept) {r : Bool} (r-is : r ≡ is_open S test j) where
    -- an open step is kept
    pub open-keep : {step : Kept} → r ≡ true → step.from ≡ S.from j → step.to ≡ S.to j → step.to < 64 → Open S test (j + 1) (kept ++ (step ∷ []))
    unfolding is_open longest
    open-keep {step} h a-is b-is small =
        let p = true-T _ (sym r-is ∙ h) in
        let low : step.from < 64 = rw a-is (ltb→lt _ _ (and_l (ltb (S.from j) 64) (test j) p)) in
        let passes : test j ≡ true = T_true _ (and_r (ltb (S.from j) 64) (test j) p) in
        let one-more : length (kept ++ (step ∷ [])) ≡ length kept + 1 = length-append kept (step ∷ []) in
        record {
          few = omega (arith, one-more, o.few);
          ends = record {
            from< = kept-each kept step (λ k. k.from < 64) low o.ends.from<;
            to< = kept-each kept step (λ k. k.to < 64) small o.ends.to<;
          };
          same = λ lengths s k.
              kept-longest kept step lengths s
              ∙ ap₂ max (o.same lengths s k)
              (ap₂ (λ (x y : ℕ). cond (eqb x s && true) (suc (lengths y)) 0) a-is b-is
              ∙ ap (λ (x : Bool). cond (eqb (S.from j) s && x) (suc (lengths (S.to j))) 0) (sym passes))
              ∙ sym (most-more j (given lengths s));
        }

    -- another one is not
    pub open-skip : r ≡ false → Open S test (j + 1) kept
    unfolding is_open longest
    open-skip h =
        record {
          few = omega (arith, o.few);
          ends = o.ends;
          same = λ lengths s k.
              o.same lengths s k ∙ sym (most-more j (given lengths s)
              ∙ ap (max (most_below j (given lengths s))) (cond-false (eqb (S.from j) s && test j) (suc (lengths (S.to j))) 0 (λ b.
              false-not-T _ (sym r-is ∙ h) (and_i (ltb (S.from j) 64) (test j)
              (lt→ltb (S.from j) 64 (rw (eqb→eq (S.from j) s (and_l (eqb (S.from j) s) _ b)) k)) (and_r (eqb (S.from j) s) _ b))))
              ∙ omega arith);
        }

  module _ {kept : List Kept} (o : Open S test S.steps kept) where
    -- the chains of all open steps are those of the side
    open-chains : (k s : ℕ) → s < 64 → chain_along (kept_system kept) every k s ≡ chain_along S test k s
    unfolding chain_along
    open-chains zero s h = refl
    open-chains (suc k) s h =
        along-more (kept_system kept) every k s
        ∙ longest-cong (kept_system kept) every (chain_along (kept_system kept) every k) (chain_along S test k) (length kept) s
        (λ j l. open-chains k (kept_at kept j).to (o.ends.to< j l))
        ∙ o.same (chain_along S test k) s h
        ∙ sym (along-more S test k s)

    pub open_row : (k : ℕ) {row : List ℕ} → row ≡ tabulate 64 (chain_along (kept_system kept) every k) → row ≡ tabulate 64 (chain_along S test k)
    open_row k e = e ∙ tabulate-cong 64 _ _ (open-chains k)

-- ---- the test of a step by the table

module _ (ours theirs : Side) (distances : List ℕ) (t j : ℕ) where
  abbrev test : ℕ → Bool
  test = open_by (view_in ours theirs) distances t

  -- the step leaves a state of 64 or more
  pub open-far : 64 ≤ (system_in ours).from j → false ≡ is_open (system_in ours) test j
  unfolding is_open
  open-far h = simp (le-ltb ((system_in ours).from j) 64 h)

  module _ (h : (system_in ours).from j < 64) {b : Bool} (b-is : b ≡ has_bit (related_to ours ((system_in ours).to j)) t) where
    -- it enters a state that is not related to t
    pub open-apart : b ≡ false → false ≡ is_open (system_in ours) test j
    unfolding is_open open_by
    open-apart e = simp (lt-ltb ((system_in ours).from j) 64 h, sym b-is ∙ e, and-false ((system_in ours).silent j))

    -- it enters one that is, and by the table it is matched
    pub open-matched : {n x : ℕ} → n ≡ (system_in theirs).states → x ≡ byte_at distances (j * 64 + t) → x < n → false ≡ is_open (system_in ours) test j
    unfolding is_open open_by
    open-matched en ex l =
        let k : byte_at distances (j * 64 + t) < (system_in theirs).states = rw (en, ex) at l in
        simp (
          lt-ltb ((system_in ours).from j) 64 h,
          lt-leb (system_in theirs).states (byte_at distances (j * 64 + t)) k,
          and-false (stays (view_in ours theirs) j t),
        )

    -- it is unmatched, and open where it is silent
    pub open_by_lem : {n x : ℕ} → n ≡ (system_in theirs).states → x ≡ byte_at distances (j * 64 + t) → b ≡ true → n ≤ x
        → (system_in ours).silent j ≡ is_open (system_in ours) test j
    unfolding is_open open_by
    open_by_lem en ex e l =
        let k : (system_in theirs).states ≤ byte_at distances (j * 64 + t) = rw (en, ex) at l in
        sym (simp (
          lt-ltb ((system_in ours).from j) 64 h,
          sym b-is ∙ e,
          le-leb (system_in theirs).states (byte_at distances (j * 64 + t)) k,
          and-true ((system_in ours).silent j),
        ))

  -- an open step leaves and enters states below 64
  pub open-below : {b : Bool} → b ≡ is_open (system_in ours) test j → b ≡ true → ((system_in ours).from j < 64) × ((system_in ours).to j < 64)
  unfolding is_open open_by
  open-below e h =
      let p = true-T _ (sym e ∙ h) in
      let r : T (has_bit (related_to ours ((system_in ours).to j)) t) = search (and_l, and_r) in (
        ltb→lt ((system_in ours).from j) 64 (search and_l),
        elim (dec_lt ((system_in ours).to j) 64) [
          | yes l ↦ l
          | no l ↦ absurd (false-not-T _ (ap (λ (x : ℕ). has_bit x t) (related-past ours ((system_in ours).to j) (omega arith)) ∙ has-empty t) r)
        ],
      )
