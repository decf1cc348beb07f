-- Laws for a loop that follows a path l: where it stands, and how it goes on, one move at a time.
-- The key idea: what is still to come is what the path matcher gives from the place where the loop stands, with the moves that are left, and these are
-- enough: the matcher needs a move for each step to go and one for each fall of a rank. Assumes nothing.
use Prim.Native.Nat.{ℕ, zero, suc, ◌+◌, ◌≤◌, ◌<◌, zero-le}
use mathlib.Core.Path.{◌≡◌, refl, subst, ap, ap₂, ◌∙◌}
use mathlib.Core.Logic.{◌⊎◌, ⊎_elim}
use mathlib.Core.Bool.{◌&&◌, not}
use mathlib.Core.List.{List, [], ◌∷◌, ◌++◌, map, nil≢cons, head-eq_of_cons-eq, tail-eq_of_cons-eq}
use native.Mathlib.Nat.{not-suc-le-zero, le_of_suc-le-suc}
use native.Mathlib.Numerals.{add-one}
use native.Mathlib.Omega.{arith}
use lib.Dec.{T, T_not, not_T, eqb, eqb→eq}
use lib.ListN.{length, get_or, take, drop, length-drop, drop_of_length-le}
use lib.Seq.{drop-cons}
use Rattle.lists.proofs.BoolLaws.{and_l, and_r, and_i, cond-true, cond-false}
use Rattle.bisimulation.specs.Clauses.{Meets, EveryObligation}
use Rattle.bisimulation.specs.Judge.{meets2a, meets2c, is2a, is2b, is2c}
use Rattle.bisimulation.specs.Matcher.{smallest_entered, smallest_step, moves, enter, grow, push, match_steps, moves_needed, match_path}
use Rattle.bisimulation.specs.PathMatching.{steps_along, Entry, numbered_from, followed, given_entries, matching_entries}
use Rattle.bisimulation.specs.PathProperty.{IsPath}
use Rattle.bisimulation.specs.StepPaths.{Cut}
use Rattle.bisimulation.specs.Systems.{System, View, flip, Ranks, WellFormed}
use Rattle.bisimulation.specs.Triples.{step_of}
use Rattle.bisimulation.proofs.ClauseLaws.{pick-passes, picked-2a, picked-2c, is2b-e}
use Rattle.bisimulation.proofs.PathMatchingLaws.{Matched, followed-matches, path-e}
use Rattle.bisimulation.proofs.PlainPaths.{step-of}
use Rattle.bisimulation.proofs.RankLaws.{lower, lower-falls, lower-bound}
use Rattle.bisimulation.proofs.Sound.{still-terminal, terminal-2b}

-- ---- places of a list

-- The entry e stands at the place m of the list: with it the first m are one more.
pub record At (l : List Entry) (m : ℕ) (e : Entry) : Type 0 where
  pub below : m < length l
  pub more : take (m + 1) l ≡ take m l ++ (e ∷ [])

next-at : (l : List Entry) (m : ℕ) (e : Entry) (z : List Entry) → drop m l ≡ e ∷ z → At l m e × (drop (m + 1) l ≡ z)
next-at l m e z h = let q = go l m h in (record { below = q.0; more = rw add-one q.1 }, rw add-one q.2)
  where
    go : (l : List Entry) (m : ℕ) → drop m l ≡ e ∷ z → (m < length l) × (take (suc m) l ≡ take m l ++ (e ∷ [])) × (drop (suc m) l ≡ z)
    go [] zero h = absurd (nil≢cons h)
    go [] (suc m) h = absurd (nil≢cons h)
    go (x ∷ l) zero h = (omega arith, ap (λ y. y ∷ []) (head-eq_of_cons-eq h), tail-eq_of_cons-eq h)
    go (x ∷ l) (suc m) h = let q = go l m h in (omega (arith, q.0), ap (λ k. x ∷ k) q.1, q.2)

-- nothing stands past the last place
drop_all : {A : Type 0} (l : List A) (m : ℕ) → m ≤ length l → drop m l ≡ [] → m ≡ length l
drop_all l m h e = omega (arith, length-drop m l, ap length e)

-- ---- where the loop stands

module _ (v : View) (r : Ranks) (l : List ℕ) (t₀ : ℕ) where
  -- The entries of the path l, and those of the path that matches it from t₀.
  abbrev pub given_along : List Entry
  given_along = given_entries v r (get_or l 0 0) (drop 1 l) t₀

  abbrev pub matching_along : List Entry
  matching_along = matching_entries v r (get_or l 0 0) (drop 1 l) t₀

-- The steps from the place i on.
abbrev steps_at : System → List ℕ → ℕ → List ℕ
steps_at S l i = steps_along S (get_or l i 0) (drop (i + 1) l)

module _ (v : View) where
  -- The entries that a cut adds, given and matching, where the states before it stand in the block n.
  abbrev given_after : ℕ → Cut → List Entry
  given_after n x = numbered_from n (map v.own.to x.first ∷ map (map v.own.to) x.later)

  abbrev matching_after : ℕ → Cut → List Entry
  matching_after n x = numbered_from n (map v.other.to x.first' ∷ map (map v.other.to) x.later')

  -- More moves than these are enough from s and t, with the steps J to go; r' are the other side's ranks.
  abbrev needed : (r r' : Ranks) → ℕ → List ℕ → ℕ → ℕ
  needed r r' s [] t = lower v.other.states (λ y. r'.stutter y s) (r'.stutter t s)
  needed r r' s (j ∷ J) t = lower v.other.states (r.match j) (r.match j t) + moves_needed v.other.states J

-- The loop stands at the place i of l and at t, in the block n, and m of the matching entries are written.
pub record Standing (v : View) (r : Ranks) (l : List ℕ) (t₀ i n t m : ℕ) : Type 0 where
  pub inside : i < length l
  pub related : T (v.related (get_or l i 0) t)
  -- block numbers are no greater than places
  pub low : n ≤ i
  -- so many are written
  pub room : m ≤ length (matching_along v r l t₀)
  pub given-room : i + 1 ≤ length (given_along v r l t₀)
  -- the other side's obligations are met, with whatever ranks
  ranks' : Ranks
  met' : EveryObligation Meets (flip v) ranks'
  -- the matcher has one move more than these left, which is enough, and what it gives is to come
  left : ℕ
  enough : needed v r ranks' (get_or l i 0) (steps_at v.own l i) t ≤ left
  given : drop (i + 1) (given_along v r l t₀) ≡ given_after v n (match_steps v r (suc left) (get_or l i 0) (steps_at v.own l i) t)
  matching : drop m (matching_along v r l t₀) ≡ matching_after v n (match_steps v r (suc left) (get_or l i 0) (steps_at v.own l i) t)

module _ (v : View) (r : Ranks) (w : WellFormed v) (l : List ℕ) (a : IsPath v.own l) (t₀ : ℕ) where
  open v use {own, other, related}

  abbrev G : List Entry
  G = given_along v r l t₀

  abbrev W : List Entry
  W = matching_along v r l t₀

  -- The step from the place i.
  abbrev step_at : ℕ → ℕ
  step_at i = step_of own (get_or l i 0) (get_or l (i + 1) 0)

  -- as many moves as the matcher begins with are enough from every related pair
  needed-few : (r' : Ranks) (s : ℕ) (J : List ℕ) (t : ℕ) → T (related s t) → needed v r r' s J t < moves_needed other.states J
  needed-few r' s [] t h = omega (arith, lower-bound other.states (λ y. r'.stutter y s) t (w.there.related< t s h))
  needed-few r' s (j ∷ J) t h = omega (arith, lower-bound other.states (r.match j) t (w.there.related< t s h))

  standing-i : (r' : Ranks) → EveryObligation Meets (flip v) r' → (N : ℕ) {J : List ℕ} {i n t m : ℕ}
      → i < length l → T (related (get_or l i 0) t) → n ≤ i → m ≤ length W → i + 1 ≤ length G
      → steps_at own l i ≡ J → needed v r r' (get_or l i 0) J t < N
      → drop (i + 1) G ≡ given_after v n (match_steps v r N (get_or l i 0) J t)
      → drop m W ≡ matching_after v n (match_steps v r N (get_or l i 0) J t)
      → Standing v r l t₀ i n t m
  standing-i r' D' zero b h k q p e c x y = absurd (not-suc-le-zero c)
  standing-i r' D' (suc N) b h k q p e c x y =
      record {
        inside = b;
        related = h;
        low = k;
        room = q;
        given-room = p;
        ranks' = r';
        met' = D';
        left = N;
        enough = rw e (le_of_suc-le-suc c);
        given = rw e x;
        matching = rw e y;
      }

  -- at the start one entry of each is written, in the block 0
  pub standing-start : (r' : Ranks) → EveryObligation Meets (flip v) r' → T (related (get_or l 0 0) t₀)
      → Standing v r l t₀ 0 0 t₀ 1 × At G 0 (record { state = get_or l 0 0; block = 0 }) × At W 0 (record { state = t₀; block = 0 })
  unfolding given_entries matching_entries numbered_from followed match_path
  standing-start r' D' h = (
    standing-i r' D' (moves_needed other.states (steps_at own l 0)) (path-e own l a).0 h zero-le (omega arith) (omega arith) refl
        (needed-few r' (get_or l 0 0) (steps_at own l 0) t₀ h) refl refl,
    record { below = omega arith; more = refl },
    record { below = omega arith; more = refl },
  )

  -- the whole path is matched
  pub path-matched : (r' : Ranks) → EveryObligation Meets v r → EveryObligation Meets (flip v) r'
      → T (related (get_or l 0 0) t₀) → Matched v r (get_or l 0 0) (drop 1 l) t₀
  path-matched r' D D' h = followed-matches v r r' w D D' (get_or l 0 0) (drop 1 l) t₀ h (whole l a)
    where
      whole : (l : List ℕ) → IsPath own l → IsPath own (get_or l 0 0 ∷ drop 1 l)
      whole [] a = absurd a
      whole (s ∷ p) a = a

  module _ {i n t m : ℕ} (g : Standing v r l t₀ i n t m) where
    -- what is to come, where the matcher's move is known
    moved : {J : List ℕ} {y : Cut} → steps_at own l i ≡ J → match_steps v r (suc g.left) (get_or l i 0) J t ≡ y
        → (drop (i + 1) G ≡ given_after v n y) × (drop m W ≡ matching_after v n y)
    moved q e =
        let c = ap (λ J. match_steps v r (suc g.left) (get_or l i 0) J t) q ∙ e in
        (g.given ∙ ap (given_after v n) c, g.matching ∙ ap (matching_after v n) c)

    module _ (b : i + 1 < length l) where
      -- the next step is one
      pub standing-step : (step_at i < own.steps) × (own.from (step_at i) ≡ get_or l i 0) × (own.to (step_at i) ≡ get_or l (i + 1) 0)
      standing-step = step-of own (get_or l i 0) (get_or l (i + 1) 0) ((path-e own l a).2 i b)

      next-step : steps_at own l i ≡ step_at i ∷ steps_at own l (i + 1)
      unfolding steps_along
      next-step = rw (drop-cons l (i + 1) 0 b, add-one (i + 1))

      enough-next : lower other.states (r.match (step_at i)) (r.match (step_at i) t) + moves_needed other.states (steps_at own l (i + 1)) ≤ g.left
      enough-next = rw next-step at g.enough

      -- by 2a both sides go on, into a new block
      pub standing-2a : T (is2a v (step_at i) t)
          → let x = smallest_entered other (meets2a v (step_at i) t) in
          Standing v r l t₀ (i + 1) (n + 1) x (m + 1) × At G (i + 1) (record { state = get_or l (i + 1) 0; block = n + 1 })
          × At W m (record { state = x; block = n + 1 })
      unfolding match_steps numbered_from
      standing-2a c =
          let j = step_at i in
          let k = smallest_step other (meets2a v j t) in
          let u = standing-step.2 in
          let x = (pick-passes other (meets2a v j t) (unfold is2a in c)).2 in
          let h = subst T (ap₂ related u x) (picked-2a v j t c).3 in
          let e = moved next-step (cond-true (is2a v j t) _ _ c ∙ ap₂ (λ u x. enter j k (match_steps v r g.left u (steps_at own l (i + 1)) x)) u x) in
          let y = next-at G (i + 1) _ _ e.0 in
          let z = next-at W m _ _ e.1 in
          rw (add-one n) (
            standing-i g.ranks' g.met' g.left b h (omega (arith, g.low)) (omega (arith, z.0.below)) (omega (arith, y.0.below)) refl
                (omega (arith, needed-few g.ranks' (get_or l (i + 1) 0) (steps_at own l (i + 1)) _ h, enough-next)) y.1 z.1,
            rw u at y.0,
            rw x at z.0,
          )

      module _ (na : ¬ T (is2a v (step_at i) t)) where
        -- by 2b the given side goes on inside the block
        pub standing-2b : T (is2b v r (step_at i) t)
            → Standing v r l t₀ (i + 1) n t m × At G (i + 1) (record { state = get_or l (i + 1) 0; block = n })
        unfolding match_steps numbered_from
        standing-2b c =
            let j = step_at i in
            let u = standing-step.2 in
            let h = subst (λ x. T (related x t)) u (is2b-e v r j t c).0.1 in
            let e = moved next-step (cond-false (is2a v j t) _ _ na ∙ cond-true (is2b v r j t) _ _ c
            ∙ ap (λ x. grow j (match_steps v r g.left x (steps_at own l (i + 1)) t)) u) in
            let y = next-at G (i + 1) _ _ e.0 in (
              standing-i g.ranks' g.met' g.left b h (omega (arith, g.low)) g.room (omega (arith, y.0.below)) refl
                  (omega (arith, needed-few g.ranks' (get_or l (i + 1) 0) (steps_at own l (i + 1)) _ h, enough-next)) y.1 e.1,
              rw u at y.0,
            )

        -- by 2c the matching side does, and the match rank falls
        pub standing-2c : (¬ T (is2b v r (step_at i) t)) → T (is2c v r (step_at i) t)
            → let x = smallest_entered other (meets2c v r (step_at i) t) in Standing v r l t₀ i n x (m + 1) × At W m (record { state = x; block = n })
        unfolding match_steps numbered_from
        standing-2c nb c =
            let j = step_at i in
            let k = smallest_step other (meets2c v r j t) in
            let x = (pick-passes other (meets2c v r j t) (unfold is2c in c)).2 in
            let q = picked-2c v r j t c in
            let h = subst T (ap₂ related standing-step.1 x) q.3 in
            let d = rw x at (lower-falls other.states (r.match j) (r.match j t) (other.to k) (w.there.to< k q.0) q.4) in
            let e = moved next-step (cond-false (is2a v j t) _ _ na ∙ cond-false (is2b v r j t) _ _ nb ∙ cond-true (is2c v r j t) _ _ c
            ∙ ap (λ y. push k (match_steps v r g.left (get_or l i 0) (j ∷ steps_at own l (i + 1)) y)) x) in
            let z = next-at W m _ _ e.1 in (
              standing-i g.ranks' g.met' g.left g.inside h g.low (omega (arith, z.0.below)) g.given-room next-step
                  (omega (arith, d, enough-next)) e.0 z.1,
              rw x at z.0,
            )

    -- at the last place
    module _ (b : length l ≤ i + 1) where
      ended : steps_at own l i ≡ []
      unfolding steps_along
      ended = rw (drop_of_length-le l b)

      -- from a terminal state the matching side goes on, and its stutter rank falls
      pub standing_on : (¬ T (moves own (get_or l i 0))) → T (moves other t)
          → let x = smallest_entered other (λ k. eqb (other.from k) t) in Standing v r l t₀ i n x (m + 1) × At W m (record { state = x; block = n })
      unfolding match_steps numbered_from
      standing_on f c =
          let s = get_or l i 0 in
          let q = pick-passes other (λ k. eqb (other.from k) t) (unfold moves in c) in
          let k = smallest_step other (λ k. eqb (other.from k) t) in
          let p = terminal-2b v g.ranks' g.met' s t g.related (still-terminal own s f) k q.0 (eqb→eq _ _ q.1) in
          let h = subst (λ y. T (related s y)) q.2 p.1 in
          let A : ℕ → ℕ = λ y. g.ranks'.stutter y s in
          let d = rw q.2 at (lower-falls other.states A (A t) (other.to k) (w.there.to< k q.0) p.2) in
          let e = moved ended (cond-true (not (moves own s) && moves other t) _ _ (and_i (not (moves own s)) (moves other t) (not_T (moves own s) f) c)
          ∙ ap (λ y. push k (match_steps v r g.left s [] y)) q.2) in
          let z = next-at W m _ _ e.1 in (
            standing-i g.ranks' g.met' g.left g.inside h g.low (omega (arith, z.0.below)) g.given-room ended
                (omega (arith, d, rw ended at g.enough)) e.0 z.1,
            rw q.2 at z.0,
          )

      -- elsewhere all is written
      pub standing-stop : T (moves own (get_or l i 0)) ⊎ (¬ T (moves other t)) → (m ≡ length W) × (i + 1 ≡ length G)
      unfolding match_steps numbered_from
      standing-stop c =
          let s = get_or l i 0 in
          let e = moved ended (cond-false (not (moves own s) && moves other t) _ _
          (λ z. ⊎_elim (T_not (moves own s) (and_l (not (moves own s)) (moves other t) z)) (λ y. y (and_r (not (moves own s)) (moves other t) z)) c)) in
          (drop_all W m g.room e.1, drop_all G (i + 1) g.given-room e.0)
