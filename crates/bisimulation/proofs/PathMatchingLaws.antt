-- Laws of a path followed on the other system: its entries are a matching path of the path property, cut into blocks that are numbered from 0.
-- The key idea: the path matcher's cut fits, so its blocks are few and small, and with them the entries and their numbers. Assumes nothing.
use Prim.Native.Nat.{ℕ, zero, suc, ◌+◌, ◌*◌, ◌≤◌, ◌<◌, zero-le}
use mathlib.Core.Path.{◌≡◌, refl, sym, ap, ap₂, ◌∙◌}
use mathlib.Core.Logic.{◌≢◌}
use mathlib.Core.Bool.{◌&&◌, not, cond}
use mathlib.Core.List.{List, [], ◌∷◌, ◌++◌, map, flatten}
use native.Mathlib.Nat.{not-suc-le-zero, le_of_suc-le-suc, suc-mul, mul-le-mul_right}
use native.Mathlib.Numerals.{add-one}
use native.Mathlib.Omega.{arith}
use lib.Dec.{T, eqb}
use lib.ListN.{length, get_or, length-append, length-map}
use Rattle.lists.specs.Lists.{All}
use Rattle.lists.proofs.JoinLaws.{all_append, all_map, all-each, map-append}
use Rattle.bisimulation.specs.Clauses.{Meets, EveryObligation}
use Rattle.bisimulation.specs.Judge.{meets2a, meets2c, is2a, is2b, is2c}
use Rattle.bisimulation.specs.Matcher.{smallest_step, moves, nothing, enter, grow, push, choose, match_steps, match_path}
use Rattle.bisimulation.specs.PathMatching.{
  steps_along,
  Entry,
  in_block,
  numbered_from,
  followed,
  given_blocks,
  matching_blocks,
  given_entries,
  matching_entries,
}
use Rattle.bisimulation.specs.PathProperty.{IsPath, MatchingPath}
use Rattle.bisimulation.specs.StepPaths.{Cut}
use Rattle.bisimulation.specs.Systems.{System, Step, View, flip, Ranks, WellFormed}
use Rattle.bisimulation.proofs.PlainPaths.{path-steps, cut-matching}
use Rattle.bisimulation.proofs.Sound.{matcher-fits}

-- A matching path whose blocks are those of the path that is followed.
pub record Matched (v : View) (r : Ranks) (s : ℕ) (p : List ℕ) (t : ℕ) : Type 0 where
  pub matching : MatchingPath v s p t
  pub blocks-are : matching.blocks ≡ given_blocks v r s p t
  pub blocks-are' : matching.blocks' ≡ matching_blocks v r s p t

-- every path from one of two related states is followed by a matching path
pub followed-matches : (v : View) (r r' : Ranks) → WellFormed v → EveryObligation Meets v r → EveryObligation Meets (flip v) r'
    → (s : ℕ) (p : List ℕ) (t : ℕ) → T (v.related s t) → IsPath v.own (s ∷ p) → Matched v r s p t
unfolding followed cut-matching
followed-matches v r r' w D D' s p t h a =
    record {
      matching = cut-matching v w h p a (matcher-fits v r r' w D D' s t h (steps_along v.own s p) (path-steps v.own p s a).0);
      blocks-are = refl;
      blocks-are' = refl;
    }

-- ---- blocks and their numbers

-- without the numbers, the blocks one after the other
numbered-states : (n : ℕ) (bs : List (List ℕ)) → map (λ e. e.state) (numbered_from n bs) ≡ flatten bs
unfolding numbered_from flatten
numbered-states n [] = refl
numbered-states n (b ∷ bs) = map-append (λ (e : Entry). e.state) (in_block n b) _ ∙ ap₂ ◌++◌ (states n b) (numbered-states _ bs)
  where
    states : (n : ℕ) (b : List ℕ) → map (λ e. e.state) (in_block n b) ≡ b
    states n [] = refl
    states n (x ∷ b) = ap (λ l. x ∷ l) (states n b)

-- the numbers run from n on, one for each block
numbers-below : (n m : ℕ) (bs : List (List ℕ)) → n + length bs ≤ suc m → All (λ e. e.block ≤ m) (numbered_from n bs)
unfolding numbered_from
numbers-below n m [] h = tt
numbers-below n m (b ∷ bs) h =
    all_append _ (in_block n b) _ (all_map (λ (e : Entry). e.block ≤ m) _ b (all-each _ (λ x. omega arith) b)) (numbers-below _ m bs (omega arith))

-- as many blocks as states at most, and as many states as blocks times the size of each
blocks-few : (bs : List (List ℕ)) → All (λ b. b ≢ []) bs → length bs ≤ length (flatten bs)
unfolding flatten
blocks-few [] a = zero-le
blocks-few ([] ∷ bs) a = absurd (a.0 refl)
blocks-few ((x ∷ b) ∷ bs) a = omega (arith, blocks-few bs a.1, length-append b (flatten bs))

blocks-length : (m : ℕ) (bs : List (List ℕ)) → All (λ b. length b ≤ m) bs → length (flatten bs) ≤ length bs * m
unfolding flatten
blocks-length m [] a = zero-le
blocks-length m (b ∷ bs) a = rw (suc-mul, length-append) (omega (arith, blocks-length m bs a.1, a.0))

-- ---- the entries

module _ {v : View} {r : Ranks} {s : ℕ} {p : List ℕ} {t : ℕ} (m : Matched v r s p t) where
  -- the states are those of the two paths
  pub given-states : map (λ e. e.state) (given_entries v r s p t) ≡ s ∷ p
  unfolding given_entries
  given-states = rw (← m.blocks-are) (numbered-states 0 m.matching.blocks ∙ m.matching.cut)

  pub matching-states : map (λ e. e.state) (matching_entries v r s p t) ≡ t ∷ m.matching.q
  unfolding matching_entries
  matching-states = rw (← m.blocks-are') (numbered-states 0 m.matching.blocks' ∙ m.matching.cut')

  -- there are as many given ones as the path has states, and of the matching ones at most that many times the states of their system
  pub given-length : length (given_entries v r s p t) ≡ suc (length p)
  given-length = sym (length-map (given_entries v r s p t) (λ e. e.state)) ∙ ap length given-states

  few : length m.matching.blocks ≤ suc (length p)
  few = omega (arith, blocks-few m.matching.blocks m.matching.same.none-empty, ap length m.matching.cut)

  pub matching-most : length (matching_entries v r s p t) ≤ suc (length p) * v.other.states
  matching-most =
      let n = v.other.states in
      let k = length m.matching.blocks' in
      let b : k ≤ suc (length p) = omega (arith, few, m.matching.same.equally-many) in
      let c : k * n ≤ suc (length p) * n = mul-le-mul_right n b in
      let d = blocks-length n m.matching.blocks' m.matching.same.small' in
      omega (arith, length-map (matching_entries v r s p t) (λ e. e.state), ap length matching-states, ap length m.matching.cut')

  -- no number is greater than the last place of the given path
  pub given-numbers : All (λ e. e.block ≤ length p) (given_entries v r s p t)
  unfolding given_entries
  given-numbers = rw (← m.blocks-are) (numbers-below 0 (length p) m.matching.blocks (omega (arith, few)))

  pub matching-numbers : All (λ e. e.block ≤ length p) (matching_entries v r s p t)
  unfolding matching_entries
  matching-numbers = rw (← m.blocks-are') (numbers-below 0 (length p) m.matching.blocks' (omega (arith, few, m.matching.same.equally-many)))

-- ---- a path by its places

module _ (S : System) where
  -- a list is a path just where it is not empty, every place is a state, and every two neighbours are a step
  pub path-i : (l : List ℕ) → 0 < length l → ((i : ℕ) → i < length l → get_or l i 0 < S.states)
      → ((i : ℕ) → i + 1 < length l → Step S (get_or l i 0) (get_or l (i + 1) 0)) → IsPath S l
  path-i [] h f g = absurd (not-suc-le-zero h)
  path-i (s ∷ []) h f g = f 0 h
  path-i (s ∷ u ∷ p) h f g = (
    f 0 h,
    g 0 (omega arith),
    path-i (u ∷ p) (omega arith) (λ i b. f (suc i) (omega arith)) (λ i b. rw add-one (rw add-one at (g (suc i) (omega arith)))),
  )

  pub path-e : (l : List ℕ) → IsPath S l
      → (0 < length l) × ((i : ℕ) → i < length l → get_or l i 0 < S.states)
      × ((i : ℕ) → i + 1 < length l → Step S (get_or l i 0) (get_or l (i + 1) 0))
  path-e l a = (some l a, state l a, step l a)
    where
      some : (l : List ℕ) → IsPath S l → 0 < length l
      some [] a = absurd a
      some (s ∷ p) a = omega arith

      state : (l : List ℕ) → IsPath S l → (i : ℕ) → i < length l → get_or l i 0 < S.states
      state [] a i b = absurd a
      state (s ∷ []) a zero b = a
      state (s ∷ []) a (suc i) b = absurd (not-suc-le-zero (le_of_suc-le-suc b))
      state (s ∷ u ∷ p) a zero b = a.0
      state (s ∷ u ∷ p) a (suc i) b = state (u ∷ p) a.2 i (le_of_suc-le-suc b)

      step : (l : List ℕ) → IsPath S l → (i : ℕ) → i + 1 < length l → Step S (get_or l i 0) (get_or l (i + 1) 0)
      step [] a i b = absurd a
      step (s ∷ []) a i b = absurd (omega arith)
      step (s ∷ u ∷ p) a zero b = a.1
      step (s ∷ u ∷ p) a (suc i) b = rw add-one (rw add-one at (step (u ∷ p) a.2 i (omega arith)))

-- ---- the own ranks alone tell

-- Ranks with these of the own side.
abbrev ranks_with : (A C A' C' : ℕ → ℕ → ℕ) → Ranks
ranks_with A C A' C' = record { stutter = A; match = C; stutter' = A'; match' = C' }

module _ (v : View) (A C A' C' A'' C'' : ℕ → ℕ → ℕ) where
  same-steps : (N s : ℕ) (J : List ℕ) (t : ℕ) → match_steps v (ranks_with A C A' C') N s J t ≡ match_steps v (ranks_with A C A'' C'') N s J t
  unfolding match_steps is2b is2c
  same-steps zero s J t = refl
  same-steps (suc N) s [] t =
      let k = smallest_step v.other (λ i. eqb (v.other.from i) t) in
      ap (λ x. cond (not (moves v.own s) && moves v.other t) (push k x) nothing) (same-steps N s [] (v.other.to k))
  same-steps (suc N) s (j ∷ J) t =
      let q = ranks_with A C A' C' in
      let k = smallest_step v.other (meets2a v j t) in
      let e = smallest_step v.other (meets2c v q j t) in
      let pick : Cut → Cut → Cut → Cut = λ x y z. choose (is2a v j t) (is2b v q j t) (is2c v q j t) (enter j k x) (grow j y) (push e z) in
      ap₂ (λ x y. pick x y (match_steps v q N s (j ∷ J) (v.other.to e)))
      (same-steps N (v.own.to j) J (v.other.to k)) (same-steps N (v.own.to j) J t)
      ∙ ap (pick _ _) (same-steps N s (j ∷ J) (v.other.to e))

  -- the path that is followed depends on the own side's ranks alone
  pub same-followed : (s : ℕ) (p : List ℕ) (t : ℕ) → followed v (ranks_with A C A' C') s p t ≡ followed v (ranks_with A C A'' C'') s p t
  unfolding followed match_path
  same-followed s p t = same-steps _ s (steps_along v.own s p) t
