-- For plain tables the path property in the user's words and the one over paths that name their steps are one.
-- The key idea: the steps of a path give its states, and a cut of the states is a cut of the steps, the first state standing apart. Assumes nothing.
use Prim.Native.Nat.{ℕ, ◌<◌}
use mathlib.Core.Path.{◌≡◌, refl, subst, sym, ap, ap₂, ◌∙◌}
use mathlib.Core.Logic.{◌↔◌, ◌≢◌}
use mathlib.Core.Bool.{Bool, ◌&&◌}
use mathlib.Core.List.{List, [], ◌∷◌, ◌++◌, map, tail, flatten, cons≢nil, nil≢cons, head-eq_of_cons-eq, tail-eq_of_cons-eq}
use native.Mathlib.Omega.{arith}
use lib.Dec.{T, eqb, eqb→eq}
use Rattle.lists.proofs.BelowLaws.{first-le, first-at}
use Rattle.lists.proofs.BoolLaws.{and_l, and_r, and_i, eq→eqb}
use Rattle.lists.proofs.JoinLaws.{all-each, map-append}
use Rattle.bisimulation.specs.PathMatching.{steps_along}
use Rattle.bisimulation.specs.PathProperty.{IsPath, last_state, SameBlocks, MatchingPath, PathsMatched, PathProperty}
use Rattle.bisimulation.specs.StepPaths.{StepPath, end_state, Cut, other_steps, state_blocks, SilentInside, Fits, StepPathsMatched, StepPathProperty}
use Rattle.bisimulation.specs.Systems.{System, Step, Terminal, View, flip, WellFormed, Plain}
use Rattle.bisimulation.specs.Triples.{step_of}
use Rattle.bisimulation.proofs.ClauseLaws.{flip-formed}

-- the step from s to u is one
pub step-of : (S : System) (s u : ℕ) → Step S s u → (step_of S s u < S.steps) × (S.from (step_of S s u) ≡ s) × (S.to (step_of S s u) ≡ u)
unfolding step_of
step-of S s u (j, l, e, f) =
    let g : ℕ → Bool = λ i. eqb (S.from i) s && eqb (S.to i) u in
    let b : T (g j) = and_i (eqb (S.from j) s) (eqb (S.to j) u) (eq→eqb _ _ e) (eq→eqb _ _ f) in
    let c = first-at S.steps g j l b in
    (omega (arith, first-le S.steps g j l b), eqb→eq _ _ (search and_l), eqb→eq _ _ (search and_r))

module _ (S : System) where
  -- a path's steps
  pub path-steps : (p : List ℕ) (s : ℕ) → IsPath S (s ∷ p) → StepPath S s (steps_along S s p) × (map S.to (steps_along S s p) ≡ p)
  unfolding steps_along
  path-steps [] s h = (tt, refl)
  path-steps (u ∷ p) s h =
      let i = path-steps p u h.2 in
      let j = step-of S s u h.1 in
      ((j.0, j.1, rw j.2 i.0), ap₂ ◌∷◌ j.2 i.1)

  pub steps-path : ((j : ℕ) → j < S.steps → S.to j < S.states) → (J : List ℕ) (s : ℕ) → s < S.states → StepPath S s J → IsPath S (s ∷ map S.to J)
  steps-path w [] s l p = l
  steps-path w (j ∷ J) s l p = (l, (j, p.0, p.1, refl), steps-path w J (S.to j) (w j p.0) p.2)

  pub last_end : (J : List ℕ) (s : ℕ) → last_state s (map S.to J) ≡ end_state S s J
  last_end [] s = refl
  last_end (j ∷ J) s = last_end J (S.to j)

module _ (f : ℕ → ℕ) where
  flatten-map : (Js : List (List ℕ)) → map f (flatten Js) ≡ flatten (map (map f) Js)
  unfolding flatten
  flatten-map [] = refl
  flatten-map (X ∷ Js) = map-append f X (flatten Js) ∙ ap (λ l. map f X ++ l) (flatten-map Js)

  pub map-flatten : (J : List ℕ) (Js : List (List ℕ)) → map f (J ++ flatten Js) ≡ map f J ++ flatten (map (map f) Js)
  unfolding flatten
  map-flatten J Js = map-append f J (flatten Js) ∙ ap (λ l. map f J ++ l) (flatten-map Js)

  -- a cut of the mapped list is a cut of the list
  split-map : (b L J : List ℕ) → b ++ L ≡ map f J → (J₀ J₁ : List ℕ) × (J₀ ++ J₁ ≡ J) × (map f J₀ ≡ b) × (map f J₁ ≡ L)
  split-map [] L J e = ([], J, refl, refl, sym e)
  split-map (x ∷ b) L [] e = absurd (cons≢nil e)
  split-map (x ∷ b) L (j ∷ J) e =
      let i = split-map b L J (tail-eq_of_cons-eq e) in
      (j ∷ i.0, i.1, ap (λ l. j ∷ l) i.2, ap₂ ◌∷◌ (sym (head-eq_of_cons-eq e)) i.3, i.4)

  split-flatten : (bs : List (List ℕ)) (J : List ℕ) → flatten bs ≡ map f J → (Js : List (List ℕ)) × (flatten Js ≡ J) × (map (map f) Js ≡ bs)
  unfolding flatten
  split-flatten [] [] e = ([], refl, refl)
  split-flatten [] (j ∷ J) e = absurd (nil≢cons e)
  split-flatten (b ∷ bs) J e =
      let h = split-map b (flatten bs) J e in
      let i = split-flatten bs h.1 (sym h.4) in
      (h.0 ∷ i.0, ap (λ l. h.0 ++ l) i.1 ∙ h.2, ap₂ ◌∷◌ h.3 i.2)

  -- the first block has s in front
  pub cuts : (s : ℕ) (b : List ℕ) (bs : List (List ℕ)) (J : List ℕ) → b ≢ [] → b ++ flatten bs ≡ s ∷ map f J
      → (J₀ : List ℕ) × (Js : List (List ℕ)) × (J₀ ++ flatten Js ≡ J) × (s ∷ map f J₀ ≡ b) × (map (map f) Js ≡ bs)
  unfolding flatten
  cuts s [] bs J ne e = absurd (ne refl)
  cuts s (x ∷ b) bs J ne e =
      let h = split-map b (flatten bs) J (tail-eq_of_cons-eq e) in
      let i = split-flatten bs h.1 (sym h.4) in
      (h.0, i.0, ap (λ l. h.0 ++ l) i.1 ∙ h.2, ap₂ ◌∷◌ (sym (head-eq_of_cons-eq e)) h.3, i.2)

module _ (v : View) (w : WellFormed v) where
  open v use {own, other, related}

  -- the states of a cut that names its steps are a cut of the states
  unfoldable pub cut-matching : {s t : ℕ} {x : Cut} → T (related s t) → (p : List ℕ) → IsPath own (s ∷ p) → Fits v s (steps_along own s p) t x
      → MatchingPath v s p t
  unfolding flatten
  cut-matching {s} {t} {x} h p a f =
      let i = path-steps own p s a in
      record {
        q = map other.to (other_steps x);
        path = steps-path other w.there.to< (other_steps x) t (w.there.related< t s h) f.path;
        blocks = state_blocks own s x.first x.later;
        blocks' = state_blocks other t x.first' x.later';
        cut = ap (λ l. s ∷ l) (sym (map-flatten own.to x.first x.later) ∙ ap (map own.to) f.cut ∙ i.1);
        cut' = ap (λ l. t ∷ l) (sym (map-flatten other.to x.first' x.later'));
        same = f.same;
        terminal = λ d.
            rw (last_end other (other_steps x) t) (f.terminal (subst (Terminal own) (ap (last_state s) (sym i.1) ∙ last_end own (steps_along own s p) s) d));
      }

  pub forget-steps : StepPathsMatched v → PathsMatched v
  forget-steps F s t h p a = cut-matching h p a (F s t h (steps_along own s p) (path-steps own p s a).0).1

  module _ (plain : Plain v) where
    silent-inside : (S : System) → ((j : ℕ) → T (S.silent j)) → (first : List ℕ) (later : List (List ℕ)) → SilentInside S first later
    silent-inside S f first later = record { in-first = all-each _ f first; in-later = all-each _ (λ b. all-each _ f (tail b)) later }

    -- the steps of a cut of the states, where no key is asked of them
    name-steps : (s : ℕ) (J : List ℕ) (t : ℕ) (K : List ℕ) (bs cs : List (List ℕ)) → flatten bs ≡ s ∷ map own.to J
        → flatten cs ≡ t ∷ map other.to K → SameBlocks v bs cs
        → StepPath other t K → (Terminal own (end_state own s J) → Terminal other (end_state other t K)) → (x : Cut) × Fits v s J t x
    unfolding flatten
    name-steps s J t K [] cs e f b p d = absurd (nil≢cons e)
    name-steps s J t K (x ∷ bs) [] e f b p d = absurd (nil≢cons f)
    name-steps s J t K (x ∷ bs) (y ∷ cs) e f b p d =
        let g = cuts own.to s x bs J b.none-empty.0 e in
        let h = cuts other.to t y cs K b.none-empty'.0 f in (
          record { first = g.0; later = g.1; first' = h.0; later' = h.1 },
          record {
            cut = g.2;
            path = rw h.2 p;
            same = rw (g.3, g.4, h.3, h.4) b;
            silent = silent-inside own plain.silent g.0 g.1;
            silent' = silent-inside other plain.silent' h.0 h.1;
            entered = λ i l. plain.serves _ _;
            terminal = rw h.2 d;
          },
        )

    pub find-steps : PathsMatched v → StepPathsMatched v
    find-steps F s t h J p =
        let r = F s t h (map own.to J) (steps-path own w.here.to< J s (w.here.related< s t h) p) in
        let i = path-steps other r.q t r.path in
        let K = steps_along other t r.q in
        name-steps s J t K r.blocks r.blocks' r.cut (rw i.1 r.cut') r.same i.0
        (λ d. subst (Terminal other) (ap (last_state t) (sym i.1) ∙ last_end other K t) (r.terminal (rw (last_end own J s) d)))

pub flip-plain : (v : View) → Plain v → Plain (flip v)
flip-plain v k = record { silent = k.silent'; silent' = k.silent; serves = λ j i. k.serves i j }

-- for plain tables the two properties are one
pub plain-iff-steps : (v : View) → WellFormed v → Plain v → PathProperty v ↔ StepPathProperty v
plain-iff-steps v w k = (
  λ p. record {
    starts = p.starts;
    labels = p.labels;
    own-paths = find-steps v w k p.own-paths;
    other-paths = find-steps (flip v) (flip-formed v w) (flip-plain v k) p.other-paths;
  },
  λ p. record {
    starts = p.starts;
    labels = p.labels;
    own-paths = forget-steps v w p.own-paths;
    other-paths = forget-steps (flip v) (flip-formed v w) p.other-paths;
  },
)
