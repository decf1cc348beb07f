-- Completeness: where the path property holds, the maker succeeds.
-- The key idea: where a path of the own side is matched, either all of it lies in the first block, or its first later block shows a run that
-- matches the step which enters it. A path of one step that nothing matches lies in one block, so 22 finds nothing; a chain of unmatched
-- steps lies in one block, so it is shorter than the number of states, and 23 finds nothing. Stated for one side. Assumes nothing.
use Prim.Native.Nat.{ℕ, ◌≤◌, ◌<◌}
use mathlib.Core.Path.{◌≡◌, refl, subst, sym}
use mathlib.Core.Logic.{◌⊎◌, inl, inr, ⊎_elim}
use mathlib.Core.List.{List, [], ◌∷◌, ◌++◌, map, append-nil, flatten}
use native.Mathlib.Omega.{arith}
use native.Mathlib.Decide.{dec_lt}
use lib.Dec.{T, lt→ltb}
use lib.ListN.{length}
use Rattle.lists.specs.Lists.{All}
use Rattle.lists.proofs.BelowLaws.{any-i}
use Rattle.lists.proofs.BoolLaws.{and_i, or_l, or_r}
use Rattle.bisimulation.specs.Maker.{matched, chain_length, none_unmatched, none_endless, succeeds}
use Rattle.bisimulation.specs.Runs.{Matched}
use Rattle.bisimulation.specs.StepPaths.{StepPath, end_state, Cut, Fits, StepPathsMatched, StepPathProperty}
use Rattle.bisimulation.specs.Systems.{View, flip, WellFormed}
use Rattle.bisimulation.proofs.BlockLaws.{AllRelated, First, Later, fits-fitted}
use Rattle.bisimulation.proofs.ClauseLaws.{flip-formed, pairs-i, initial-i, steps-i, labels-i}
use Rattle.bisimulation.proofs.RunLaws.{run-matches, matched-iff, chain-some}

module _ (v : View) where
  open v use {own, other, related, serves}

  mid_step : (s : ℕ) (J : List ℕ) (j : ℕ) (L : List ℕ) → StepPath own s (J ++ (j ∷ L)) → own.from j ≡ end_state own s J
  mid_step s [] j L p = p.1
  mid_step s (i ∷ J) j L p = mid_step (own.to i) J j L p.2

  mid-all : (P : ℕ → Type 0) (J : List ℕ) (j : ℕ) (L : List ℕ) → All P (J ++ (j ∷ L)) → P j
  mid-all P [] j L p = p.0
  mid-all P (i ∷ J) j L p = mid-all P J j L p.1

  last-all : (P : ℕ → Type 0) (s : ℕ) (J : List ℕ) → All P (s ∷ map own.to J) → P (end_state own s J)
  last-all P s [] p = p.0
  last-all P s (i ∷ J) p = last-all P (own.to i) J p.1

  firsts : (t : ℕ) (ys J : List ℕ) → All (λ j. T (own.silent j)) J → AllRelated v (map own.to J) (t ∷ ys)
      → All (λ j. T (own.silent j) × T (related (own.to j) t)) J
  firsts t ys [] q a = tt
  firsts t ys (i ∷ J) q a = ((q.0, a.0.0), firsts t ys J q.1 a.1)

  -- steps that have an serve are one block, or one of them is matched
  abbrev pub Crossed : (ℕ → Type 0) → ℕ → List ℕ → Type 0
  Crossed P t J = ((length J < own.states) × All (λ j. T (own.silent j) × T (related (own.to j) t)) J) ⊎ ((j : ℕ) × P j × T (matched v j t))

  cut-cross : (P : ℕ → Type 0) (s t : ℕ) (J : List ℕ) (Js : List (List ℕ)) (K : List ℕ) (Ks : List (List ℕ))
      → StepPath own s (J ++ flatten Js) → All P (J ++ flatten Js)
      → StepPath other t (K ++ flatten Ks) → First v s J t K → Later v Js Ks → Crossed P t (J ++ flatten Js)
  unfolding matched flatten
  cut-cross P s t J [] K [] p a q f l = rw append-nil (inl (f.small, firsts t (map other.to K) J f.inside f.all-related.1))
  cut-cross P s t J [] K (Y ∷ Ys) p a q f l = absurd l
  cut-cross P s t J (X ∷ Xs) K [] p a q f l = absurd l
  cut-cross P s t J ([] ∷ Xs) K (Y ∷ Ys) p a q f l = absurd l
  cut-cross P s t J ((j ∷ X) ∷ Xs) K ([] ∷ Ys) p a q f l = absurd l
  cut-cross P s t J ((j ∷ X) ∷ Xs) K ((k ∷ Y) ∷ Ys) p a q f l =
      inr (
        j,
        mid-all P J j _ a,
        any-i _ _ (length K) f.small'
            (run-matches v j t K k _ q f.inside'
            (let P : ℕ → Type 0 = λ x. All (λ y. T (related x y)) (t ∷ map other.to K) in
            subst P (sym (mid_step s J j _ p)) (last-all P s J f.all-related))
            l.0 l.1.all-related.0.0),
      )

  pub cross : (P : ℕ → Type 0) (s t : ℕ) (J : List ℕ) → StepPath own s J → All P J → (x : Cut) × Fits v s J t x → Crossed P t J
  cross P s t J p a (x, f) =
      let g = fits-fitted v s J t x f in
      subst (Crossed P t) g.cut
      (cut-cross P s t x.first x.later x.first' x.later'
      (subst (StepPath own s) (sym g.cut) p) (subst (All P) (sym g.cut) a) g.path g.firsts g.laters)

  module _ (paths : StepPathsMatched v) where
    pub matched-none-unmatched : T (none_unmatched v)
    unfolding none_unmatched
    matched-none-unmatched =
        pairs-i v _ λ s t r. steps-i v s _ λ j l e.
        ⊎_elim (λ a. let b = a.1.0 in or_r (matched v j t) _ (search and_i))
        (λ a. or_l (matched v j t) _ (rw a.1 at a.2))
        (cross (λ i. i ≡ j) s t (j ∷ []) (l, e, tt) (refl, tt) (paths s t r (j ∷ []) (l, e, tt)))

    no-chain : WellFormed v → (s t : ℕ) → T (related s t) → own.states ≤ chain_length v t own.states s → ⊥
    no-chain w s t r h =
        let c = chain-some v w t own.states s r in
        ⊎_elim (λ a. omega (arith, c.2)) (λ a. a.1 ((matched-iff v w a.0 t).0 a.2))
        (cross (λ j. ¬ Matched v j t) s t c.0 c.1.path c.1.unmatched (paths s t r c.0 c.1.path))

    pub matched-none-endless : WellFormed v → T (none_endless v)
    unfolding none_endless
    matched-none-endless w = pairs-i v _ λ s t r. elim (dec_lt (chain_length v t own.states s) own.states) [
      | yes h ↦ lt→ltb _ _ h
      | no h ↦ absurd (no-chain w s t r (omega arith))
    ]

pub complete : (v : View) → WellFormed v → StepPathProperty v → T (succeeds v)
unfolding succeeds
complete v w p =
    let a = initial-i v w p.starts.0 in
    let b = initial-i (flip v) (flip-formed v w) p.starts.1 in
    let c = labels-i v p.labels in
    let d = matched-none-unmatched v p.own-paths in
    let e = matched-none-unmatched (flip v) p.other-paths in
    let f = matched-none-endless v p.own-paths w in
    let g = matched-none-endless (flip v) p.other-paths (flip-formed v w) in
    search and_i
