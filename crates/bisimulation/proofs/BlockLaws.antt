-- A cut block by block. `Fits` lists what is asked of all blocks together; `Fitted` asks the same of the first blocks and, by recursion, of
-- each pair of later blocks, so that proofs can build a cut and take it apart from the front. The two say the same. Assumes nothing.
use Prim.Native.Nat.{ℕ, zero, suc, ◌<◌, suc-le-suc, zero-le}
use mathlib.Core.Path.{◌≡◌, refl, ap}
use mathlib.Core.List.{List, [], ◌∷◌, map, tail, cons≢nil}
use native.Mathlib.Nat.{not-suc-le-zero, le_of_suc-le-suc}
use native.Mathlib.Omega.{arith}
use lib.Dec.{T}
use lib.ListN.{length, length-map}
use Rattle.lists.specs.Lists.{All}
use Rattle.bisimulation.specs.PathProperty.{block, SameBlocks}
use Rattle.bisimulation.specs.StepPaths.{StepPath, end_state, Cut, own_steps, other_steps, entering, Fits}
use Rattle.bisimulation.specs.Systems.{System, Terminal, View}

-- every state of the one list is related to every state of the other
abbrev pub AllRelated : View → List ℕ → List ℕ → Type 0
AllRelated v xs ys = All (λ x. All (λ y. T (v.related x y)) ys) xs

-- the first blocks: s and the states after it by the silent steps J, t and those after it by K
pub record First (v : View) (s : ℕ) (J : List ℕ) (t : ℕ) (K : List ℕ) : Type 0 where
  pub inside : All (λ j. T (v.own.silent j)) J
  pub inside' : All (λ k. T (v.other.silent k)) K
  pub small : length J < v.own.states
  pub small' : length K < v.other.states
  pub all-related : AllRelated v (s ∷ map v.own.to J) (t ∷ map v.other.to K)

-- later blocks: entered by j and by k, which serve each other, then silent steps
abbrev pub Later : View → List (List ℕ) → List (List ℕ) → Type 0
Later v [] [] = Unit {0}
Later v [] (Y ∷ Ys) = ⊥
Later v (X ∷ Xs) [] = ⊥
Later v ([] ∷ Xs) (Y ∷ Ys) = ⊥
Later v ((j ∷ J) ∷ Xs) ([] ∷ Ys) = ⊥
Later v ((j ∷ J) ∷ Xs) ((k ∷ K) ∷ Ys) = T (v.serves j k) × First v (v.own.to j) J (v.other.to k) K × Later v Xs Ys

pub record Fitted (v : View) (s : ℕ) (J : List ℕ) (t : ℕ) (x : Cut) : Type 0 where
  pub cut : own_steps x ≡ J
  pub path : StepPath v.other t (other_steps x)
  pub firsts : First v s x.first t x.first'
  pub laters : Later v x.later x.later'
  pub terminal : Terminal v.own (end_state v.own s J) → Terminal v.other (end_state v.other t (other_steps x))

module _ (v : View) where
  open v use {own, other, serves}

  blocks-none : SameBlocks v [] []
  blocks-none = record { equally-many = refl; none-empty = tt; none-empty' = tt; small = tt; small' = tt; related = λ i. tt }

  blocks-cons : (s : ℕ) (J : List ℕ) (t : ℕ) (K : List ℕ) (bs cs : List (List ℕ)) → First v s J t K → SameBlocks v bs cs
      → SameBlocks v ((s ∷ map own.to J) ∷ bs) ((t ∷ map other.to K) ∷ cs)
  blocks-cons s J t K bs cs f b =
      record {
        equally-many = ap suc b.equally-many;
        none-empty = (cons≢nil, b.none-empty);
        none-empty' = (cons≢nil, b.none-empty');
        small = (omega (arith, f.small, length-map J own.to), b.small);
        small' = (omega (arith, f.small', length-map K other.to), b.small');
        related = at;
      }
    where
      at : (i : ℕ) → AllRelated v (block ((s ∷ map own.to J) ∷ bs) i) (block ((t ∷ map other.to K) ∷ cs) i)
      at zero = f.all-related
      at (suc i) = b.related i

  blocks-tail : (b c : List ℕ) (bs cs : List (List ℕ)) → SameBlocks v (b ∷ bs) (c ∷ cs) → SameBlocks v bs cs
  blocks-tail b c bs cs h =
      record {
        equally-many = omega (arith, h.equally-many);
        none-empty = h.none-empty.1;
        none-empty' = h.none-empty'.1;
        small = h.small.1;
        small' = h.small'.1;
        related = λ i. h.related (suc i);
      }

  blocks-first : (s : ℕ) (J : List ℕ) (t : ℕ) (K : List ℕ) (bs cs : List (List ℕ)) → SameBlocks v ((s ∷ map own.to J) ∷ bs) ((t ∷ map other.to K) ∷ cs)
      → All (λ j. T (own.silent j)) J → All (λ k. T (other.silent k)) K → First v s J t K
  blocks-first s J t K bs cs h i i' =
      record {
        inside = i;
        inside' = i';
        small = omega (arith, h.small.0, length-map J own.to);
        small' = omega (arith, h.small'.0, length-map K other.to);
        all-related = h.related 0;
      }

  abbrev Silent : System → List (List ℕ) → Type 0
  Silent S bs = All (λ b. All (λ j. T (S.silent j)) (tail b)) bs

  abbrev Entered : List (List ℕ) → List (List ℕ) → Type 0
  Entered Js Ks = (i : ℕ) → i < length Js → T (serves (entering Js i) (entering Ks i))

  later-all : (Js Ks : List (List ℕ)) → Later v Js Ks
      → SameBlocks v (map (map own.to) Js) (map (map other.to) Ks) × Silent own Js × Silent other Ks × Entered Js Ks
  later-all [] [] l = (blocks-none, tt, tt, λ i b. absurd (not-suc-le-zero b))
  later-all [] (Y ∷ Ys) l = absurd l
  later-all (X ∷ Xs) [] l = absurd l
  later-all ([] ∷ Xs) (Y ∷ Ys) l = absurd l
  later-all ((j ∷ J) ∷ Xs) ([] ∷ Ys) l = absurd l
  later-all ((j ∷ J) ∷ Xs) ((k ∷ K) ∷ Ys) l =
      let r = later-all Xs Ys l.2 in
      (blocks-cons (own.to j) J (other.to k) K _ _ l.1 r.0, (l.1.inside, r.1), (l.1.inside', r.2), at r.3)
    where
      at : Entered Xs Ys → Entered ((j ∷ J) ∷ Xs) ((k ∷ K) ∷ Ys)
      at e zero b = l.0
      at e (suc i) b = e i (le_of_suc-le-suc b)

  all-later : (Js Ks : List (List ℕ)) → SameBlocks v (map (map own.to) Js) (map (map other.to) Ks)
      → Silent own Js → Silent other Ks → Entered Js Ks → Later v Js Ks
  all-later [] [] b i i' e = tt
  all-later [] (Y ∷ Ys) b i i' e = omega (arith, b.equally-many)
  all-later (X ∷ Xs) [] b i i' e = omega (arith, b.equally-many)
  all-later ([] ∷ Xs) (Y ∷ Ys) b i i' e = b.none-empty.0 refl
  all-later ((j ∷ J) ∷ Xs) ([] ∷ Ys) b i i' e = b.none-empty'.0 refl
  all-later ((j ∷ J) ∷ Xs) ((k ∷ K) ∷ Ys) b i i' e = (
    e 0 (suc-le-suc zero-le),
    blocks-first (own.to j) J (other.to k) K _ _ b i.0 i'.0,
    all-later Xs Ys (blocks-tail _ _ _ _ b) i.1 i'.1 (λ n l. e (suc n) (suc-le-suc l)),
  )

  pub fitted-fits : (s : ℕ) (J : List ℕ) (t : ℕ) (x : Cut) → Fitted v s J t x → Fits v s J t x
  fitted-fits s J t x f =
      let r = later-all x.later x.later' f.laters in
      record {
        cut = f.cut;
        path = f.path;
        same = blocks-cons s x.first t x.first' _ _ f.firsts r.0;
        silent = record { in-first = f.firsts.inside; in-later = r.1 };
        silent' = record { in-first = f.firsts.inside'; in-later = r.2 };
        entered = r.3;
        terminal = f.terminal;
      }

  pub fits-fitted : (s : ℕ) (J : List ℕ) (t : ℕ) (x : Cut) → Fits v s J t x → Fitted v s J t x
  fits-fitted s J t x f =
      record {
        cut = f.cut;
        path = f.path;
        firsts = blocks-first s x.first t x.first' _ _ f.same f.silent.in-first f.silent'.in-first;
        laters = all-later x.later x.later' (blocks-tail _ _ _ _ f.same) f.silent.in-later f.silent'.in-later f.entered;
        terminal = f.terminal;
      }
