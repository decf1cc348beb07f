-- Soundness: where the judge accepts, with whatever ranks, the path property holds.
-- The key idea: the path matcher's own cut fits. A block begins at each 2a. Inside a block only one of 2b and 2c can go on: after a 2b no silent
-- step leaves t for a state related to the new own state, since it would have given 2a, so 2c is shut; after a 2c the step enters no state
-- related to the new t, for the same reason, so 2b is shut. So in every block one side has one state only, and on the other the rank falls,
-- which bounds the block by that side's number of states. Stated for one side, from the obligations of both, each with ranks of its own. Assumes nothing.
use Prim.Native.Nat.{ℕ, zero, suc, ◌+◌, ◌≤◌, ◌<◌, zero-le}
use mathlib.Core.Path.{◌≡◌, refl, ap}
use mathlib.Core.Logic.{inl, inr, ⊎_elim}
use mathlib.Core.Bool.{Bool, true, false, ◌&&◌, not, cond}
use mathlib.Core.List.{List, [], ◌∷◌, flatten}
use native.Mathlib.Nat.{not-suc-le-zero, le_refl}
use native.Mathlib.Omega.{arith}
use lib.Dec.{T, T_not, not_T, eqb, eqb→eq}
use lib.ListN.{length}
use Rattle.lists.proofs.BelowLaws.{any-e, any-i}
use Rattle.lists.proofs.BoolLaws.{and_l, and_r, and_i, eq→eqb}
use Rattle.bisimulation.specs.Clauses.{Meets, EveryObligation}
use Rattle.bisimulation.specs.Judge.{meets2a, meets2c, is2a, is2b, is2c, accepts}
use Rattle.bisimulation.specs.Matcher.{smallest_step, moves, nothing, enter, grow, push, choose, match_steps, moves_needed, match_path}
use Rattle.bisimulation.specs.StepPaths.{StepPath, Cut, Fits, StepPathProperty}
use Rattle.bisimulation.specs.Systems.{System, Terminal, View, flip, Ranks, swap, WellFormed}
use Rattle.bisimulation.proofs.BlockLaws.{Fitted, fitted-fits}
use Rattle.bisimulation.proofs.ClauseLaws.{pick-passes, flip-formed, picked-2a, picked-2c, is2a-i, is2b-i, is2c-i, is2b-e, is2c-e, accepts-iff}
use Rattle.bisimulation.proofs.RankLaws.{lower, lower-falls, lower-bound}

pub still-terminal : (S : System) (s : ℕ) → (T (moves S s) → ⊥) → Terminal S s
unfolding moves
still-terminal S s h j l e = h (any-i _ (λ i. eqb (S.from i) s) j l (eq→eqb _ _ e))

moves-not-terminal : (S : System) (s : ℕ) → T (moves S s) → Terminal S s → ⊥
unfolding moves
moves-not-terminal S s h d = let r = any-e _ _ h in d r.0 r.1 (eqb→eq _ _ r.2)

cond_cases : (P : Cut → Type 0) (b : Bool) (x y : Cut) → (T b → P x) → ((T b → ⊥) → P y) → P (cond b x y)
cond_cases P true x y f g = f tt
cond_cases P false x y f g = g (λ z. z)

-- the four ways to go on
module _ (v : View) (w : WellFormed v) where
  open v use {own, other, related, serves}

  nothing-fits : (s t : ℕ) → T (related s t) → (Terminal own s → Terminal other t) → Fitted v s [] t nothing
  unfolding flatten
  nothing-fits s t h d =
      record {
        cut = refl;
        path = tt;
        firsts = record {
          inside = tt;
          inside' = tt;
          small = omega (arith, w.here.related< s t h);
          small' = omega (arith, w.there.related< t s h);
          all-related = ((h, tt), tt);
        };
        laters = tt;
        terminal = d;
      }

  enter-fits : (s j : ℕ) (J : List ℕ) (t k : ℕ) (x : Cut)
      → T (related s t) → k < other.steps → other.from k ≡ t → T (serves j k)
      → Fitted v (own.to j) J (other.to k) x → Fitted v s (j ∷ J) t (enter j k x)
  unfolding flatten
  enter-fits s j J t k x h l e a f =
      record {
        cut = ap (λ i. j ∷ i) f.cut;
        path = (l, e, f.path);
        firsts = record {
          inside = tt;
          inside' = tt;
          small = omega (arith, w.here.related< s t h);
          small' = omega (arith, w.there.related< t s h);
          all-related = ((h, tt), tt);
        };
        laters = (a, f.firsts, f.laters);
        terminal = f.terminal;
      }

  grow-fits : (s j : ℕ) (J : List ℕ) (t : ℕ) (x : Cut)
      → T (related s t) → T (own.silent j) → x.first' ≡ [] → length (j ∷ x.first) < own.states
      → Fitted v (own.to j) J t x → Fitted v s (j ∷ J) t (grow j x)
  grow-fits s j J t x h q e b f =
      record {
        cut = ap (λ i. j ∷ i) f.cut;
        path = f.path;
        firsts = record {
          inside = (q, f.firsts.inside);
          inside' = f.firsts.inside';
          small = b;
          small' = f.firsts.small';
          all-related = (rw e (h, tt), f.firsts.all-related);
        };
        laters = f.laters;
        terminal = f.terminal;
      }

  push-fits : (s : ℕ) (J : List ℕ) (t k : ℕ) (x : Cut)
      → T (related s t) → k < other.steps → other.from k ≡ t → T (other.silent k) → x.first ≡ [] → length (k ∷ x.first') < other.states
      → Fitted v s J (other.to k) x → Fitted v s J t (push k x)
  push-fits s J t k x h l e q a b f =
      record {
        cut = f.cut;
        path = (l, e, f.path);
        firsts = record {
          inside = f.firsts.inside;
          inside' = (q, f.firsts.inside');
          small = f.firsts.small;
          small' = b;
          all-related = rw a (((h, f.firsts.all-related.0), tt));
        };
        laters = f.laters;
        terminal = f.terminal;
      }

-- a terminal state s: a step from t is met by 2b of the other side
pub terminal-2b : (v : View) (r' : Ranks) → EveryObligation Meets (flip v) r'
    → (s t : ℕ) → T (v.related s t) → Terminal v.own s → (k : ℕ) → k < v.other.steps → v.other.from k ≡ t
    → T (v.other.silent k) × T (v.related s (v.other.to k)) × (r'.stutter (v.other.to k) s < r'.stutter t s)
terminal-2b v r' D' s t h d k l e =
    ⊎_elim (λ q. absurd (d q.0 q.1 q.2))
    (λ c. ⊎_elim (λ b. let q = rw e at b in (q.0.0, q.0.1, q.1)) (λ q. absurd (d q.0 q.1 q.2)) c)
    (D' k s l (rw e h))

module _ (v : View) (r r' : Ranks) (w : WellFormed v) (D : EveryObligation Meets v r) (D' : EveryObligation Meets (flip v) r') where
  open v use {own, other, related, serves}

  cases : (P : Cut → Type 0) (j t : ℕ) (x y z : Cut) → j < own.steps → T (related (own.from j) t)
      → (T (is2a v j t) → P x) → ((T (is2a v j t) → ⊥) → T (is2b v r j t) → P y)
      → ((T (is2a v j t) → ⊥) → T (is2c v r j t) → P z) → P (choose (is2a v j t) (is2b v r j t) (is2c v r j t) x y z)
  cases P j t x y z l h f g k =
      cond_cases P (is2a v j t) _ _ f
      (λ na. cond_cases P (is2b v r j t) _ _ (g na) (λ nb. cond_cases P (is2c v r j t) _ _ (k na) (λ nc. absurd (none na nb nc (D j t l h)))))
    where
      none : (T (is2a v j t) → ⊥) → (T (is2b v r j t) → ⊥) → (T (is2c v r j t) → ⊥) → Meets v r j t → ⊥
      none na nb nc (inl a) = na (is2a-i v j t a)
      none na nb nc (inr (inl b)) = nb (is2b-i v r j t b)
      none na nb nc (inr (inr c)) = nc (is2c-i v r j t c)

  -- no silent step leaves t for a state related to s
  abbrev Shut : ℕ → ℕ → Type 0
  Shut s t = (k : ℕ) → k < other.steps → other.from k ≡ t → T (other.silent k) → T (related s (other.to k)) → ⊥

  not-2a-shut : (j t : ℕ) → (T (is2a v j t) → ⊥) → T (own.silent j) → Shut (own.to j) t
  not-2a-shut j t na q k l e p h = na (is2a-i v j t (k, l, e, w.here.quiet j k q p, h))

  -- it fits, and the first block has one own state, or one of the other's, and few of the opposite
  record Alone (f : ℕ → ℕ) (s : ℕ) (J : List ℕ) (t : ℕ) (x : Cut) : Type 0 where
    fits : Fitted v s J t x
    alone : x.first ≡ []
    few : length x.first' ≤ lower other.states f (f t)

  record Facing (s : ℕ) (J : List ℕ) (t : ℕ) (x : Cut) : Type 0 where
    fits : Fitted v s J t x
    alone : x.first' ≡ []
    few : length x.first ≤ lower own.states (λ y. r.stutter y t) (r.stutter s t)

  pushed : (f : ℕ → ℕ) (s : ℕ) (J : List ℕ) (t k : ℕ) (x : Cut)
      → T (related s t) → k < other.steps → other.from k ≡ t → T (other.silent k) → f (other.to k) < f t
      → Alone f s J (other.to k) x → Alone f s J t (push k x)
  pushed f s J t k x h l e q g a =
      let b = lower-falls other.states f (f t) (other.to k) (w.there.to< k l) g in
      let c : length (k ∷ x.first') ≤ lower other.states f (f t) = omega (arith, a.few) in
      record {
        fits = push-fits v w s J t k x h l e q a.alone (omega (arith, lower-bound other.states f t (w.there.related< t s h))) a.fits;
        alone = a.alone;
        few = c;
      }

  grew : (s j : ℕ) (J : List ℕ) (t : ℕ) (x : Cut) → own.from j ≡ s → j < own.steps
      → T (related s t) → T (is2b v r j t) → Facing (own.to j) J t x → Facing s (j ∷ J) t (grow j x)
  grew s j J t x e l h b a =
      let q = rw e at (is2b-e v r j t b) in
      let c = lower-falls own.states (λ y. r.stutter y t) (r.stutter s t) (own.to j) (w.here.to< j l) q.1 in
      let d : length (j ∷ x.first) ≤ lower own.states (λ y. r.stutter y t) (r.stutter s t) = omega (arith, a.few) in
      record {
        fits = grow-fits v w s j J t x h q.0.0 a.alone
            (omega (arith, lower-bound own.states (λ y. r.stutter y t) s (w.here.related< s t h))) a.fits;
        alone = a.alone;
        few = d;
      }

  -- the end of the path: on to a terminal state where s is one
  tail : (M N s t : ℕ) → lower other.states (λ y. r'.stutter y s) (r'.stutter t s) < M → M ≤ N → T (related s t)
      → Alone (λ y. r'.stutter y s) s [] t (match_steps v r N s [] t)
  unfolding match_steps
  tail zero N s t g b h = absurd (not-suc-le-zero g)
  tail (suc M) zero s t g b h = absurd (not-suc-le-zero b)
  tail (suc M) (suc N) s t g b h =
      cond_cases (Alone (λ y. r'.stutter y s) s [] t) (not (moves own s) && moves other t) _ _
      (λ m.
      let f : ℕ → Bool = λ i. eqb (other.from i) t in
      let k = smallest_step other f in
      let q = pick-passes other f (unfold moves in and_r (not (moves own s)) (moves other t) m) in
      let e = eqb→eq (other.from k) t q.1 in
      let c = terminal-2b v r' D' s t h (still-terminal own s (T_not (moves own s) (and_l (not (moves own s)) (moves other t) m))) k q.0 e in
      let d = lower-falls other.states (λ y. r'.stutter y s) (r'.stutter t s) (other.to k) (w.there.to< k q.0) c.2 in
      pushed (λ y. r'.stutter y s) s [] t k _ h q.0 e c.0 c.2 (tail M N s (other.to k) (omega arith) (omega arith) c.1))
      (λ m. record {
        fits = nothing-fits v w s t h
            (λ d. still-terminal other t (λ z. m (and_i (not (moves own s)) (moves other t) (not_T (moves own s) (λ y. moves-not-terminal own s y d)) z)));
        alone = refl;
        few = zero-le;
      })

  -- what the recursion has of the rest of the path
  abbrev Fresh : ℕ → List ℕ → Type 0
  Fresh s J = (N t : ℕ) → moves_needed other.states J ≤ N → T (related s t) → Fitted v s J t (match_steps v r N s J t)

  entered : (s j : ℕ) (J : List ℕ) (N t : ℕ) → Fresh (own.to j) J → moves_needed other.states J ≤ N → T (related s t) → T (is2a v j t)
      → let k = smallest_step other (meets2a v j t) in Fitted v s (j ∷ J) t (enter j k (match_steps v r N (own.to j) J (other.to k)))
  entered s j J N t F b h a = let q = picked-2a v j t a in enter-fits v w s j J t _ _ h q.0 q.1 q.2 (F N _ b q.3)

  -- 2a fails at t, and 2c goes on to the next state: there 2b cannot hold
  next-2c : (j : ℕ) (J : List ℕ) (s t : ℕ) (x : ℕ → Cut) → own.from j ≡ s → T (related s t) → (T (is2a v j t) → ⊥) → T (is2c v r j t)
      → ((k : ℕ) → lower other.states (r.match j) (r.match j (other.to k)) < lower other.states (r.match j) (r.match j t)
      → T (related s (other.to k)) → (T (own.silent j) → T (related (own.to j) (other.to k)) → ⊥)
      → Alone (r.match j) s (j ∷ J) (other.to k) (x k))
      → let k = smallest_step other (meets2c v r j t) in Alone (r.match j) s (j ∷ J) t (push k (x k))
  next-2c j J s t x e h na c go =
      let q = picked-2c v r j t c in
      let p = rw e at q.3 in
      pushed (r.match j) s (j ∷ J) t _ _ h q.0 q.1 q.2 q.4
      (go _ (lower-falls other.states (r.match j) (r.match j t) _ (w.there.to< _ q.0) q.4)
      p (λ z u. not-2a-shut j t na z _ q.0 q.1 q.2 u))

  -- after a 2c: only 2a and 2c can come, until 2a
  match-on : (j : ℕ) (J : List ℕ) → j < own.steps → Fresh (own.to j) J
      → (M N s t : ℕ) → own.from j ≡ s → lower other.states (r.match j) (r.match j t) < M → M + moves_needed other.states J ≤ N
      → T (related s t) → (T (own.silent j) → T (related (own.to j) t) → ⊥) → Alone (r.match j) s (j ∷ J) t (match_steps v r N s (j ∷ J) t)
  unfolding match_steps
  match-on j J l F zero N s t e g b h nb = absurd (not-suc-le-zero g)
  match-on j J l F (suc M) zero s t e g b h nb = absurd (let z : suc M ≤ 0 = omega arith in not-suc-le-zero z)
  match-on j J l F (suc M) (suc N) s t e g b h nb =
      cases (Alone (r.match j) s (j ∷ J) t) j t _ _ _ l (rw e h)
      (λ a. record { fits = entered s j J N t F (omega arith) h a; alone = refl; few = zero-le })
      (λ na c. let q = is2b-e v r j t c in absurd (nb q.0.0 q.0.1))
      (λ na c. next-2c j J s t (λ k. match_steps v r N s (j ∷ J) (other.to k)) e h na c
      (λ k d p n. match-on j J l F M N s (other.to k) e (omega arith) (omega arith) p n))

  -- after a 2b: only 2a and 2b can come
  abbrev Shutting : ℕ → List ℕ → Type 0
  Shutting s J = (N t : ℕ) → moves_needed other.states J ≤ N → T (related s t) → Shut s t → Facing s J t (match_steps v r N s J t)

  grown : (j : ℕ) (J : List ℕ) (N s t : ℕ) → own.from j ≡ s → j < own.steps
      → T (related s t) → Shutting (own.to j) J → moves_needed other.states J ≤ N → (T (is2a v j t) → ⊥) → T (is2b v r j t)
      → Facing s (j ∷ J) t (grow j (match_steps v r N (own.to j) J t))
  grown j J N s t e l h G b na c = let q = is2b-e v r j t c in grew s j J t _ e l h c (G N t b q.0.1 (not-2a-shut j t na q.0.0))

  fresh-end : (s : ℕ) → Fresh s []
  fresh-end s N t b h =
      (tail (suc other.states) N s t
      (omega (arith, lower-bound other.states (λ y. r'.stutter y s) t (w.there.related< t s h)))
      b h).fits

  shut-end : (s : ℕ) → Shutting s []
  unfolding match_steps
  shut-end s zero t b h z = absurd (not-suc-le-zero b)
  shut-end s (suc N) t b h z =
      let stuck : Terminal own s → Terminal other t = λ d k l e. (let c = terminal-2b v r' D' s t h d k l e in z k l e c.0 c.1) in
      cond_cases (Facing s [] t) (not (moves own s) && moves other t) _ _
      (λ m. absurd (moves-not-terminal other t
      (and_r (not (moves own s)) (moves other t) m)
      (stuck (still-terminal own s (T_not (moves own s) (and_l (not (moves own s)) (moves other t) m))))))
      (λ m. record { fits = nothing-fits v w s t h stuck; alone = refl; few = zero-le })

  module _ (j : ℕ) (J : List ℕ) (s : ℕ) (l : j < own.steps) (e : own.from j ≡ s) (F : Fresh (own.to j) J) (G : Shutting (own.to j) J) where
    fresh_step : Fresh s (j ∷ J)
    unfolding match_steps
    fresh_step zero t b h = absurd (not-suc-le-zero b)
    fresh_step (suc N) t b h =
        cases (Fitted v s (j ∷ J) t) j t _ _ _ l (rw e h)
        (λ a. entered s j J N t F (omega arith) h a)
        (λ na c. (grown j J N s t e l h G (omega arith) na c).fits)
        (λ na c. (next-2c j J s t (λ k. match_steps v r N s (j ∷ J) (other.to k)) e h na c
        (λ k d p n. match-on j J l F other.states N s (other.to k) e
        (omega (arith, lower-bound other.states (r.match j) t (w.there.related< t s h))) (omega arith) p n)).fits)

    shut-step : Shutting s (j ∷ J)
    unfolding match_steps
    shut-step zero t b h z = absurd (not-suc-le-zero b)
    shut-step (suc N) t b h z =
        cases (Facing s (j ∷ J) t) j t _ _ _ l (rw e h)
        (λ a. record { fits = entered s j J N t F (omega arith) h a; alone = refl; few = zero-le })
        (λ na c. grown j J N s t e l h G (omega arith) na c)
        (λ na c. let q = is2c-e v r j t c in absurd (z q.0 q.1 q.2 q.3 (rw e at q.4)))

  walk : (J : List ℕ) (s : ℕ) → StepPath own s J → Fresh s J × Shutting s J
  walk [] s p = (fresh-end s, shut-end s)
  walk (j ∷ J) s p =
      let i = walk J (own.to j) p.2 in
      (fresh_step j J s p.0 p.1 i.0 i.1, shut-step j J s p.0 p.1 i.0 i.1)

  -- the path matcher's cut fits
  pub matcher-fits : (s t : ℕ) → T (related s t) → (J : List ℕ) → StepPath own s J → Fits v s J t (match_path v r s J t)
  unfolding match_path
  matcher-fits s t h J p = fitted-fits v s J t _ ((walk J s p).0 (moves_needed other.states J) t (le_refl _) h)

pub sound : (v : View) (r : Ranks) → WellFormed v → T (accepts v r) → StepPathProperty v
sound v r w h =
    let c = (accepts-iff v w r).0 h in
    record {
      starts = c.starts;
      labels = c.labels;
      own-paths = λ s t p J q. (match_path v r s J t, matcher-fits v r (swap r) w c.own-met c.other-met s t p J q);
      other-paths = λ t s p J q. (match_path (flip v) (swap r) t J s, matcher-fits (flip v) (swap r) r (flip-formed v w) c.other-met c.own-met t s p J q);
    }
