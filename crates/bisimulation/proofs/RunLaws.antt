-- The rounds and the recursion on k mean what the document says: an obligation is matched where a matching run of any length exists, its
-- distance is the least number of steps inside one, and the chain length is the most steps of a chain.
-- The key idea: along a shortest run the number of rounds that is left falls, so it passes through no state twice and has fewer steps inside
-- than there are states, and that many rounds find every match. Assumes nothing.
use Prim.Native.Nat.{ℕ, zero, suc, ◌≤◌, ◌<◌, zero-le}
use mathlib.Core.Path.{◌≡◌, refl, sym, ap}
use mathlib.Core.Logic.{◌↔◌, ⊎_elim}
use mathlib.Core.Bool.{Bool, ◌&&◌, cond}
use mathlib.Core.List.{List, [], ◌∷◌, ◌++◌, map}
use native.Mathlib.Nat.{not-suc-le-zero, le_refl, le_of_suc-le-suc}
use native.Mathlib.Decide.{dec_lt}
use native.Mathlib.Omega.{arith}
use lib.Dec.{T, T_not, not_T, eqb, eqb→eq}
use lib.ListN.{length}
use Rattle.lists.specs.Below.{first_below}
use Rattle.lists.specs.Lists.{All}
use Rattle.lists.proofs.BelowLaws.{any-e, any-i, most-ge, most-le, most-at, first-le, first-at}
use Rattle.lists.proofs.BoolLaws.{and_l, and_r, and_i, or-e, or_r, eq→eqb, cond-true, cond-upto, cond_pos}
use Rattle.bisimulation.specs.Judge.{is2a}
use Rattle.bisimulation.specs.Maker.{matches_within, matched, distance, may_chain, chain_along, chain_length}
use Rattle.bisimulation.specs.Runs.{MatchingRun, Matched, StutteringChain}
use Rattle.bisimulation.specs.StepPaths.{StepPath}
use Rattle.bisimulation.specs.Systems.{System, View, WellFormed}
use Rattle.bisimulation.proofs.ClauseLaws.{is2a-e, is2a-i}
use Rattle.bisimulation.proofs.RankLaws.{lower, lower-falls, lower-bound}

-- a chain of steps that pass a test has at most k steps
pub along-bound : (S : System) (test : ℕ → Bool) (k s : ℕ) → chain_along S test k s ≤ k
unfolding chain_along
along-bound S test zero s = zero-le
along-bound S test (suc k) s =
    most-le _ _ _ λ j l. cond-upto (eqb (S.from j) s && test j) (suc (chain_along S test k (S.to j))) (suc k)
    λ h. omega (arith, along-bound S test k (S.to j))

module _ (v : View) where
  open v use {own, other, related, serves}

  -- a stretch of silent steps K from t, then k, is a run that matches j
  pub run-matches : (j t : ℕ) (K : List ℕ) (k : ℕ) (L : List ℕ) → StepPath other t (K ++ (k ∷ L)) → All (λ e. T (other.silent e)) K
      → All (λ y. T (related (own.from j) y)) (t ∷ map other.to K)
      → T (serves j k) → T (related (own.to j) (other.to k)) → T (matches_within v j (length K) t)
  unfolding matches_within
  run-matches j t [] k L p q a b c = and_i (related (own.from j) t) (is2a v j t) a.0 (is2a-i v j t (k, p.0, p.1, b, c))
  run-matches j t (e ∷ K) k L p q a b c =
      and_i (related (own.from j) t) _ a.0
      (or_r (is2a v j t) _ (any-i _ _ e p.0 (let r = run-matches j (other.to e) K k L p.2 q.1 a.1 b c in search (and_i, eq→eqb))))

  -- the state where a run begins is related to the one that j leaves
  pub within-related : (j k t : ℕ) → T (matches_within v j k t) → T (related (own.from j) t)
  unfolding matches_within
  within-related j zero t h = and_l (related (own.from j) t) _ h
  within-related j (suc k) t h = and_l (related (own.from j) t) _ h

  pub matched-e : (j t : ℕ) → T (matched v j t) → (distance v j t < other.states) × T (matches_within v j (distance v j t) t)
  unfolding matched distance
  matched-e j t h =
      let r = any-e _ _ h in
      let l : r.0 < other.states = omega (arith, r.1) in (
        omega (arith, first-le other.states (λ k. matches_within v j k t) r.0 l r.2),
        first-at other.states (λ k. matches_within v j k t) r.0 l r.2,
      )

  -- j leaves s and may stand in a chain at t
  abbrev pub in_chain : ℕ → ℕ → ℕ → Bool
  in_chain t s j = eqb (own.from j) s && may_chain v t j

  pub chain-bound : (t k s : ℕ) → chain_length v t k s ≤ k
  chain-bound t = along-bound own (may_chain v t)

  pub chain-step : (t k s j : ℕ) → j < own.steps → T (in_chain t s j) → chain_length v t k (own.to j) < chain_length v t (suc k) s
  unfolding chain_along
  chain-step t k s j l h =
      omega (
        arith,
        most-ge own.steps (λ i. cond (in_chain t s i) (suc (chain_length v t k (own.to i))) 0) j l,
        cond-true (in_chain t s j) (suc (chain_length v t k (own.to j))) 0 h,
      )

module _ (v : View) (w : WellFormed v) (j : ℕ) where
  open v use {own, other, related, serves}

  -- the least number of rounds at y, of at most N
  abbrev rounds : ℕ → ℕ → ℕ
  rounds N y = first_below (suc N) (λ i. matches_within v j i y)

  record Unrolled (N y : ℕ) : Type 0 where
    K : List ℕ
    is : MatchingRun v j y K
    short : length K ≤ rounds N y
    low' : length K ≤ lower other.states (rounds N) (rounds N y)

  abbrev Unrolling : ℕ → ℕ → Type 0
  Unrolling N M = (y : ℕ) → rounds N y < M → rounds N y ≤ N → T (matches_within v j (rounds N y) y) → Unrolled N y

  unroll-at : (N M : ℕ) → Unrolling N M → Unrolling N (suc M)
  unfolding matches_within
  unroll-at N M rec y l g h = go (rounds N y) refl h
    where
      p : T (related (own.from j) y)
      p = within-related v j (rounds N y) y h

      at_once : T (is2a v j y) → Unrolled N y
      at_once a =
          let q = is2a-e v j y a in
          record {
            K = [];
            is = record { last = q.0; path = (q.1, q.2, tt); inside = tt; related = (p, tt); serves = q.3; meets = q.4 };
            short = zero-le;
            low' = zero-le;
          }

      go : (c : ℕ) → rounds N y ≡ c → T (matches_within v j c y) → Unrolled N y
      go zero e r = at_once (and_r (related (own.from j) y) _ r)
      go (suc c) e r =
          ⊎_elim at_once
          (λ a.
          let q = any-e _ _ a in
          let k = q.0 in
          let b = q.2 in
          let x : T (matches_within v j c (other.to k)) = search (and_l, and_r) in
          let m = first-le (suc N) (λ i. matches_within v j i (other.to k)) c (omega arith) x in
          let i = rec (other.to k) (omega arith) (omega arith) (first-at (suc N) (λ i. matches_within v j i (other.to k)) c (omega arith) x) in
          record {
            K = k ∷ i.K;
            is = record {
              last = i.is.last;
              path = (q.1, eqb→eq _ _ (search (and_l, and_r)), i.is.path);
              inside = (search (and_l, and_r), i.is.inside);
              related = (p, i.is.related);
              serves = i.is.serves;
              meets = i.is.meets;
            };
            short = omega (arith, i.short);
            low' = omega (arith, i.low', lower-falls other.states (rounds N) (rounds N y) (other.to k) (w.there.to< k q.1) (omega arith));
          })
          (or-e (is2a v j y) _ (and_r (related (own.from j) y) _ r))

  unroll : (N M : ℕ) → Unrolling N M
  unroll N zero y l g h = absurd (not-suc-le-zero l)
  unroll N (suc M) y l g h = unroll-at N M (λ z. unroll N M z) y l g h

  module _ (t : ℕ) where
    -- a match within N rounds gives a run of at most N steps inside, and fewer than the other side's states
    pub shorten : (N : ℕ) → T (matches_within v j N t) → (K : List ℕ) × MatchingRun v j t K × (length K ≤ N) × (length K < other.states)
    shorten N h =
        let m = first-le (suc N) (λ i. matches_within v j i t) N (le_refl _) h in
        let u = unroll N (suc N) t (omega arith) m (first-at (suc N) (λ i. matches_within v j i t) N (le_refl _) h) in (
          u.K,
          u.is,
          omega (arith, u.short),
          omega (
            arith,
            u.low',
            lower-bound other.states (rounds N) t (w.there.related< t (own.from j) (within-related v j N t h)),
          ),
        )

    matches-run : (K : List ℕ) → MatchingRun v j t K → T (matches_within v j (length K) t)
    matches-run K l = run-matches v j t K l.last [] l.path l.inside l.related l.serves l.meets

    -- where there is a run, the obligation is matched, and the distance is at most the run's steps inside
    pub run-matched : (K : List ℕ) → MatchingRun v j t K → T (matched v j t) × (distance v j t ≤ length K)
    unfolding matched distance
    run-matched K l =
        let s = shorten (length K) (matches-run K l) in
        let r = matches-run s.0 s.1 in (
          any-i _ (λ k. matches_within v j k t) (length s.0) s.3 r,
          omega (arith, s.2, first-le other.states (λ k. matches_within v j k t) (length s.0) s.3 r),
        )

    -- where it is matched, there is a run with as many steps inside as the distance
    pub matched-run : T (matched v j t) → (K : List ℕ) × MatchingRun v j t K × (length K ≡ distance v j t)
    matched-run h =
        let s = shorten (distance v j t) (matched-e v j t h).1 in
        (s.0, s.1, omega (arith, s.2, (run-matched s.0 s.1).1))

    -- matched: a run of any length exists
    pub matched-iff : T (matched v j t) ↔ Matched v j t
    matched-iff = (λ h. let q = matched-run h in (q.0, q.1), λ q. (run-matched q.0 q.1).0)

module _ (v : View) (w : WellFormed v) (t : ℕ) where
  open v use {own, related}

  -- what the test of a step of a chain says, read off and put together
  may-chain-e : (j : ℕ) → T (may_chain v t j) → T (own.silent j) × T (related (own.to j) t) × (¬ Matched v j t)
  unfolding may_chain
  may-chain-e j h = (search (and_l, and_r), search (and_l, and_r), λ m. T_not (matched v j t) (search (and_l, and_r)) ((matched-iff v w j t).1 m))

  may-chain-i : (j : ℕ) → T (own.silent j) → T (related (own.to j) t) → (¬ Matched v j t) → T (may_chain v t j)
  unfolding may_chain
  may-chain-i j a b n = let c = not_T (matched v j t) (λ m. n ((matched-iff v w j t).0 m)) in search and_i

  -- no step, a step less, and a step more
  empty-chain : (s : ℕ) → T (related s t) → StutteringChain v t s []
  empty-chain s h = record { path = tt; silent = tt; unmatched = tt; related = (h, tt) }

  shorter-chain : (s j : ℕ) (J : List ℕ) → StutteringChain v t s (j ∷ J) → StutteringChain v t (own.to j) J
  shorter-chain s j J c = record { path = c.path.2; silent = c.silent.1; unmatched = c.unmatched.1; related = c.related.1 }

  longer-chain : (s j : ℕ) (J : List ℕ) → j < own.steps → own.from j ≡ s → T (related s t) → T (own.silent j) → (¬ Matched v j t)
      → StutteringChain v t (own.to j) J → StutteringChain v t s (j ∷ J)
  longer-chain s j J l e h a n c = record { path = (l, e, c.path); silent = (a, c.silent); unmatched = (n, c.unmatched); related = (h, c.related) }

  -- no chain of at most k steps is longer
  pub chain-most : (k s : ℕ) (J : List ℕ) → StutteringChain v t s J → length J ≤ k → length J ≤ chain_length v t k s
  chain-most k s [] c l = zero-le
  chain-most zero s (j ∷ J) c l = absurd (not-suc-le-zero l)
  chain-most (suc k) s (j ∷ J) c l =
      let i = chain-most k (own.to j) J (shorter-chain s j J c) (omega arith) in
      let h = may-chain-i j c.silent.0 c.related.1.0 c.unmatched.0 in
      omega (arith, chain-step v t k s j c.path.0 (and_i (eqb (own.from j) s) (may_chain v t j) (eq→eqb _ _ c.path.1) h))

  -- and one is as long
  pub chain-some : (k s : ℕ) → T (related s t) → (J : List ℕ) × StutteringChain v t s J × (length J ≡ chain_length v t k s)
  unfolding chain_along
  chain-some zero s h = ([], empty-chain s h, refl)
  chain-some (suc k) s h = go (chain_length v t (suc k) s) refl (λ j. chain-some k (own.to j))
    where
      go : (c : ℕ) → chain_length v t (suc k) s ≡ c
          → ((j : ℕ) → T (related (own.to j) t) → (J : List ℕ) × StutteringChain v t (own.to j) J × (length J ≡ chain_length v t k (own.to j)))
          → (J : List ℕ) × StutteringChain v t s J × (length J ≡ chain_length v t (suc k) s)
      go zero e rec = ([], empty-chain s h, sym e)
      go (suc b) e rec =
          let q : b < chain_length v t (suc k) s = omega (arith, e) in
          let r = most-at _ _ b q in
          let j = r.0 in
          let d = cond_pos (in_chain v t s j) (suc (chain_length v t k (own.to j))) b r.2 in
          let p = may-chain-e j (and_r (eqb (own.from j) s) _ d.0) in
          let i = rec j p.1 in (
            j ∷ i.0,
            longer-chain s j i.0 r.1 (eqb→eq _ _ (and_l (eqb (own.from j) s) _ d.0)) h p.0 p.2 i.1,
            omega (arith, i.2, d.1, chain-step v t k s j r.1 d.0),
          )

  -- the first k steps of a chain are a chain
  chain-prefix : (k s : ℕ) (J : List ℕ) → StutteringChain v t s J → k ≤ length J → (I : List ℕ) × StutteringChain v t s I × (length I ≡ k)
  chain-prefix zero s J c l = ([], empty-chain s c.related.0, refl)
  chain-prefix (suc k) s [] c l = absurd (not-suc-le-zero l)
  chain-prefix (suc k) s (j ∷ J) c l =
      let i = chain-prefix k (own.to j) J (shorter-chain s j J c) (le_of_suc-le-suc l) in
      (j ∷ i.0, longer-chain s j i.0 c.path.0 c.path.1 c.related.0 c.silent.0 c.unmatched.0 i.1, ap suc i.2)

  -- where no chain of k steps was found, no chain of whatever length is longer than the one found
  pub chain-longest : (k s : ℕ) (J : List ℕ) → StutteringChain v t s J → chain_length v t k s < k → length J ≤ chain_length v t k s
  chain-longest k s J c h = elim (dec_lt k (length J)) [
    | yes l ↦ (let i = chain-prefix k s J c (omega arith) in absurd (let z = chain-most k s i.0 i.1 (omega (arith, i.2)) in omega (arith, i.2)))
    | no l ↦ chain-most k s J c (omega arith)
  ]
