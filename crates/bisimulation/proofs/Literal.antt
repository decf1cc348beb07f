-- Document 01's clauses and the paper's, over the test of a step: some ranks are accepted just where some ranks meet the clauses with the
-- paper's conjunct in 2c, and bytes are enough for both. The key idea: the conjunct matters only where 2c holds, 2a fails, and j is silent and
-- enters a state related to t; raising the A rank of each pair with such a step ahead above all others at t gives 2b there, and lowers none that
-- 2b used. The ranks that the maker makes are below 64, so they are bytes when they are raised, too. Assumes nothing.
use Prim.Native.Nat.{ℕ, suc, ◌≤◌, ◌<◌}
use mathlib.Core.Path.{◌≡◌}
use mathlib.Core.Logic.{◌↔◌, ◌⊎◌, inl, inr, ⊎_elim}
use native.Mathlib.Omega.{arith}
use lib.Dec.{T, eqb→eq}
use Rattle.lists.specs.Below.{most_below}
use Rattle.lists.proofs.BelowLaws.{any-e, any-i, most-ge, most-le}
use Rattle.lists.proofs.BoolLaws.{and_l, and_r, and_i, T-dec, eq→eqb, cond-true, cond-false}
use Rattle.bisimulation.specs.Clauses.{Meets2a, Meets, MeetsLiterally, EveryObligation, Certified}
use Rattle.bisimulation.specs.Judge.{is2a, accepts}
use Rattle.bisimulation.specs.Maker.{made}
use Rattle.bisimulation.specs.Systems.{View, flip, Ranks, swap, Bytes, WellFormed, stays, Stays}
use Rattle.bisimulation.specs.Triples.{ahead, raised_rank, raised}
use Rattle.bisimulation.proofs.ClauseLaws.{flip-formed, is2a-e, is2a-i, accepts-iff}
use Rattle.bisimulation.proofs.Equivalences.{succeeds-iff-bytes}
use Rattle.bisimulation.proofs.Made.{made-small, made-accepted}

certified-map : (P Q : View → Ranks → ℕ → ℕ → Type 0) (v : View) (r q : Ranks) → (EveryObligation P v r → EveryObligation Q v q)
    → (EveryObligation P (flip v) (swap r) → EveryObligation Q (flip v) (swap q)) → Certified P v r → Certified Q v q
certified-map P Q v r q f g c =
    record { starts = c.starts; labels = c.labels; own-met = f c.own-met; other-met = g c.other-met }

module _ (v : View) (w : WellFormed v) (r : Ranks) where
  open v use {own, other, related}

  -- the raised rank of a state with nothing ahead is below that of one with something ahead, and of one with a greater rank
  raised-falls : (s u t : ℕ) → u < own.states → (T (ahead v u t) → ⊥)
      → T (ahead v s t) ⊎ (r.stutter u t < r.stutter s t) → raised_rank v r u t < raised_rank v r s t
  unfolding raised_rank
  raised-falls s u t l h c =
      let top = suc (most_below own.states (λ x. r.stutter x t)) in
      let a = cond-false (ahead v u t) top (r.stutter u t) h in
      let b = most-ge own.states (λ x. r.stutter x t) u l in
      ⊎_elim (λ d. let e = cond-true (ahead v s t) top (r.stutter s t) d in omega arith)
      (λ d. let e = cond-false (ahead v s t) top (r.stutter s t) d in ⊎_elim (λ z. absurd (d z)) (λ z. omega arith) c) (T-dec (ahead v s t))

  -- raising adds at most one to the greatest
  raised-most : (N s t : ℕ) → ((x : ℕ) → r.stutter x t ≤ N) → raised_rank v r s t ≤ suc N
  unfolding raised_rank
  raised-most N s t h =
      let top = most_below own.states (λ x. r.stutter x t) in
      let a = most-le own.states (λ x. r.stutter x t) N (λ x l. h x) in
      ⊎_elim (λ b. let e = cond-true (ahead v s t) (suc top) (r.stutter s t) b in omega arith)
      (λ b. let e = cond-false (ahead v s t) (suc top) (r.stutter s t) b in omega (arith, h s)) (T-dec (ahead v s t))

  ahead-i : (s t k : ℕ) → k < other.steps → other.from k ≡ t → T (other.silent k) → T (related s (other.to k)) → T (ahead v s t)
  unfolding ahead
  ahead-i s t k l e q h = any-i _ _ k l (search (and_i, eq→eqb))

  -- a silent step with no serve by 2a enters a state with nothing ahead
  not-ahead : (j t : ℕ) → T (own.silent j) → (Meets2a v j t → ⊥) → T (ahead v (own.to j) t) → ⊥
  unfolding ahead
  not-ahead j t q n h =
      let a = any-e _ _ h in
      let b = a.2 in
      n (a.0, a.1, eqb→eq _ _ (search (and_l, and_r)), w.here.quiet j a.0 q (search (and_l, and_r)), search (and_l, and_r))

  raised-literal : EveryObligation Meets v r → EveryObligation MeetsLiterally v (raised v r)
  raised-literal D j t l h = ⊎_elim (λ a. inl (is2a-e v j t a)) (λ n. go (λ a. n (is2a-i v j t a)) (D j t l h)) (T-dec (is2a v j t))
    where
      go : (Meets2a v j t → ⊥) → Meets v r j t → MeetsLiterally v (raised v r) j t
      go n (inl a) = absurd (n a)
      go n (inr (inl a)) = inr (inl (a.0, raised-falls (own.from j) (own.to j) t (w.here.to< j l) (not-ahead j t a.0.0 n) (inr a.1)))
      go n (inr (inr a)) =
          ⊎_elim
          (λ b.
          let c : Stays v j t = (and_l (own.silent j) _ b, and_r (own.silent j) _ b) in
          inr (inl (
            c,
            raised-falls (own.from j) (own.to j) t (w.here.to< j l) (not-ahead j t c.0 n)
                (inl (ahead-i (own.from j) t a.0 a.1 a.2 a.3 a.4)),
          )))
          (λ b. inr (inr (λ c. b (and_i (own.silent j) (related (own.to j) t) c.0 c.1), a))) (T-dec (stays v j t))

  literal-meets : EveryObligation MeetsLiterally v r → EveryObligation Meets v r
  literal-meets D j t l h = ⊎_elim (λ a. inl a) (λ a. inr (⊎_elim (λ b. inl b) (λ b. inr b.1) a)) (D j t l h)

module _ (v : View) (w : WellFormed v) where
  -- an accepted certificate meets the paper's clauses once its A ranks are raised
  pub accepted-literal : (r : Ranks) → T (accepts v r) → Certified MeetsLiterally v (raised v r)
  accepted-literal r h =
      certified-map Meets MeetsLiterally v r (raised v r) (raised-literal v w r)
      (raised-literal (flip v) (flip-formed v w) (swap r)) ((accepts-iff v w r).0 h)

  -- ranks that meet the paper's clauses are accepted as they stand
  pub literal-accepted : (r : Ranks) → Certified MeetsLiterally v r → T (accepts v r)
  literal-accepted r h =
      (accepts-iff v w r).1
      (certified-map MeetsLiterally Meets v r r (literal-meets v w r) (literal-meets (flip v) (flip-formed v w) (swap r)) h)

  -- some byte ranks are accepted exactly where some byte ranks meet the paper's clauses
  pub accepted-iff-literal : v.own.states ≤ 64 → v.other.states ≤ 64
      → ((r : Ranks) × Bytes r × T (accepts v r)) ↔ ((r : Ranks) × Bytes r × Certified MeetsLiterally v r)
  accepted-iff-literal a b = (
    λ p.
        let h = (succeeds-iff-bytes v w a b).1 p in
        let m = made-small v w h a b in
        let c = raised-most v w (made v) 63 in
        let d = raised-most (flip v) (flip-formed v w) (swap (made v)) 63 in (
          raised v (made v),
          (
            λ s t. omega (arith, c s t (λ x. omega (arith, m.0 x t))),
            λ j t. omega (arith, m.1 j t),
            λ t s. omega (arith, d t s (λ x. omega (arith, m.2 x s))),
            λ k s. omega (arith, m.3 k s),
          ),
          accepted-literal (made v) (made-accepted v w h),
        ),
    λ p. (p.0, p.1, literal-accepted p.0 p.2),
  )
