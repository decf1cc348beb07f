-- Document 01's duties and clauses as statements, over the test of a step: in plain tables every step is silent and serves every other.
use Rattle.std.specs.Prelude.{ℕ, ◌<◌, ◌≡◌, ◌⊎◌, T}
use Rattle.bisimulation.specs.Systems.{View, Ranks, flip, swap, Stays, StartsRule, LabelsEqual}

-- The obligation of the own step j, from s to u, at the state t: s and t are related.
module _ (v : View) (j t : ℕ) where
  open v use {own, other, related, serves}

  -- 2a: some step t to x that serves j, with u, x related.
  abbrev pub Meets2a : Type 0
  Meets2a = (k : ℕ) × (k < other.steps) × (other.from k ≡ t) × T (serves j k) × T (related (own.to j) (other.to k))

module _ (v : View) (r : Ranks) (j t : ℕ) where
  open v use {own, other, related}

  -- 2b: j stays at t, that is it is silent and u, t are related, and the A rank of (u, t) is below that of (s, t).
  abbrev pub Meets2b : Type 0
  Meets2b = Stays v j t × (r.stutter (own.to j) t < r.stutter (own.from j) t)

  -- 2c: some silent step t to x with s, x related, and the C rank of j at x is below that at t.
  abbrev pub Meets2c : Type 0
  Meets2c =
      (k : ℕ) × (k < other.steps) × (other.from k ≡ t) × T (other.silent k) × T (related (own.from j) (other.to k))
      × (r.match j (other.to k) < r.match j t)

  -- Document 01: one of the three.
  abbrev pub Meets : Type 0
  Meets = Meets2a v j t ⊎ Meets2b ⊎ Meets2c

  -- The paper: 2c only where 2b is out of the question, that is where j does not stay at t.
  abbrev pub MeetsLiterally : Type 0
  MeetsLiterally = Meets2a v j t ⊎ Meets2b ⊎ ((¬ Stays v j t) × Meets2c)

-- Every obligation of the own side is met, in the sense given.
abbrev pub EveryObligation : (View → Ranks → ℕ → ℕ → Type 0) → View → Ranks → Type 0
EveryObligation Met v r = (j t : ℕ) → j < v.own.steps → T (v.related (v.own.from j) t) → Met v r j t

-- Initial states related, labels equal, and every obligation of both sides met, in the sense given.
pub record Certified (Met : View → Ranks → ℕ → ℕ → Type 0) (v : View) (r : Ranks) : Type 0 where
  pub starts : StartsRule v
  pub labels : LabelsEqual v
  pub own-met : EveryObligation Met v r
  pub other-met : EveryObligation Met (flip v) (swap r)
