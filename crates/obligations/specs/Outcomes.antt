-- One obligation in the words of documents 01 and 02: which states serve it, by which clause it is met, and what its outcome is. It is that of the own step
-- j, from s to u, at a state t of the other side.
use Rattle.outcomes.specs.declared.Outcome.{Outcome}
use Rattle.outcomes.specs.declared.Outcome.TheVariants.{Met, Failed}
use Rattle.std.specs.Prelude.{ℕ, ◌<◌, ◌≡◌, T}
use Rattle.lists.specs.Below.{Smallest}
use Rattle.bisimulation.specs.Systems.{View, Ranks, Stays}
use Rattle.bisimulation.specs.Clauses.{Meets2a, Meets2b, Meets2c, Meets}
use Rattle.outcomes.specs.declared.Clause.{Clause}
use Rattle.outcomes.specs.declared.Clause.TheVariants.{Step, Stutter, Match}
use Rattle.outcomes.specs.declared.Failure.TheVariants as failure

-- u, t are unrelated or the step's key is not 0, and no silent step from t goes to a state related to s.
abbrev pub Apart : View → ℕ → ℕ → Type 0
Apart v j t =
    (¬ Stays v j t)
    × ((k : ℕ) → k < v.other.steps → v.other.from k ≡ t → T (v.other.silent k) → ¬ T (v.related (v.own.from j) (v.other.to k)))

module _ (v : View) (r : Ranks) (j t : ℕ) where
  open v use {own, other, related, serves}

  -- It is met by the clause: the first of 2a, 2b and 2c that holds.
  abbrev pub MetFirstBy : Clause → Type 0
  MetFirstBy Step = Meets2a v j t
  MetFirstBy Stutter = (¬ Meets2a v j t) × Meets2b v r j t
  MetFirstBy Match = (¬ Meets2a v j t) × (¬ Meets2b v r j t) × Meets2c v r j t

  -- The state x serves it by the clause. By 2a: some step t to x that serves j, with u, x related. By 2b: t itself. By 2c: some silent step t to x with s, x
  -- related, and the C rank of j at x is below that at t.
  abbrev pub ServesBy : Clause → ℕ → Type 0
  ServesBy Step x = (k : ℕ) × (k < other.steps) × (other.from k ≡ t) × (other.to k ≡ x) × T (serves j k) × T (related (own.to j) x)
  ServesBy Stutter x = x ≡ t
  ServesBy Match x =
      (k : ℕ) × (k < other.steps) × (other.from k ≡ t) × (other.to k ≡ x) × T (other.silent k) × T (related (own.from j) x)
      × (r.match j x < r.match j t)

  -- Its outcome: it is met by the first clause that holds, with the smallest state that serves it by this clause; or it is unmet, and fails as 18 where the
  -- two are apart, as 19 otherwise.
  abbrev pub HasOutcome : Outcome → Type 0
  HasOutcome (Met clause x) = MetFirstBy clause × Smallest (ServesBy clause) x
  HasOutcome (Failed failure.Apart) = (¬ Meets v r j t) × Apart v j t
  HasOutcome (Failed failure.Rank) = (¬ Meets v r j t) × (¬ Apart v j t)
