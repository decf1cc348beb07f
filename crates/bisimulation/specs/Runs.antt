-- Matching runs and stuttering chains in the document's words, as lists of any length.
use Rattle.std.specs.Prelude.{ℕ, List, [], ◌∷◌, ◌++◌, map, T}
use Rattle.lists.specs.Lists.{All}
use Rattle.bisimulation.specs.Systems.{View}
use Rattle.bisimulation.specs.StepPaths.{StepPath}

-- A list of one or more states, t first, each stepping to the next by the silent steps K inside and all related to the state s that j leaves,
-- has a step from its last state that serves j, to a state related to the one that j enters.
pub record MatchingRun (v : View) (j t : ℕ) (K : List ℕ) : Type 0 where
  pub last : ℕ
  pub path : StepPath v.other t (K ++ (last ∷ []))
  pub inside : All (λ k. T (v.other.silent k)) K
  pub related : All (λ y. T (v.related (v.own.from j) y)) (t ∷ map v.other.to K)
  pub serves : T (v.serves j last)
  pub meets : T (v.related (v.own.to j) (v.other.to last))

-- The own step j is matched at t: a matching run of whatever length exists.
abbrev pub Matched : View → ℕ → ℕ → Type 0
Matched v j t = (K : List ℕ) × MatchingRun v j t K

-- A chain from s of silent steps unmatched at t, through states related to t, s among them.
pub record StutteringChain (v : View) (t s : ℕ) (J : List ℕ) : Type 0 where
  pub path : StepPath v.own s J
  pub silent : All (λ j. T (v.own.silent j)) J
  pub unmatched : All (λ j. ¬ Matched v j t) J
  pub related : All (λ x. T (v.related x t)) (s ∷ map v.own.to J)
