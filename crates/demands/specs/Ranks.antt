-- The ranks of the maker's file in the words of document 01, for a side: a matching run is the list of a matched duty,
-- a stuttering chain one of unmatched steps.
use Rattle.std.specs.Prelude.{ℕ, ◌≤◌, ◌<◌, ◌≡◌, List, T, length}
use Rattle.bisimulation.specs.Systems.{View}
use Rattle.bisimulation.specs.Runs.{MatchingRun, Matched, StutteringChain}

-- Each C rank of a matched obligation is k where a matching run with k steps inside exists and none with fewer; all other C ranks are 0.
pub record MatchRanks (v : View) (C : ℕ → ℕ → ℕ) : Type 0 where
  pub some-run : (j t : ℕ) → j < v.own.steps → t < v.other.states → Matched v j t → (K : List ℕ) × MatchingRun v j t K × (length K ≡ C j t)
  pub none-fewer : (j t : ℕ) → j < v.own.steps → t < v.other.states → (K : List ℕ) → MatchingRun v j t K → C j t ≤ length K
  pub no_run : (j t : ℕ) → j < v.own.steps → t < v.other.states → (¬ Matched v j t) → C j t ≡ 0

-- Each A rank of a related pair is k where a chain of k steps exists and none longer; all other A ranks are 0.
pub record StutterRanks (v : View) (A : ℕ → ℕ → ℕ) : Type 0 where
  pub some_chain : (s t : ℕ) → s < v.own.states → t < v.other.states → T (v.related s t) → (J : List ℕ) × StutteringChain v t s J × (length J ≡ A s t)
  pub none-longer : (s t : ℕ) → s < v.own.states → t < v.other.states → T (v.related s t) → (J : List ℕ) → StutteringChain v t s J → length J ≤ A s t
  pub unrelated : (s t : ℕ) → s < v.own.states → t < v.other.states → (¬ T (v.related s t)) → A s t ≡ 0
