-- Ask 10 of document 02 on bytes: how the set of a step grows, in the document's words, and that the two makers are equal.
use Rattle.std.specs.Prelude.{ℕ, suc, ◌≤◌, ◌≡◌, ◌↔◌, List, [], T, length}
use Rattle.words.specs.Bits.{has_bit}
use Rattle.bisimulation.specs.Systems.{View}
use Rattle.bisimulation.specs.Runs.{MatchingRun, Matched}
use Rattle.answers.specs.declared.Answer.{Answer}
use Rattle.ranking.specs.Make.{make_answer, make_output}

-- ---- the set of the own step j: a word of the other's states, `sets k` after k rounds

pub record SetGrows (v : View) (j : ℕ) (sets : ℕ → ℕ) : Type 0 where
  -- "The set begins with chase length 0": a list with no step inside matches the step.
  pub begins : (t : ℕ) → T (has_bit (sets 0) t) ↔ MatchingRun v j t []
  -- It "holds after k rounds exactly the states with a chase length of at most k": a list with at most k steps inside matches it.
  pub holds : (k t : ℕ) → T (has_bit (sets k) t) ↔ ((K : List ℕ) × MatchingRun v j t K × (length K ≤ k))
  -- It "is done when it stops growing": then it holds every state at which the step is matched.
  pub done : (k : ℕ) → sets (suc k) ≡ sets k → (t : ℕ) → T (has_bit (sets k) t) ↔ Matched v j t

-- ---- both makers

-- What a maker promises of its six numbers and of the output afterwards; the contracts of `make` and of `make_by_sets` are these two equations.
pub record Makes (left right relation output : List ℕ) (answer : Answer) (after : List ℕ) : Type 0 where
  pub numbers : answer ≡ make_answer left right relation output
  pub bytes : after ≡ make_output left right relation output
