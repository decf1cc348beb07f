-- A path followed on the other system (document 02, Ask 3): the path matcher's cut read as states, each with the number of its block; blocks count from 0.
-- The given path is s and then p, and the matching path begins at t.
use Rattle.std.specs.Prelude.{ℕ, suc, List, [], ◌∷◌, ◌++◌, map}
use Rattle.bisimulation.specs.Matcher.{match_path}
use Rattle.bisimulation.specs.StepPaths.{Cut, state_blocks}
use Rattle.bisimulation.specs.Systems.{System, View, Ranks}
use Rattle.bisimulation.specs.Triples.{step_of}

-- The steps of the path s, p: from each state the step to the next.
unfoldable pub steps_along : System → ℕ → List ℕ → List ℕ
steps_along S s [] = []
steps_along S s (u ∷ p) = step_of S s u ∷ steps_along S u p

-- A state of a path, with the number of its block.
pub record Entry : Type 0 where
  pub state : ℕ
  pub block : ℕ

-- The states of one block, which has the number n.
abbrev pub in_block : ℕ → List ℕ → List Entry
in_block n = map (λ x. record { state = x; block = n })

-- The states of the blocks, one block after the other; the first has the number n.
unfoldable pub numbered_from : ℕ → List (List ℕ) → List Entry
numbered_from n [] = []
numbered_from n (b ∷ bs) = in_block n b ++ numbered_from (suc n) bs

module _ (v : View) (r : Ranks) (s : ℕ) (p : List ℕ) (t : ℕ) where
  -- Both paths, as the path matcher cuts them.
  unfoldable pub followed : Cut
  followed = match_path v r s (steps_along v.own s p) t

  -- The blocks of the given path, and those of the matching one.
  abbrev pub given_blocks : List (List ℕ)
  given_blocks = state_blocks v.own s followed.first followed.later

  abbrev pub matching_blocks : List (List ℕ)
  matching_blocks = state_blocks v.other t followed.first' followed.later'

  -- The states of the two paths, each with the number of its block.
  unfoldable pub given_entries : List Entry
  given_entries = numbered_from 0 given_blocks

  unfoldable pub matching_entries : List Entry
  matching_entries = numbered_from 0 matching_blocks
