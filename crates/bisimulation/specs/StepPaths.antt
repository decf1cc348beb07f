-- The path property where a path names its steps too (document 02, Ask 9): the blocks of states are those of the plain one, and it adds that steps inside
-- blocks are silent and that the steps that enter same-numbered blocks have equal keys. Keys are told by the view: a step serves one with an equal key.
-- A path from s is the list of its steps.
use Rattle.std.specs.Prelude.{ℕ, ◌<◌, ◌≡◌, T, length, get_or}
use mathlib.Core.List.{List, [], ◌∷◌, ◌++◌, map, tail, flatten}
use Rattle.lists.specs.Lists.{All}
use Rattle.bisimulation.specs.Systems.{System, Terminal, View, flip, StartsRule, LabelsEqual}
use Rattle.bisimulation.specs.PathProperty.{SameBlocks, block}

-- The steps can be taken one after the other from s.
abbrev pub StepPath : System → ℕ → List ℕ → Type 0
StepPath S s [] = Unit {0}
StepPath S s (j ∷ J) = (j < S.steps) × (S.from j ≡ s) × StepPath S (S.to j) J

-- The state in which they end.
abbrev pub end_state : System → ℕ → List ℕ → ℕ
end_state S s [] = s
end_state S s (j ∷ J) = end_state S (S.to j) J

-- A cut of the own steps and of the other's: the steps inside the first block, and for each later block the step that enters it with those inside it.
pub record Cut : Type 0 where
  pub first : List ℕ
  pub later : List (List ℕ)
  pub first' : List ℕ
  pub later' : List (List ℕ)

abbrev pub own_steps : Cut → List ℕ
own_steps x = x.first ++ flatten x.later

abbrev pub other_steps : Cut → List ℕ
other_steps x = x.first' ++ flatten x.later'

-- The blocks of states that the steps pass through from s.
abbrev pub state_blocks : System → ℕ → List ℕ → List (List ℕ) → List (List ℕ)
state_blocks S s first later = (s ∷ map S.to first) ∷ map (map S.to) later

-- The step that enters the later block i.
abbrev pub entering : List (List ℕ) → ℕ → ℕ
entering later i = get_or (block later i) 0 0

-- The steps inside blocks are silent.
pub record SilentInside (S : System) (first : List ℕ) (later : List (List ℕ)) : Type 0 where
  pub in-first : All (λ j. T (S.silent j)) first
  pub in-later : All (λ b. All (λ j. T (S.silent j)) (tail b)) later

-- The cut is one of the own path J from s and of a matching path of the other from t.
pub record Fits (v : View) (s : ℕ) (J : List ℕ) (t : ℕ) (x : Cut) : Type 0 where
  -- Its own steps are the path's, and the other's are a path from t.
  pub cut : own_steps x ≡ J
  pub path : StepPath v.other t (other_steps x)
  -- The blocks of states are as in the plain property: equally many, none empty, none with more states than its table, and every state of a block related
  -- to every state of the same-numbered block.
  pub same : SameBlocks v (state_blocks v.own s x.first x.later) (state_blocks v.other t x.first' x.later')
  -- The steps inside blocks are silent, on both paths.
  pub silent : SilentInside v.own x.first x.later
  pub silent' : SilentInside v.other x.first' x.later'
  -- The steps that enter same-numbered blocks have equal keys: they serve each other.
  pub entered : (i : ℕ) → i < length x.later → T (v.serves (entering x.later i) (entering x.later' i))
  -- The other path ends in a dead end if the given one does.
  pub terminal : Terminal v.own (end_state v.own s J) → Terminal v.other (end_state v.other t (other_steps x))

-- For every related pair and every finite path from the own state there is a matching path from the other.
abbrev pub StepPathsMatched : View → Type 0
StepPathsMatched v = (s t : ℕ) → T (v.related s t) → (J : List ℕ) → StepPath v.own s J → (x : Cut) × Fits v s J t x

pub record StepPathProperty (v : View) : Type 0 where
  -- The starts are related: each start of either table to some start of the other.
  pub starts : StartsRule v
  -- Related states have equal marks.
  pub labels : LabelsEqual v
  -- Paths from either state of a related pair are matched.
  pub own-paths : StepPathsMatched v
  pub other-paths : StepPathsMatched (flip v)
