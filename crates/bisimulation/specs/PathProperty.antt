-- The path property, in the user's words (demand 3), for tables whose steps have no keys:
-- the starts are related, related states have equal marks, and, for every related pair and every finite path from either state, the other
-- state has a path, and the two can be cut into blocks, such that four things hold together.
use Rattle.std.specs.Prelude.{ℕ, ◌<◌, ◌≤◌, ◌≡◌, ◌≢◌, T, length, get_or}
use mathlib.Core.List.{List, [], ◌∷◌, flatten}
use Rattle.lists.specs.Lists.{All}
use Rattle.bisimulation.specs.Systems.{System, Step, Terminal, View, flip, StartsRule, LabelsEqual}

-- A path is a list of one or more states of one table, each stepping to the next; it is a path from its first state.
abbrev pub IsPath : System → List ℕ → Type 0
IsPath S [] = ⊥
IsPath S (s ∷ []) = s < S.states
IsPath S (s ∷ u ∷ p) = (s < S.states) × Step S s u × IsPath S (u ∷ p)

-- The state in which the path s, p ends.
abbrev pub last_state : ℕ → List ℕ → ℕ
last_state s [] = s
last_state s (u ∷ p) = last_state u p

-- The block with the number i; blocks are numbered from 0.
abbrev pub block : List (List ℕ) → ℕ → List ℕ
block blocks i = get_or blocks i []

-- What is asked of the blocks of an own path and of the other's path.
pub record SameBlocks (v : View) (blocks blocks' : List (List ℕ)) : Type 0 where
  -- Both paths have equally many blocks, none empty.
  pub equally-many : length blocks ≡ length blocks'
  pub none-empty : All (λ b. b ≢ []) blocks
  pub none-empty' : All (λ b. b ≢ []) blocks'
  -- No block has more states than the table its path is in.
  pub small : All (λ b. length b ≤ v.own.states) blocks
  pub small' : All (λ b. length b ≤ v.other.states) blocks'
  -- Every state of a block is related to every state of the same-numbered block of the other path.
  pub related : (i : ℕ) → All (λ x. All (λ y. T (v.related x y)) (block blocks' i)) (block blocks i)

-- The own path s, p and a path t, q of the other can be cut into such blocks.
pub record MatchingPath (v : View) (s : ℕ) (p : List ℕ) (t : ℕ) : Type 0 where
  -- The other state has a path.
  pub q : List ℕ
  pub path : IsPath v.other (t ∷ q)
  -- Each block is a stretch of neighbouring states, and the blocks, one after the other, make up the path.
  pub blocks : List (List ℕ)
  pub blocks' : List (List ℕ)
  pub cut : flatten blocks ≡ s ∷ p
  pub cut' : flatten blocks' ≡ t ∷ q
  pub same : SameBlocks v blocks blocks'
  -- The other state's path ends in a dead end if the given one does.
  pub terminal : Terminal v.own (last_state s p) → Terminal v.other (last_state t q)

-- For every related pair and every finite path from the own state there is a matching path from the other.
abbrev pub PathsMatched : View → Type 0
PathsMatched v = (s t : ℕ) → T (v.related s t) → (p : List ℕ) → IsPath v.own (s ∷ p) → MatchingPath v s p t

pub record PathProperty (v : View) : Type 0 where
  -- The starts are related: each start of either table to some start of the other.
  pub starts : StartsRule v
  -- Related states have equal marks.
  pub labels : LabelsEqual v
  -- Paths from either state of a related pair are matched.
  pub own-paths : PathsMatched v
  pub other-paths : PathsMatched (flip v)
