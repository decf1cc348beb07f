-- Ask 3 of document 02 on bytes, for any three files, any side, start and path, and any two outputs: a run is followed on the other model.
use Rattle.outcomes.specs.declared.Outcome.TheVariants.{Met}
use Rattle.std.specs.Prelude.{ℕ, suc, ◌+◌, ◌*◌, ◌≤◌, ◌<◌, ◌≡◌, cond, List, [], ◌∷◌, map, eqb, length, drop}
use Rattle.lists.specs.Below.{Smallest}
use Rattle.lists.specs.Lists.{join_below}
use Rattle.lists.specs.Numbers.{byte_at, big_endian}
use Rattle.bisimulation.specs.Systems.{System, View, Ranks, Terminal, Step as IsStep}
use Rattle.bisimulation.specs.PathProperty.{MatchingPath}
use Rattle.bisimulation.specs.PathMatching.{Entry, numbered_from}
use Rattle.answers.specs.Numbers.{six_numbers}
use Rattle.answers.specs.Causes.{NoCause, Answers}
use Rattle.answers.specs.declared.Answer.{Answer}
use Rattle.outcomes.specs.declared.Clause.TheVariants.{Step, Stutter, Match}
use Rattle.obligations.specs.Outcomes.{HasOutcome}
use Rattle.table_reader.specs.declared.Known.TheVariants.{Plain}
use Rattle.checker.specs.JudgeCauses.{known_judge_causes}
use Rattle.path_matcher.specs.Following.{given_along, matched_along, followed_view, followed_ranks}
use Rattle.path_matcher.specs.FollowCauses.{WrongPath, WrongStart, follow_causes}

-- ---- what stands in the outputs

-- The first states of the one output, three bytes a state: the state and its 16-bit block number, the high byte first.
unfoldable pub entries_in : (states : List ℕ) → (count : ℕ) → List Entry
entries_in states count = join_below count (λ i. record { state = byte_at states (3 * i); block = big_endian states (3 * i + 1) 2 } ∷ [])

-- The states of the given path, each with the 16-bit block number that the other output has for it.
unfoldable pub given_in : (path blocks : List ℕ) → List Entry
given_in path blocks = join_below (length path) (λ i. record { state = byte_at path i; block = big_endian blocks (2 * i) 2 } ∷ [])

-- The states that have the block number n, in their order.
unfoldable pub states_numbered : ℕ → List Entry → List ℕ
states_numbered n [] = []
states_numbered n (e ∷ es) = cond (eqb e.block n) (e.state ∷ states_numbered n es) (states_numbered n es)

-- The number of the last state.
unfoldable pub last_number : List Entry → ℕ
last_number [] = 0
last_number (e ∷ []) = e.block
last_number (e ∷ f ∷ es) = last_number (f ∷ es)

-- The blocks that the numbers tell: the states numbered 0, those numbered 1, and so on, up to the number of the last state.
unfoldable pub blocks_of : List Entry → List (List ℕ)
blocks_of l = join_below (suc (last_number l)) (λ i. states_numbered i l ∷ [])

-- ---- how a run is followed

-- The step j goes from s to u.
abbrev pub Goes : System → (j s u : ℕ) → Type 0
Goes S j s u = (j < S.steps) × (S.from j ≡ s) × (S.to j ≡ u)

-- A state with the number of its block.
abbrev pub numbered : (state block : ℕ) → Entry
numbered x n = record { state = x; block = n }

-- The given path stands at s, with the states p to come, and the matching one at t, both in the block n. These states come next on either, each in its block.
-- It prefers 2a, then 2b, then 2c, with the smallest state each time: the outcome of the obligation, as the judge has it.
pub data Next (v : View) (r : Ranks) : (s : ℕ) → (p : List ℕ) → (t n : ℕ) → (given matched : List Entry) → Type 0 where
  -- By 2a both go on, and a new block begins.
  by-2a : {s u t x j n : ℕ} {p : List ℕ} {given matched : List Entry} → Goes v.own j s u → HasOutcome v r j t (Met Step x)
      → Next v r u p x (n + 1) given matched → Next v r s (u ∷ p) t n (numbered u (n + 1) ∷ given) (numbered x (n + 1) ∷ matched)
  -- By 2b the given path goes on.
  by-2b : {s u t j n : ℕ} {p : List ℕ} {given matched : List Entry} → Goes v.own j s u → HasOutcome v r j t (Met Stutter t)
      → Next v r u p t n given matched → Next v r s (u ∷ p) t n (numbered u n ∷ given) matched
  -- By 2c the matching one does.
  by-2c : {s u t x j n : ℕ} {p : List ℕ} {given matched : List Entry} → Goes v.own j s u → HasOutcome v r j t (Met Match x)
      → Next v r s (u ∷ p) x n given matched → Next v r s (u ∷ p) t n given (numbered x n ∷ matched)
  -- Where the given path ends in a dead end, the matching one goes on by the smallest step.
  by-steps : {s t x n : ℕ} {given matched : List Entry} → Terminal v.own s → Smallest (IsStep v.other t) x
      → Next v r s [] x n given matched → Next v r s [] t n given (numbered x n ∷ matched)
  -- It ends in a dead end itself where the given path does.
  ends : {s t n : ℕ} → (Terminal v.own s → Terminal v.other t) → Next v r s [] t n [] []

-- ---- what stands in the outputs afterwards

-- What is written, beside the given path, is a matching path, and the block numbers are those of its blocks. Demand 3 has a matching path for every path;
-- this is the one whose states and blocks stand in the outputs.
pub record FollowedBy (v : View) (r : Ranks) (path : List ℕ) (start : ℕ) (given matched : List Entry) : Type 0 where
  -- A path from the start that matches the given one, and the blocks of the two: demand 3's own.
  pub matching : MatchingPath v (byte_at path 0) (drop 1 path) start
  -- The states written are the matching path's.
  pub states-are : start ∷ matching.q ≡ map (λ e. e.state) matched
  -- Demand 3's blocks, of either path, are those that the numbers tell: block i has the states with the number i, in their order.
  pub blocks-are : matching.blocks ≡ blocks_of given
  pub blocks-are' : matching.blocks' ≡ blocks_of matched
  -- The numbers count the blocks along the path from 0: first the states of block 0, then those of block 1, and so on.
  pub numbers : given ≡ numbered_from 0 matching.blocks
  pub numbers' : matched ≡ numbered_from 0 matching.blocks'
  -- After the first of each, the states come as the clauses say.
  pub next : Next v r (byte_at path 0) (drop 1 path) start 0 (drop 1 given) (drop 1 matched)

-- None of the causes of a judge that knows "TPT" alone applies, and neither do 25 and 26.
abbrev pub Followable : (left right c : List ℕ) → (side start : ℕ) → (path : List ℕ) → Type 0
Followable left right c side start path =
    NoCause (known_judge_causes Plain left right c)
    × (¬ WrongPath side (followed_view left right c side).own path)
    × (¬ WrongStart (followed_view left right c side) path start)

-- What the answer and the outputs afterwards are, for these inputs and outputs.
pub record FollowExact (left right c : List ℕ) (side start : ℕ) (path states blocks : List ℕ) (answer : Answer)
    (states' blocks' : List ℕ) : Type 0 where
  -- The answer is that of the first cause that applies, the judge's own before 25, 26 and 27; where none does, it is 0, 0 and the states written.
  pub answers : Answers (follow_causes left right c side start path states blocks) (λ a. a ≡ six_numbers 0 0 a.a) answer
  -- The judge knows "TPT" alone here, so 30 never comes.
  pub not-30 : ¬ (answer.code ≡ 30)
  -- A refusal leaves both outputs untouched.
  pub untouched : ¬ (answer.code ≡ 0) → (states' ≡ states) × (blocks' ≡ blocks)
  -- On success the outputs hold a matching path and the blocks of both.
  pub followed : answer.code ≡ 0 → FollowedBy (followed_view left right c side) (followed_ranks left right c side) path start
      (given_in path blocks') (entries_in states' answer.a)
  -- The bytes after what is written stay, and so do the outputs' lengths.
  pub rest-stays : answer.code ≡ 0
      → (drop (3 * answer.a) states' ≡ drop (3 * answer.a) states) × (drop (2 * length path) blocks' ≡ drop (2 * length path) blocks)
  pub lengths-stay : (length states' ≡ length states) × (length blocks' ≡ length blocks)
  -- The states for which 27 asks for room are those of such a path.
  pub room_for : Followable left right c side start path
      → FollowedBy (followed_view left right c side) (followed_ranks left right c side) path start
      (given_along (followed_view left right c side) (followed_ranks left right c side) path start)
      (matched_along (followed_view left right c side) (followed_ranks left right c side) path start)
  -- At most 256 times 64 states are written, so with 49,152 and 512 bytes 27 never comes.
  pub most : answer.code ≡ 0 → answer.a ≤ 16_384
  pub enough : Followable left right c side start path → 49_152 ≤ length states → 512 ≤ length blocks → answer.code ≡ 0
