-- One side of two tables: the table's header, labels, steps and keys, the states related to each own state, and the steps linked by the state that they
-- leave. Everything is read off by a total accessor: past the end of an array stands 0.
use Rattle.std.specs.Prelude.{ℕ, zero, suc, min, Bool, cond, List, [], ◌∷◌, ltb, eqb, get_or}
use Rattle.words.specs.Bits.{has_bit, first_bit}
use Rattle.bisimulation.specs.Systems.{System}
use Rattle.tables.specs.Table.{max_states, max_steps}
use Rattle.sides.specs.declared.Side.{Side}
use Rattle.sides.specs.declared.StepsFrom.{StepsFrom}

-- ---- what is read off

-- The key of step j.
abbrev pub key_at : Side → ℕ → ℕ
key_at side j = get_or side.key j 0

-- The system that the side holds; a step is silent where its key is 0. Numbers above the limits count as the limits.
abbrev pub system_in : Side → System
system_in side =
    record {
      states = min side.states max_states;
      steps = min side.steps max_steps;
      initial = has_bit side.initial.0;
      label = λ s. get_or side.label s 0;
      from = λ j. get_or side.from j 0;
      to = λ j. get_or side.to j 0;
      silent = λ j. eqb (key_at side j) 0;
    }

-- The start: the smallest initial state, and 64 where there is none.
abbrev pub start_in : Side → ℕ
start_in side = first_bit side.initial.0

-- Whether the table has a start word.
abbrev pub start_word_in : Side → Bool
start_word_in side = side.word

-- The word of the states related to s: none to a state of 64 or more.
unfoldable pub related_to : Side → ℕ → ℕ
related_to side s = cond (ltb s max_states) (get_or side.related s 0) 0

-- The word of the states that silent steps from s enter.
abbrev pub silent_from : Side → ℕ → ℕ
silent_from side s = get_or side.silent s 0

-- The first step from s, and 256 where there is none.
abbrev pub first_step : Side → ℕ → ℕ
first_step side s = get_or side.first s max_steps

-- The link of step j, and the step after j from the same state, 256 where there is none: a link leads to a later step, or nowhere.
abbrev pub link_at : Side → ℕ → ℕ
link_at side j = get_or side.next j 0

unfoldable pub next_step : Side → ℕ → ℕ
next_step side j = cond (ltb j (link_at side j)) (link_at side j) max_steps

-- The states that step j and the later steps with its key from the same state enter.
abbrev pub group_at : Side → ℕ → ℕ
group_at side j = get_or side.group j 0

-- The steps that the links lead along, from step j on, at most k of them.
unfoldable pub linked_from : Side → ℕ → ℕ → List ℕ
linked_from side zero j = []
linked_from side (suc k) j = cond (ltb j max_steps) (j ∷ linked_from side k (next_step side j)) []

-- From the first step from s on: in a side of a table these are the steps from s in table order. No more than 256 can be met, since links rise.
unfoldable pub steps_in : Side → ℕ → List ℕ
steps_in side s = linked_from side max_steps (first_step side s)

-- The steps that a walk has left: those from the step on to which its link leads, and none where that is below the least.
unfoldable pub steps_left : StepsFrom → List ℕ
steps_left walk = cond (ltb walk.next walk.least) [] (linked_from walk.side.now max_steps walk.next)

-- The word of the first of the steps that has this key, and the empty word where none has it.
unfoldable pub group_along : Side → ℕ → List ℕ → ℕ
group_along side key [] = 0
group_along side key (j ∷ js) = cond (eqb (key_at side j) key) (group_at side j) (group_along side key js)

-- The word of the states that steps with this key from s enter, found along the links; for silent steps it stands by itself.
unfoldable pub entered_by : Side → ℕ → ℕ → ℕ
entered_by side s key = cond (eqb key 0) (silent_from side s) (group_along side key (steps_in side s))
