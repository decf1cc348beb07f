-- What a side is, as its maker promises it for whatever is given, and what that comes to for a table that is read.
use Rattle.std.specs.Prelude.{ℕ, suc, ◌^◌, ◌≤◌, ◌<◌, min, ◌≡◌, Bool, cond, ◌&&◌, List, length, leb, ltb, eqb, get_or}
use Rattle.lists.specs.Below.{any_below}
use Rattle.words.specs.Bits.{has_bit}
use Rattle.bisimulation.specs.Systems.{System, steps_from}
use Rattle.tables.specs.Table.{max_states, max_steps, layout_of, label_of, from_of, to_of, key_of}
use Rattle.tables.specs.declared.Head.{Head}
use Rattle.sides.specs.declared.Side.{Side}
use Rattle.sides.specs.Side.{system_in, key_at, silent_from, first_step, link_at, group_at, steps_in, entered_by}

-- The first n of the words are those of the function, the others zeros.
pub record FilledUpTo (words : List ℕ) (f : ℕ → ℕ) (n : ℕ) : Type 0 where
  pub words_are : (i : ℕ) → get_or words i 0 ≡ cond (ltb i n) (f i) 0

-- The links have room for each state and each step.
pub record Roomy (side : Side) : Type 0 where
  pub silent-room : length side.silent ≡ max_states
  pub first-room : length side.first ≡ max_states
  pub next-room : length side.next ≡ max_steps
  pub group-room : length side.group ≡ max_steps

-- k is the first step from s that is numbered a or more, and 256 where there is none.
pub record NextFrom (S : System) (s a k : ℕ) : Type 0 where
  pub reached : a ≤ k
  pub none : (i : ℕ) → a ≤ i → i < k → i < S.steps → S.from i ≡ s → ⊥
  pub here : k < max_steps → (k < S.steps) × (S.from k ≡ s)

-- A step with this key goes from s to u: step k of the system with these keys.
abbrev pub goes_by : System → (keys : ℕ → ℕ) → (s key u k : ℕ) → Bool
goes_by S keys s key u k = eqb (S.from k) s && (eqb key (keys k) && eqb (S.to k) u)

-- The steps numbered a or more are linked, and the states that they enter known by their key, for each state below 64. A step from any other state has no link.
pub record LinkedFrom (S : System) (keys : ℕ → ℕ) (a : ℕ) (side : Side) : Type 0 where
  pub roomy : Roomy side
  pub first : (s : ℕ) → s < max_states → NextFrom S s a (first_step side s)
  pub next : (j : ℕ) → a ≤ j → j < S.steps → S.from j < max_states → NextFrom S (S.from j) (suc j) (link_at side j)
  pub next-none : (j : ℕ) → a ≤ j → j < S.steps → max_states ≤ S.from j → link_at side j ≡ max_steps
  pub silent : (s : ℕ) → s < max_states → (u : ℕ) → u < max_states
      → has_bit (silent_from side s) u ≡ any_below S.steps (λ k. leb a k && goes_by S keys s 0 u k)
  pub group : (j : ℕ) → a ≤ j → j < S.steps → S.from j < max_states → (keys j ≡ 0 → ⊥) → (u : ℕ) → u < max_states
      → has_bit (group_at side j) u ≡ any_below S.steps (λ k. leb j k && goes_by S keys (S.from j) (keys j) u k)
  pub silent< : (s : ℕ) → silent_from side s < 2 ^ 64
  pub group< : (j : ℕ) → group_at side j < 2 ^ 64

-- Header, labels, steps and related states are there.
pub record TableIn (h : Head) (labels steps words : List ℕ) (side : Side) : Type 0 where
  pub states-is : side.states ≡ h.states
  pub steps-is : side.steps ≡ h.steps
  pub initial-is : side.initial.0 ≡ h.initial.0
  pub word-is : side.word ≡ (layout_of h.format).word
  pub related-is : side.related ≡ words
  pub labels-are : FilledUpTo side.label (label_of h.format labels) max_states
  pub from-are : FilledUpTo side.from (from_of h.format steps) (min h.steps max_steps)
  pub to-are : FilledUpTo side.to (to_of h.format steps) (min h.steps max_steps)
  pub keys-are : FilledUpTo side.key (key_of h.format steps) (min h.steps max_steps)

-- The side that a header, the parts that hold labels and steps, and words of related states give. Of labels the first 64 count, and of steps as many as the
-- header says, at most 256.
pub record SideOf (h : Head) (labels steps words : List ℕ) (side : Side) : Type 0 where
  pub table : TableIn h labels steps words side
  pub linked : LinkedFrom (system_in side) (key_at side) 0 side

-- What the side of a table that is read is besides its system: the ends of its steps are below 64, its links lead along the steps from each state in
-- table order, and it knows the states that these enter, by their key.
pub record Linked (side : Side) : Type 0 where
  pub from< : (j : ℕ) → j < (system_in side).steps → (system_in side).from j < max_states
  pub to< : (j : ℕ) → j < (system_in side).steps → (system_in side).to j < max_states
  pub steps-are : (s : ℕ) → steps_in side s ≡ steps_from (system_in side) s
  pub entered-are : (s key u : ℕ) → has_bit (entered_by side s key) u ≡ any_below (system_in side).steps (goes_by (system_in side) (key_at side) s key u)
  pub entered< : (s key : ℕ) → entered_by side s key < 2 ^ 64

-- The side of a table without keys: every step is silent.
pub record PlainSide (side : Side) : Type 0 where
  pub linked : Linked side
  pub no_keys : (j : ℕ) → key_at side j ≡ 0
