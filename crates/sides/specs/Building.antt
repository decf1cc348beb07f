-- Inner: a side before its steps are linked, and what linking one step more comes to.
use Rattle.std.specs.Prelude.{ℕ, ◌≡◌, cond, List, eqb, set}
use Rattle.words.specs.Bits.{add_bit}
use Rattle.tables.specs.Table.{max_steps}
use Rattle.tables.specs.declared.Head.{Head}
use Rattle.sides.specs.declared.Side.{Side}
use Rattle.sides.specs.Built.{TableIn, Roomy}
use Rattle.sides.specs.Side.{system_in, key_at, silent_from, group_at, entered_by, first_step}

-- Everything but the links is there.
pub record Unlinked (h : Head) (labels steps words : List ℕ) (side : Side) : Type 0 where
  pub table : TableIn h labels steps words side
  pub roomy : Roomy side
  pub no-first : (s : ℕ) → first_step side s ≡ max_steps
  pub no-silent : (s : ℕ) → silent_from side s ≡ 0
  pub no-group : (j : ℕ) → group_at side j ≡ 0

-- The side with these links in place of its own.
abbrev pub with_links : Side → (silent first next group : List ℕ) → Side
with_links side silent first next group =
    record {
      states = side.states;
      steps = side.steps;
      initial = side.initial;
      word = side.word;
      related = side.related;
      silent = silent;
      first = first;
      label = side.label;
      next = next;
      from = side.from;
      to = side.to;
      key = side.key;
      group = group;
    }

-- The word of the states that steps with the key of step j from s enter, from j on: a silent step's stands at s, any other's at j.
abbrev pub put_entered : Side → (s j key x : ℕ) → Side
put_entered side s j key x =
    with_links side (cond (eqb key 0) (set side.silent s x) side.silent) side.first side.next (cond (eqb key 0) side.group (set side.group j x))

-- The side with step j linked, and with those words: the step is the first from the state that it leaves, and the one that was first is the next after it.
abbrev pub put_linked : Side → (s j key x : ℕ) → Side
put_linked side s j key x =
    let entered = put_entered side s j key x in
    with_links side entered.silent (set side.first s j) (set side.next j (first_step side s)) entered.group

-- The state that step j enters is added to those that steps with its key from the same state enter.
unfoldable pub relinked : Side → ℕ → Side
relinked side j =
    let S = system_in side in
    let key = key_at side j in
    put_linked side (S.from j) j key (add_bit (entered_by side (S.from j) key) (S.to j))
