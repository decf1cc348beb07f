-- Inner: the states from which steps enter a state or a set of states, as far as the loops that collect them have come.
use Rattle.std.specs.Prelude.{ℕ, ◌^◌, ◌<◌, ◌≡◌, Bool, cond, ◌&&◌, List, T, ltb, eqb, length, get_or, set}
use Rattle.words.specs.Bits.{has_bit, add_bit}
use Rattle.bisimulation.specs.Systems.{System}
use Rattle.tables.specs.Table.{max_states}
use Rattle.sides.specs.declared.Side.{Side}
use Rattle.sides.specs.Side.{system_in, key_at}

-- The words with x in the word of y; a state of 64 or more has no word.
unfoldable pub with_predecessor : List ℕ → ℕ → ℕ → List ℕ
with_predecessor words y x = cond (ltb y max_states) (set words y (add_bit (get_or words y 0) x)) words

-- The word of y has the states from which a silent one of the first m steps enters y.
pub record Predecessors (S : System) (m : ℕ) (words : List ℕ) : Type 0 where
  pub room : length words ≡ max_states
  pub words< : (y : ℕ) → get_or words y 0 < 2 ^ 64
  pub step : (x y : ℕ) → T (has_bit (get_or words y 0) x) → (e : ℕ) × (e < m) × T (S.silent e) × (S.from e ≡ x) × (S.to e ≡ y)
  pub all : (e : ℕ) → e < m → T (S.silent e) → S.from e < max_states → S.to e < max_states → T (has_bit (get_or words (S.to e) 0) (S.from e))

-- The states found are in the word of some state of the set, and all of those in the word of a state of the set below u are found.
pub record ComeFrom (words : List ℕ) (states u found : ℕ) : Type 0 where
  pub found< : found < 2 ^ 64
  pub into : (x : ℕ) → T (has_bit found x) → (y : ℕ) × T (has_bit states y) × T (has_bit (get_or words y 0) x)
  pub all : (x y : ℕ) → y < u → T (has_bit states y) → T (has_bit (get_or words y 0) x) → T (has_bit found x)

-- Their step e has this key and enters a state of the target.
unfoldable pub enters_by : (theirs : Side) (key target e : ℕ) → Bool
enters_by theirs key target e = eqb (key_at theirs e) key && has_bit target ((system_in theirs).to e)

-- The states found are those from which one of their first m steps, with this key, enters a state of the target.
pub record EnterBy (theirs : Side) (key target m found : ℕ) : Type 0 where
  pub found< : found < 2 ^ 64
  pub step : (x : ℕ) → T (has_bit found x) → (e : ℕ) × (e < m) × T (enters_by theirs key target e) × ((system_in theirs).from e ≡ x)
  pub all : (e : ℕ) → e < m → T (enters_by theirs key target e) → (system_in theirs).from e < max_states → T (has_bit found ((system_in theirs).from e))
