-- The smallest case where document 01's clause 2c and the paper's part: two states of one label with the steps 0-1 and 1-0, against
-- themselves, with the relation rows 3 and 1.
use Rattle.std.specs.Prelude.{ℕ, Bool, true, false, [], ◌∷◌, eqb, get_or}
use Rattle.bisimulation.specs.Systems.{System, View}

-- State 0 steps to 1, and 1 to 0; state 0 is initial; both have the label 0.
unfoldable pub two_states : System
two_states =
    record {
      states = 2;
      steps = 2;
      initial = λ s. eqb s 0;
      label = λ s. 0;
      from = λ j. get_or (0 ∷ 1 ∷ []) j 0;
      to = λ j. get_or (1 ∷ 0 ∷ []) j 0;
      silent = λ j. true;
    }

-- 0 is related to 0 and to 1, and 1 to 0.
unfoldable pub two_rows : ℕ → ℕ → Bool
two_rows s t = get_or (get_or ((true ∷ true ∷ []) ∷ (true ∷ false ∷ []) ∷ []) s []) t false

unfoldable pub two_two : View
two_two = record { own = two_states; other = two_states; related = two_rows; serves = λ j k. true }
