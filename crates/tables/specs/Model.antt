-- The system that a table's bytes give. A step is silent where its key is 0, so every step of a table without keys.
use Rattle.std.specs.Prelude.{ℕ, List, eqb}
use Rattle.words.specs.Bits.{has_bit}
use Rattle.bisimulation.specs.Systems.{System}
use Rattle.tables.specs.Table.{format_in, states_of, steps_of, initial_of, labels_part, label_of, from_in, to_in, key_in}

unfoldable pub system_of : List ℕ → System
system_of s =
    record {
      states = states_of s;
      steps = steps_of s;
      initial = has_bit (initial_of s);
      label = label_of (format_in s) (labels_part s);
      from = from_in s;
      to = to_in s;
      silent = λ j. eqb (key_in s j) 0;
    }
