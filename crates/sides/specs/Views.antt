-- The theory's view that two sides hold.
use Rattle.std.specs.Prelude.{eqb}
use Rattle.words.specs.Bits.{has_bit}
use Rattle.bisimulation.specs.Systems.{View}
use Rattle.sides.specs.declared.Side.{Side}
use Rattle.sides.specs.Side.{system_in, key_at, related_to}

-- Two systems and their relation, which is that of our words; a step serves another where their keys are equal.
abbrev pub view_in : (ours theirs : Side) → View
view_in ours theirs =
    record {
      own = system_in ours;
      other = system_in theirs;
      related = λ s t. has_bit (related_to ours s) t;
      serves = λ j k. eqb (key_at ours j) (key_at theirs k);
    }
