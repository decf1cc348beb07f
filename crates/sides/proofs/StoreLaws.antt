-- Laws of a store in a side: the place stored at has the word, and nothing else has changed. Assumes nothing.
use Prim.Native.Nat.{ℕ, ◌<◌}
use mathlib.Core.Path.{◌≡◌, refl}
use mathlib.Core.List.{List}
use lib.ListN.{length, set, get_or}
use lib.Seq.{get_or-set_same, get_or-set_other}
use borrow.Author.Tests.{eq-eqb, ne_eqb}
use Rattle.sides.specs.declared.Side.{Side}
use Rattle.sides.specs.Side.{first_step}
use Rattle.sides.specs.Building.{put_entered, put_linked, relinked}

-- ---- within a part; `past` is what is read past its end

module _ (l : List ℕ) (i x past : ℕ) where
  pub put_same : i < length l → get_or (set l i x) i past ≡ x
  put_same h = get_or-set_same l i x past h

  pub put_other : (k : ℕ) → (k ≡ i → ⊥) → get_or (set l i x) k past ≡ get_or l k past
  put_other k d = get_or-set_other l i k x past d

-- ---- the other parts

-- What the links are not part of is the same.
pub record Apart (side side' : Side) : Type 0 where
  pub states : side'.states ≡ side.states
  pub steps : side'.steps ≡ side.steps
  pub initial : side'.initial ≡ side.initial
  pub word : side'.word ≡ side.word
  pub related : side'.related ≡ side.related
  pub label : side'.label ≡ side.label
  pub from : side'.from ≡ side.from
  pub to : side'.to ≡ side.to
  pub key : side'.key ≡ side.key

-- The store of the states that are entered leaves all but `silent` at a silent step, and all but `group` at any other.
pub record EnteredApart (side side' : Side) (key : ℕ) : Type 0 where
  pub others : Apart side side'
  pub first : side'.first ≡ side.first
  pub next : side'.next ≡ side.next
  pub group : key ≡ 0 → side'.group ≡ side.group
  pub silent : (key ≡ 0 → ⊥) → side'.silent ≡ side.silent

pub entered-apart : (side : Side) (s j key x : ℕ) → EnteredApart side (put_entered side s j key x) key
entered-apart side s j key x = record {
  others = record {
    states = refl;
    steps = refl;
    initial = refl;
    word = refl;
    related = refl;
    label = refl;
    from = refl;
    to = refl;
    key = refl;
  };
  first = refl;
  next = refl;
  group = λ e. rw (eq-eqb key 0 e);
  silent = λ n. rw (ne_eqb key 0 n);
}

-- The stores of the links after it change one word of `first` and one of `next`, and leave all else.
pub record LinkedApart (side side' : Side) (s j : ℕ) : Type 0 where
  pub others : Apart side side'
  pub silent : side'.silent ≡ side.silent
  pub group : side'.group ≡ side.group
  pub first : side'.first ≡ set side.first s j
  pub next : side'.next ≡ set side.next j (first_step side s)

pub linked-apart : (side : Side) (s j key x : ℕ) → LinkedApart (put_entered side s j key x) (put_linked side s j key x) s j
linked-apart side s j key x = record {
  others = record {
    states = refl;
    steps = refl;
    initial = refl;
    word = refl;
    related = refl;
    label = refl;
    from = refl;
    to = refl;
    key = refl;
  };
  silent = refl;
  group = refl;
  first = refl;
  next = refl;
}

-- So linking a step leaves all that is no link.
pub put-apart : (side : Side) (j : ℕ) → Apart side (relinked side j)
unfolding relinked
put-apart side j =
    record {
      states = refl;
      steps = refl;
      initial = refl;
      word = refl;
      related = refl;
      label = refl;
      from = refl;
      to = refl;
      key = refl;
    }
