-- Laws of filling an array from its start, and a side from the bytes of its table. Assumes nothing.
use Prim.Native.Nat.{ℕ, ◌+◌, ◌≤◌, ◌<◌, min}
use mathlib.Core.Path.{◌≡◌, refl, sym, ap, ◌∙◌}
use mathlib.Core.Bool.{Bool, true, false, cond}
use mathlib.Core.List.{List}
use native.Mathlib.Omega.{arith}
use native.Mathlib.Decide.{ℕ_discrete, dec_lt}
use lib.ListN.{length, length-set, replicate, get_or, set}
use borrow.Author.Tests.{lt-ltb, le-ltb}
use Rattle.std.proofs.lemmas.List.{get_or-replicate, length-replicate, get_or_past}
use Rattle.tables.specs.Table.{layout_of, label_of, from_of, to_of, key_of}
use Rattle.tables.specs.declared.Head.{Head}
use Rattle.sides.specs.declared.Side.{Side}
use Rattle.sides.specs.Side.{first_step, silent_from, group_at}
use Rattle.sides.specs.Built.{FilledUpTo, Roomy}
use Rattle.sides.specs.Building.{Unlinked}
use Rattle.sides.proofs.StoreLaws.{put_same, put_other}

pub cond-zero : (b : Bool) {x : ℕ} → x ≡ 0 → cond b x 0 ≡ 0
cond-zero true e = e
cond-zero false e = refl

-- The first n words of an array of this size are there.
pub record FilledIn (size : ℕ) (words : List ℕ) (f : ℕ → ℕ) (n : ℕ) : Type 0 where
  pub room : length words ≡ size
  pub filled : FilledUpTo words f n

-- a word alone
pub same-all : (n i d : ℕ) → get_or (replicate n d) i d ≡ d
same-all n i d = elim (dec_lt i n) [ yes l ↦ get_or-replicate n i d d l | no l ↦ get_or_past (replicate n d) i d (rw length-replicate (omega arith)) ]

pub fill_none : {f : ℕ → ℕ} (size : ℕ) → FilledIn size (replicate size 0) f 0
fill_none size = record {
  room = length-replicate size 0;
  filled = record { words_are = λ i. same-all size i 0 ∙ sym (rw (le-ltb i 0 (omega arith))) };
}

-- one word more
pub fill_more : {size : ℕ} {f : ℕ → ℕ} {n : ℕ} (words : List ℕ) (x : ℕ) → FilledIn size words f n → n < size → x ≡ f n → FilledIn size (set words n x) f (n + 1)
fill_more {size} {f} {n} words x w room e = record {
  room = length-set words n x ∙ w.room;
  filled = record {
    words_are = λ i. elim (ℕ_discrete i n) [
      | yes q ↦ ap (λ (k : ℕ). get_or (set words n x) k 0) q ∙ put_same words n x 0 (rw w.room room) ∙ e ∙ ap f (sym q)
          ∙ sym (rw (lt-ltb i (n + 1) (omega arith)))
      | no q ↦ put_other words n x 0 i q ∙ w.filled.words_are i ∙ elim (dec_lt i n) [
        | yes p ↦ rw (lt-ltb i n p, lt-ltb i (n + 1) (omega arith))
        | no p ↦ rw (le-ltb i n (omega arith), le-ltb i (n + 1) (omega arith))
      ]
    ];
  };
}

-- an array that is filled, by a function that is 0 from there on
pub filled : {f : ℕ → ℕ} {n : ℕ} {words : List ℕ} → FilledUpTo words f n → (i : ℕ) → (n ≤ i → f i ≡ 0) → get_or words i 0 ≡ f i
filled {f} {n} w i z = w.words_are i ∙ elim (dec_lt i n) [ yes p ↦ rw (lt-ltb i n p) | no p ↦ rw (le-ltb i n (omega arith)) (sym (z (omega arith))) ]

-- ---- a side that is filled: the labels, then the ends and the keys of the steps

-- Header and related states are there, the labels of the first n states, the ends and the keys of the first m steps, and no link.
pub record Filling (h : Head) (labels steps words : List ℕ) (n m : ℕ) (side : Side) : Type 0 where
  pub states-is : side.states ≡ h.states
  pub steps-is : side.steps ≡ h.steps
  pub initial-is : side.initial.0 ≡ h.initial.0
  pub word-is : side.word ≡ (layout_of h.format).word
  pub related-is : side.related ≡ words
  pub labels-are : FilledIn 64 side.label (label_of h.format labels) n
  pub from-are : FilledIn 256 side.from (from_of h.format steps) m
  pub to-are : FilledIn 256 side.to (to_of h.format steps) m
  pub keys-are : FilledIn 256 side.key (key_of h.format steps) m
  pub roomy : Roomy side
  pub no-first : (s : ℕ) → first_step side s ≡ 256
  pub no-silent : (s : ℕ) → silent_from side s ≡ 0
  pub no-group : (j : ℕ) → group_at side j ≡ 0

-- the side with these labels, ends and keys in place of its own
abbrev pub with_table : Side → (label from to key : List ℕ) → Side
with_table side label from to key =
    record {
      states = side.states;
      steps = side.steps;
      initial = side.initial;
      word = side.word;
      related = side.related;
      silent = side.silent;
      first = side.first;
      label = label;
      next = side.next;
      from = from;
      to = to;
      key = key;
      group = side.group;
    }

module _ {h : Head} {labels steps words : List ℕ} {n m : ℕ} {side : Side} (w : Filling h labels steps words n m side) where
  pub filling-label : {x : ℕ} → n < 64 → x ≡ label_of h.format labels n
      → Filling h labels steps words (n + 1) m (with_table side (set side.label n x) side.from side.to side.key)
  filling-label {x} l e =
      record {
        states-is = w.states-is;
        steps-is = w.steps-is;
        initial-is = w.initial-is;
        word-is = w.word-is;
        related-is = w.related-is;
        labels-are = fill_more side.label x w.labels-are l e;
        from-are = w.from-are;
        to-are = w.to-are;
        keys-are = w.keys-are;
        roomy = record { silent-room = w.roomy.silent-room; first-room = w.roomy.first-room; next-room = w.roomy.next-room; group-room = w.roomy.group-room };
        no-first = w.no-first;
        no-silent = w.no-silent;
        no-group = w.no-group;
      }

  pub filling-step : {x y z : ℕ} → m < 256 → x ≡ from_of h.format steps m → y ≡ to_of h.format steps m → z ≡ key_of h.format steps m
      → Filling h labels steps words n (m + 1) (with_table side side.label (set side.from m x) (set side.to m y) (set side.key m z))
  filling-step {x} {y} {z} l a b c =
      record {
        states-is = w.states-is;
        steps-is = w.steps-is;
        initial-is = w.initial-is;
        word-is = w.word-is;
        related-is = w.related-is;
        labels-are = w.labels-are;
        from-are = fill_more side.from x w.from-are l a;
        to-are = fill_more side.to y w.to-are l b;
        keys-are = fill_more side.key z w.keys-are l c;
        roomy = record { silent-room = w.roomy.silent-room; first-room = w.roomy.first-room; next-room = w.roomy.next-room; group-room = w.roomy.group-room };
        no-first = w.no-first;
        no-silent = w.no-silent;
        no-group = w.no-group;
      }

-- all of it
pub filling-all : {h : Head} {labels steps words : List ℕ} {side : Side} → Filling h labels steps words 64 (min h.steps 256) side → Unlinked h labels steps words side
filling-all w =
    record {
      table = record {
        states-is = w.states-is;
        steps-is = w.steps-is;
        initial-is = w.initial-is;
        word-is = w.word-is;
        related-is = w.related-is;
        labels-are = w.labels-are.filled;
        from-are = w.from-are.filled;
        to-are = w.to-are.filled;
        keys-are = w.keys-are.filled;
      };
      roomy = w.roomy;
      no-first = w.no-first;
      no-silent = w.no-silent;
      no-group = w.no-group;
    }
