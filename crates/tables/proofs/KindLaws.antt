-- Laws of the two kinds of tables: the layout has keys just where the kind has, and in a table without keys every key is 0, so that every step is silent.
-- Assumes nothing.
use Prim.Native.Nat.{ℕ}
use mathlib.Core.Path.{◌≡◌, refl, ◌∙◌}
use mathlib.Core.Bool.{Bool, true, false, cond}
use mathlib.Core.List.{List}
use lib.Dec.{T, eqb}
use Rattle.tables.specs.declared.Format.TheVariants.{Version1, Version2, Version3, Version4}
use Rattle.tables.specs.Table.{layout_of, format_of, keyed, version_of, format_in, layout_in, start_word, key_of, key_in}
use Rattle.tables.specs.Model.{system_of}

-- of the versions without keys none has keys
versions-plain : (a b c : Bool) → (layout_of (cond a Version1 (cond b Version2 (cond c Version3 Version4)))).keyed ≡ false
unfolding layout_of
versions-plain true b c = refl
versions-plain false true c = refl
versions-plain false false true = refl
versions-plain false false false = refl

format-keyed : (k : Bool) (version : ℕ) → (layout_of (format_of k version)).keyed ≡ k
unfolding layout_of format_of
format-keyed true version = refl
format-keyed false version = versions-plain (eqb version 1) (eqb version 2) (eqb version 3)

-- the layout has keys just where the kind has
pub keyed-is : (s : List ℕ) → (layout_in s).keyed ≡ keyed s
unfolding format_in
keyed-is s = format-keyed (keyed s) (version_of s)

-- without keys every key is 0
pub plain-key : (s : List ℕ) → keyed s ≡ false → (j : ℕ) → key_in s j ≡ 0
unfolding key_of
plain-key s e j = rw (keyed-is s ∙ e)

pub plain-silent : (s : List ℕ) → keyed s ≡ false → (j : ℕ) → T ((system_of s).silent j)
unfolding system_of
plain-silent s e j = rw (plain-key s e j) tt

-- with keys there is a start word
format-word : (k : Bool) (version : ℕ) → k ≡ true → (layout_of (format_of k version)).word ≡ true
unfolding layout_of format_of
format-word k version e = rw e

pub keyed-word : (s : List ℕ) → keyed s ≡ true → start_word s ≡ true
unfolding start_word format_in
keyed-word s e = format-word (keyed s) (version_of s) e
