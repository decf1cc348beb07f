-- Laws of labels: marks written one after the other, each in as many bytes as the format gives it, are read back as the numbers they are. So a mark of an
-- older file is the same number in 32 bits (document 02, Ask 6). Assumes nothing.
use Prim.Native.Nat.{ℕ, ◌+◌, ◌*◌, ◌^◌, ◌<◌}
use mathlib.Core.Path.{◌≡◌, refl, sym, ap, ◌∙◌}
use mathlib.Core.List.{List, [], ◌++◌, flat_map, append-nil}
use native.Mathlib.Nat.{add-zero, mul_comm, pow-le-pow_right, lt_of_lt_of_le, zero-lt-suc}
use native.Mathlib.Omega.{arith}
use lib.ListN.{length, get_or}
use Rattle.lists.specs.Numbers.{byte_at, big_endian, big_bytes}
use Rattle.lists.proofs.NumberLaws.{big_lt, bytes_back, flat-number, length-bytes}
use Rattle.tables.specs.declared.Format.{Format}
use Rattle.tables.specs.Table.{layout_of, label_of}
use Rattle.tables.proofs.LayoutLaws.{layout-fits}

-- The marks as the format writes them, with whatever stands after them.
abbrev pub marks_in : Format → List ℕ → List ℕ → List ℕ
marks_in f marks rest = flat_map (big_bytes (layout_of f).label) marks ++ rest

-- of bytes, a label is below what its width can hold
pub label-lt : (f : Format) (labels : List ℕ) → ((i : ℕ) → byte_at labels i < 256) → (s : ℕ) → label_of f labels s < 256 ^ (layout_of f).label
unfolding label_of
label-lt f labels bytes s = big_lt labels (s * (layout_of f).label) bytes (layout_of f).label

-- marks that the width can hold are read back
pub label-back : (f : Format) (marks rest : List ℕ) (s : ℕ) → s < length marks → get_or marks s 0 < 256 ^ (layout_of f).label
    → label_of f (marks_in f marks rest) s ≡ get_or marks s 0
unfolding label_of
label-back f marks rest s l h =
    let w = (layout_of f).label in
    let place : s * w ≡ w * s + 0 = mul_comm s w ∙ sym (add-zero (w * s)) in
    ap (λ (i : ℕ). big_endian (marks_in f marks rest) i w) place
    ∙ flat-number w (big_bytes w) (length-bytes w) 0 marks rest s 0 w l (omega arith)
    ∙ rw (← append-nil (big_bytes w (get_or marks s 0))) (bytes_back w (get_or marks s 0) [] h)

-- so marks below 65,536 are the same numbers in every format
pub label_same : (f g : Format) (marks rest rest' : List ℕ) (s : ℕ) → s < length marks → get_or marks s 0 < 65536
    → label_of f (marks_in f marks rest) s ≡ label_of g (marks_in g marks rest') s
label_same f g marks rest rest' s l h = label-back f marks rest s l (wide f) ∙ sym (label-back g marks rest' s l (wide g))
  where
    wide : (f : Format) → get_or marks s 0 < 256 ^ (layout_of f).label
    wide f = lt_of_lt_of_le h (pow-le-pow_right (zero-lt-suc 255) (layout-fits f refl).label-least)
