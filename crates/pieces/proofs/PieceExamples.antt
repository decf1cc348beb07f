-- Small inputs, cut by computation: whole pieces with later bytes, a piece cut short, a half length, a missing one, and what is asked for. Assumes nothing.
use Prim.Native.Nat.{ℕ}
use mathlib.Core.Path.{◌≡◌, refl}
use mathlib.Core.List.{List, [], ◌∷◌}
use Rattle.lists.specs.Numbers.{big_endian}
use Rattle.pieces.specs.Pieces.{length_at, piece_start, piece_end, piece_of, wanted, missing_of}

-- The three pieces, and how many bytes are missing.
pub record Cut (s left right certificate : List ℕ) (missing : ℕ) : Type 0 where
  pub left_is : piece_of s 0 ≡ left
  pub right_is : piece_of s 1 ≡ right
  pub certificate-is : piece_of s 2 ≡ certificate
  pub missing-is : missing_of s ≡ missing

pub whole-later : Cut (0 ∷ 1 ∷ 7 ∷ 0 ∷ 0 ∷ 0 ∷ 2 ∷ 8 ∷ 9 ∷ 5 ∷ 5 ∷ []) (7 ∷ []) [] (8 ∷ 9 ∷ []) 0
unfolding length_at piece_start piece_end piece_of wanted missing_of big_endian
whole-later = record { left_is = refl; right_is = refl; certificate-is = refl; missing-is = refl }

pub cut_short : Cut (0 ∷ 3 ∷ 7 ∷ 8 ∷ []) (7 ∷ 8 ∷ []) [] [] 5
unfolding length_at piece_start piece_end piece_of wanted missing_of big_endian
cut_short = record { left_is = refl; right_is = refl; certificate-is = refl; missing-is = refl }

-- of the length that has come half, 512 bytes are wanted at least
pub half_length : Cut (0 ∷ 1 ∷ 7 ∷ 2 ∷ []) (7 ∷ []) [] [] 515
unfolding length_at piece_start piece_end piece_of wanted missing_of big_endian
half_length = record { left_is = refl; right_is = refl; certificate-is = refl; missing-is = refl }

pub no_length : Cut (0 ∷ 1 ∷ 7 ∷ []) (7 ∷ []) [] [] 4
unfolding length_at piece_start piece_end piece_of wanted missing_of big_endian
no_length = record { left_is = refl; right_is = refl; certificate-is = refl; missing-is = refl }

pub empty : Cut [] [] [] [] 6
unfolding length_at piece_start piece_end piece_of wanted missing_of big_endian
empty = record { left_is = refl; right_is = refl; certificate-is = refl; missing-is = refl }
