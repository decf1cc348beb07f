-- The program's standard input (document 01, Program): three pieces, left, right and certificate, each after a two-byte length.
use Rattle.std.specs.Prelude.{ℕ, zero, suc, ◌+◌, ◌-◌, List, [], ◌++◌, ◌≡◌, ◌≤◌, ℤ, pos, negsuc, length, take, ◌≤ℤ◌}
use Rattle.lists.specs.Lists.{part}
use Rattle.lists.specs.Numbers.{big_endian, big_bytes}

-- Where the length of piece i begins: the first at 0, each other where the piece before it ends. A byte of a length that is not there counts as 0.
unfoldable pub length_at : List ℕ → ℕ → ℕ
length_at s zero = 0
length_at s (suc i) = length_at s i + 2 + big_endian s (length_at s i) 2

-- Where piece i begins, after its length, and where it ends. Both may lie past the end of an input that is cut short.
unfoldable pub piece_start : List ℕ → ℕ → ℕ
piece_start s i = length_at s i + 2

unfoldable pub piece_end : List ℕ → ℕ → ℕ
piece_end s i = length_at s (suc i)

-- Piece i: 0 left, 1 right, 2 certificate. A piece cut short is what is there; a missing or half length is an empty piece.
unfoldable pub piece_of : List ℕ → ℕ → List ℕ
piece_of s i = part s (piece_start s i) (piece_end s i)

-- How many bytes the three pieces and their lengths have, as far as the bytes read so far tell.
unfoldable pub wanted : List ℕ → ℕ
wanted s = length_at s 3

-- How many of them are still to be read; 0 where the three pieces are there.
unfoldable pub missing_of : List ℕ → ℕ
missing_of s = wanted s - length s

-- What a call that is lent n places may answer: -1, or how many bytes it put, at most n.
abbrev pub Moved : ℕ → ℤ → Type 0
Moved n (pos k) = k ≤ n
Moved n (negsuc k) = k ≡ 0

-- A call of `read` that was lent n places answered r, and then the places held t: r is -1, where it failed, or how many bytes it put. No contract can name a call, so this
-- is only what the contract of `read` says of every call; the proof of the function whose body is the call, `standard_input::read_once`, is the one that
-- makes it.
pub data ReadCall (n : ℕ) (r : ℤ) (t : List ℕ) : Type 0 where
  call : Moved n r → length t ≡ n → ReadCall n r t

-- What has been read: nothing, or such bytes and then those that a call put, lent as many places as bytes were missing.
pub data Reading : List ℕ → Type 0 where
  nothing : Reading []
  more : (s t : List ℕ) (k : ℕ) → Reading s → ReadCall (missing_of s) (pos k) t → Reading (s ++ take k t)

-- What has been read where reading stops: the three pieces are there; or a call, lent as many places as bytes are missing, answered 0, which is the
-- end of the input, or -1, a failure, which is taken for the end.
pub data ReadOut (s : List ℕ) : Type 0 where
  whole : Reading s → missing_of s ≡ 0 → ReadOut s
  ended : (r : ℤ) (t : List ℕ) → Reading s → ReadCall (missing_of s) r t → r ≤ℤ pos 0 → ReadOut s

-- A piece as it is sent: its length in two bytes, then its bytes.
unfoldable pub sent : List ℕ → List ℕ
sent piece = big_bytes 2 (length piece) ++ piece
