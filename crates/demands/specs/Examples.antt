-- The bench examples of documents 01 and 02, as bytes.
use Rattle.std.specs.Prelude.{ℕ, List, [], ◌∷◌, ◌++◌, replicate}
use Rattle.answers.specs.declared.Answer.{Answer}
use Rattle.ranking.specs.declared.Slip.{Slip}
use Rattle.lister.specs.Listing.{Line}

-- Six numbers.
abbrev pub six : ℕ → ℕ → ℕ → ℕ → ℕ → ℕ → Answer
six code file a b c d = record { code = code; file = file; a = a; b = b; c = c; d = d }

-- The slip of an enquiry.
abbrev pub slip : ℕ → ℕ → ℕ → ℕ → Slip
slip left right relation certificate = record { left = left; right = right; relation = relation; certificate = certificate }

-- A line of the listing.
abbrev pub line : ℕ → ℕ → ℕ → ℕ → ℕ → ℕ → Line
line side left right step clause state = record { side = side; left = left; right = right; step = step; clause = clause; state = state }

-- P: 2 states, start 0, marks 0 1, steps 0-1, 1-0. Q: 3 states, start 0, marks 0 0 1, steps 0-1, 1-2, 2-0.
abbrev pub P : List ℕ
P = 0x54 ∷ 0x50 ∷ 0x54 ∷ 0 ∷ 1 ∷ 2 ∷ 0 ∷ 0 ∷ 2 ∷ 0 ∷ 0 ∷ 0 ∷ 1 ∷ 0 ∷ 1 ∷ 1 ∷ 0 ∷ []

abbrev pub Q : List ℕ
Q = 0x54 ∷ 0x50 ∷ 0x54 ∷ 0 ∷ 1 ∷ 3 ∷ 0 ∷ 0 ∷ 3 ∷ 0 ∷ 0 ∷ 0 ∷ 0 ∷ 0 ∷ 1 ∷ 0 ∷ 1 ∷ 1 ∷ 2 ∷ 2 ∷ 0 ∷ []

-- Q in version 3, with this low byte of the start word.
abbrev pub starting_at : ℕ → List ℕ
starting_at starts =
    (0x54 ∷ 0x50 ∷ 0x54 ∷ 0 ∷ 3 ∷ 3 ∷ 0 ∷ 0 ∷ 0 ∷ 0 ∷ 0 ∷ 0 ∷ 0 ∷ starts ∷ 0 ∷ 3 ∷ [])
    ++ (0 ∷ 0 ∷ 0 ∷ 0 ∷ 0 ∷ 1 ∷ 0 ∷ 1 ∷ 1 ∷ 2 ∷ 2 ∷ 0 ∷ [])

-- The header of a version 4 table, and of one with keys, that starts at 0.
abbrev pub word_head : (third version states steps : ℕ) → List ℕ
word_head third version states steps =
    0x54 ∷ 0x50 ∷ third ∷ 0 ∷ version ∷ states ∷ 0 ∷ 0 ∷ 0 ∷ 0 ∷ 0 ∷ 0 ∷ 0 ∷ 1 ∷ 0 ∷ steps ∷ []

-- A mark of four bytes.
abbrev pub wide : ℕ → List ℕ
wide b = 0 ∷ 0 ∷ 0 ∷ b ∷ []

-- P in version 4, and with keys on its two steps; Q with keys on its three.
abbrev pub wide_p : List ℕ
wide_p = word_head 0x54 4 2 2 ++ wide 0 ++ wide 1 ++ (0 ∷ 1 ∷ 1 ∷ 0 ∷ [])

abbrev pub keyed_p : ℕ → ℕ → List ℕ
keyed_p first second = word_head 0x4B 1 2 2 ++ wide 0 ++ wide 1 ++ (0 ∷ 1 ∷ first ∷ 1 ∷ 0 ∷ second ∷ [])

abbrev pub keyed_q : ℕ → ℕ → ℕ → List ℕ
keyed_q first second third =
    word_head 0x4B 1 3 3 ++ wide 0 ++ wide 0 ++ wide 1 ++ (0 ∷ 1 ∷ first ∷ 1 ∷ 2 ∷ second ∷ 2 ∷ 0 ∷ third ∷ [])

-- A row of 64 bits whose low byte is b.
abbrev pub low : ℕ → List ℕ
low b = 0 ∷ 0 ∷ 0 ∷ 0 ∷ 0 ∷ 0 ∷ 0 ∷ b ∷ []

-- A certificate of P and Q with these two rows, with AR(0, 0) and CL(step 0, 0), other ranks 0: AL has 6 bytes, AR 6, CL 6 and CR 6.
abbrev pub certificate : ℕ → ℕ → ℕ → ℕ → List ℕ
certificate row0 row1 ar cl =
    (0x54 ∷ 0x50 ∷ 0x43 ∷ 0 ∷ 1 ∷ 2 ∷ 3 ∷ 0 ∷ 2 ∷ 0 ∷ 3 ∷ []) ++ low row0 ++ low row1
    ++ (0 ∷ 0 ∷ 0 ∷ 0 ∷ 0 ∷ 0 ∷ ar ∷ 0 ∷ 0 ∷ 0 ∷ 0 ∷ 0 ∷ cl ∷ 0 ∷ 0 ∷ 0 ∷ 0 ∷ 0 ∷ 0 ∷ 0 ∷ 0 ∷ 0 ∷ 0 ∷ 0 ∷ [])

-- K has AR(0, 0) = 1, CL(step 0, 0) = 1, other ranks 0, and the rows 3 and 4; 51 bytes.
abbrev pub K : List ℕ
K = certificate 3 4 1 1

-- A run of P: the states 0, 1 and 0.
abbrev pub run : List ℕ
run = 0 ∷ 1 ∷ 0 ∷ []

-- The relation of P and Q: the rows 3 and 4.
abbrev pub rows_pq : List ℕ
rows_pq = low 3 ++ low 4

-- One state, mark 0, and no step; the same with step 0-0; and a certificate of the first with itself, row 1.
abbrev pub still : List ℕ
still = 0x54 ∷ 0x50 ∷ 0x54 ∷ 0 ∷ 1 ∷ 1 ∷ 0 ∷ 0 ∷ 0 ∷ 0 ∷ 0 ∷ []

abbrev pub looping : List ℕ
looping = 0x54 ∷ 0x50 ∷ 0x54 ∷ 0 ∷ 1 ∷ 1 ∷ 0 ∷ 0 ∷ 1 ∷ 0 ∷ 0 ∷ 0 ∷ 0 ∷ []

abbrev pub still_certificate : List ℕ
still_certificate = (0x54 ∷ 0x50 ∷ 0x43 ∷ 0 ∷ 1 ∷ 1 ∷ 1 ∷ 0 ∷ 0 ∷ 0 ∷ 0 ∷ []) ++ low 1 ++ (0 ∷ 0 ∷ [])

-- n zeros.
abbrev pub zeros : ℕ → List ℕ
zeros n = replicate n 0
