-- What the C interface hands back: six numbers at the front of the caller's places, where it has six, and the four of a slip, where it has four.
use Rattle.std.specs.Prelude.{ℕ, Bool, cond, ◌&&◌, List, [], ◌∷◌, leb, length, get_or}
use Rattle.lists.specs.Lists.{put_front}
use Rattle.answers.specs.declared.Answer.{Answer}
use Rattle.ranking.specs.declared.Slip.{Slip}

-- The six numbers of an answer, in the document's order.
unfoldable pub numbers_of : Answer → List ℕ
numbers_of x = x.code ∷ x.file ∷ x.a ∷ x.b ∷ x.c ∷ x.d ∷ []

-- Whether there are places for six numbers.
unfoldable pub has_room : List ℕ → Bool
has_room places = leb 6 (length places)

-- The places after the call: the six numbers in the first six and the rest as they were, or all as they were where there are fewer than six.
unfoldable pub answered : Answer → List ℕ → List ℕ
answered x places = put_front (numbers_of x) places

-- The output after the call: what is written, or what was there before where the places are fewer than six.
unfoldable pub where_room : List ℕ → List ℕ → List ℕ → List ℕ
where_room places written before = cond (has_room places) written before

-- ---- with a slip

-- The four numbers of a slip, in the document's order, and the slip that the first four places hold.
unfoldable pub slip_numbers : Slip → List ℕ
slip_numbers x = x.left ∷ x.right ∷ x.relation ∷ x.certificate ∷ []

unfoldable pub slip_in : List ℕ → Slip
slip_in places = record { left = get_or places 0 0; right = get_or places 1 0; relation = get_or places 2 0; certificate = get_or places 3 0 }

-- Whether there are places for an answer and for a slip.
unfoldable pub have_room : (slip places : List ℕ) → Bool
have_room slip places = leb 4 (length slip) && has_room places

-- What is there after the call: what is written, or what was there before where the places are too few for either.
unfoldable pub where_both : (slip places written before : List ℕ) → List ℕ
where_both slip places written before = cond (have_room slip places) written before

-- The places of the slip after the call: its four numbers in the first four and the rest as they were.
unfoldable pub slipped : Slip → List ℕ → List ℕ
slipped x places = put_front (slip_numbers x) places
