-- Laws of the places for an answer and for a slip. Assumes nothing.
use Prim.Native.Nat.{ℕ, ◌≤◌}
use mathlib.Core.Path.{◌≡◌, sym}
use mathlib.Core.Bool.{true, false}
use mathlib.Core.List.{List}
use lib.Dec.{leb, leb→le}
use lib.ListN.{length}
use borrow.Author.Tests.{leb-false}
use Rattle.lists.proofs.BoolLaws.{and_l, and_r, T_true, true-T}
use Rattle.lists.proofs.FillLaws.{put-front-short}
use Rattle.answers.specs.declared.Answer.{Answer}
use Rattle.stutter.specs.Interface.{numbers_of, has_room, answered, have_room}

-- fewer than six places stay as they are
pub too_few : (places : List ℕ) → has_room places ≡ false → (x : Answer) → places ≡ answered x places
unfolding has_room answered numbers_of
too_few places short x = sym (put-front-short (numbers_of x) places (leb-false 6 (length places) short))

module _ (slip places : List ℕ) (room : have_room slip places ≡ true) where
  pub answer-room : has_room places ≡ true
  unfolding have_room
  answer-room = T_true (has_room places) (and_r (leb 4 (length slip)) (has_room places) (true-T _ room))

  pub slip-room : 4 ≤ length slip
  unfolding have_room
  slip-room = leb→le 4 (length slip) (and_l (leb 4 (length slip)) (has_room places) (true-T _ room))
