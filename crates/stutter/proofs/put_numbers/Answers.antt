-- `stutter::put_numbers` meets its contract: the six numbers are copied over the front. Assumes nothing.
use mathlib.Core.Path.{sym, ap, ◌∙◌}
use mathlib.Core.List.{List, ◌++◌}
use Prim.Native.Nat.{ℕ}
use lib.ListN.{length, drop}
use borrow.Author.Tests.{le-leb, lt-leb}
use Rattle.lists.proofs.FillLaws.{put-front-fits, put-front-short}
use Rattle.stutter.specs.Interface.{numbers_of, has_room, answered}
use Rattle.stutter.proofs.put_numbers.Goals as goal

pub returns-then-places-lt-PLACES : goal.returns-then-places-lt-PLACES
unfolding numbers_of has_room answered
returns-then-places-lt-PLACES c =
    let a = c.args in
    record { room = sym (lt-leb 6 (length a.places.now) c.if-places-lt-PLACES.true); put = sym (put-front-short (numbers_of a.numbers) a.places.now c.if-places-lt-PLACES.true) }

pub returns : goal.returns
unfolding numbers_of has_room answered
returns c =
    let a = c.args in
    let l = a.places.now in
    record {
      room = sym (le-leb 6 (length l) c.if-places-lt-PLACES.false);
      put = ap (λ (x : List ℕ). x ++ drop 6 l) c.copy_from_slice.ensures.after ∙ sym (put-front-fits (numbers_of a.numbers) l c.if-places-lt-PLACES.false);
    }
