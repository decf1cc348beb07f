-- `stutter::put_slip` meets its contract: the four numbers are copied over the front. Assumes nothing.
use mathlib.Core.Path.{sym, ap, ◌∙◌}
use mathlib.Core.List.{List, ◌++◌}
use Prim.Native.Nat.{ℕ}
use lib.ListN.{drop}
use Rattle.lists.proofs.FillLaws.{put-front-fits, put-front-short}
use Rattle.stutter.specs.Interface.{slip_numbers, slipped}
use Rattle.stutter.proofs.put_slip.Goals as goal

pub returns-then-places-lt-SLIP : goal.returns-then-places-lt-SLIP
unfolding slip_numbers slipped
returns-then-places-lt-SLIP c = let a = c.args in sym (put-front-short (slip_numbers a.slip) a.places.now c.if-places-lt-SLIP.true)

pub returns : goal.returns
unfolding slip_numbers slipped
returns c =
    let a = c.args in
    let l = a.places.now in
    ap (λ (x : List ℕ). x ++ drop 4 l) c.copy_from_slice.ensures.after ∙ sym (put-front-fits (slip_numbers a.slip) l c.if-places-lt-SLIP.false)
