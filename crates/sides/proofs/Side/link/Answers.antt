-- `sides::Side::link` meets its contract. Assumes nothing.
use Prim.Native.Nat.{ℕ}
use mathlib.Core.Path.{◌≡◌, refl}
use mathlib.Core.List.{List}
use lib.ListN.{set}
use Rattle.words.specs.Bits.{add_bit}
use Rattle.sides.specs.declared.Side.{Side}
use Rattle.sides.specs.Side.{system_in, key_at, first_step, entered_by}
use Rattle.sides.specs.Building.{put_entered, relinked, with_links}
use Rattle.sides.proofs.Side.link.Goals as goal

linked : (side : Side) (j : ℕ) {after : Side} {s key later states to more : ℕ} {first next : List ℕ} → s ≡ (system_in side).from j → key ≡ key_at side j → later ≡ first_step side s
    → states ≡ entered_by side s key → to ≡ (system_in side).to j → more ≡ add_bit states to → after ≡ put_entered side s j key more
    → first ≡ set after.first s j → next ≡ set after.next j later → with_links after after.silent first next after.group ≡ relinked side j
unfolding relinked
linked side j es ek el ew et em ea ef en = rw (en, ef, ea, em, et, ew, el, ek, es) refl

pub returns : goal.returns
returns c =
    linked c.args.self.now c.args.j c.from-s.ensures c.key-by.ensures c.first-later.ensures c.entered_by-states.ensures.value c.to.ensures c.add-more.ensures c.put_entered.ensures
    c.put.ensures c.put-2.ensures
