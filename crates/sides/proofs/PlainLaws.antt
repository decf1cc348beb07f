-- Laws of the side of a table without keys: its silent steps are all its steps. Assumes nothing.
use Rattle.std.specs.Prelude.{Ok}
use Prim.Native.Nat.{ℕ, ◌^◌, ◌<◌}
use mathlib.Core.Path.{◌≡◌, refl, sym, ap, ◌∙◌}
use mathlib.Core.Bool.{Bool, false, ◌&&◌}
use mathlib.Core.List.{List}
use lib.Dec.{eqb}
use borrow.Author.Tests.{eq-eqb}
use Rattle.lists.specs.Below.{any_below}
use Rattle.lists.proofs.BelowLaws.{any-cong}
use Rattle.words.specs.Bits.{has_bit}
use Rattle.tables.specs.declared.Head.{Head}
use Rattle.tables.specs.Table.{keyed, labels_part, steps_part}
use Rattle.tables.proofs.KindLaws.{plain-key}
use Rattle.table_reader.specs.TableReading.{read_table}
use Rattle.sides.specs.declared.Side.{Side}
use Rattle.sides.specs.Side.{system_in, key_at, silent_from}
use Rattle.sides.specs.Built.{SideOf, PlainSide}
use Rattle.sides.proofs.GroupLaws.{silent-start}
use Rattle.sides.proofs.ViewLaws.{keys-are, side-linked}

pub side-plain : (s : List ℕ) {h : Head} {words : List ℕ} {side : Side} → read_table s ≡ Ok h → SideOf h (labels_part s) (steps_part s) words side
    → keyed s ≡ false → PlainSide side
side-plain s good a p = record { linked = side-linked s good a; no_keys = λ j. keys-are s good a j ∙ plain-key s p j }

module _ {side : Side} (plain : PlainSide side) where
  -- the states that its steps enter
  pub plain-entered : (s u : ℕ) → has_bit (silent_from side s) u
      ≡ any_below (system_in side).steps (λ k. eqb ((system_in side).from k) s && eqb ((system_in side).to k) u)
  plain-entered s u =
      ap (λ (x : ℕ). has_bit x u) (sym (silent-start side s 0 refl))
      ∙ plain.linked.entered-are s 0 u
      ∙ any-cong _ _ _ (λ k l. ap (λ (x : Bool). eqb ((system_in side).from k) s && (x && eqb ((system_in side).to k) u))
      (eq-eqb 0 (key_at side k) (sym (plain.no_keys k))))

  pub plain-small : (s : ℕ) → silent_from side s < 2 ^ 64
  plain-small s = rw (← silent-start side s 0 refl) (plain.linked.entered< s 0)
