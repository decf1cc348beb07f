-- Laws of layouts: how small their numbers are, and that the place of an item fits. Assumes nothing.
use Prim.Native.Nat.{ℕ, ◌+◌, ◌*◌, ◌/◌, ◌^◌, ◌≤◌, ◌<◌}
use mathlib.Core.Path.{◌≡◌}
use mathlib.Core.Bool.{Bool, ◌&&◌}
use native.Mathlib.Nat.{mul-le-mul, mul-le-mul_left}
use native.Mathlib.Omega.{arith}
use lib.Dec.{T, leb, leb→le}
use Rattle.lists.proofs.BoolLaws.{and_l, and_r}
use Rattle.tables.specs.declared.Format.{Format}
use Rattle.tables.specs.declared.Format.TheVariants.{Version1, Version2, Version3, Version4, Keyed}
use Rattle.tables.specs.declared.Layout.{Layout}
use Rattle.tables.specs.Table.{layout_of}

-- A header has at most 16 bytes, and a label and a step 2 to 4 each. As a statement, and as a test.
pub record LayoutFits (l : Layout) : Type 0 where
  pub header-most : l.header ≤ 16
  pub label-least : 2 ≤ l.label
  pub label-most : l.label ≤ 4
  pub step-least : 2 ≤ l.step
  pub step-most : l.step ≤ 4

abbrev layout_fits : Layout → Bool
layout_fits l = leb l.header 16 && leb 2 l.label && leb l.label 4 && leb 2 l.step && leb l.step 4

told : (l : Layout) → T (layout_fits l) → LayoutFits l
told l h =
    record {
      header-most = leb→le _ _ (search (and_l, and_r));
      label-least = leb→le _ _ (search (and_l, and_r));
      label-most = leb→le _ _ (search (and_l, and_r));
      step-least = leb→le _ _ (search (and_l, and_r));
      step-most = leb→le _ _ (search (and_l, and_r));
    }

of_format : (f : Format) → T (layout_fits (layout_of f))
unfolding layout_of
of_format Version1 = tt
of_format Version2 = tt
of_format Version3 = tt
of_format Version4 = tt
of_format Keyed = tt

pub layout-fits : (f : Format) {l : Layout} → l ≡ layout_of f → LayoutFits l
layout-fits f e = rw e (told (layout_of f) (of_format f))

-- item i of w bytes in a part of n bytes, as many as a slice may have: where it is past the end, and that the places of its first three bytes fit
module _ (i n : ℕ) {w : ℕ} (least : 2 ≤ w) (most : w ≤ 4) where
  pub first_past : n / 2 < i → n ≤ i * w
  first_past h = let k : i * 2 ≤ i * w = mul-le-mul_left i least in omega arith

  pub item-fits : i ≤ n / 2 → n * 1 < 2 ^ 63 → i * w + 2 < 2 ^ 64
  item-fits h b = let k : i * w ≤ i * 4 = mul-le-mul_left i most in omega arith

-- so many items are few bytes
pub items-few : {i w m : ℕ} → i < m → w ≤ 4 → i * w ≤ m * 4
items-few l h = mul-le-mul (let z : _ ≤ _ = omega arith in z) h
