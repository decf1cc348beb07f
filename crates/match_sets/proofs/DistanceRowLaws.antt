-- The loop that writes the match distances of all steps of a side, a row for each: what it keeps. Assumes nothing.
use Prim.Native.Nat.{ℕ, ◌+◌, ◌-◌, ◌*◌, ◌≤◌, ◌<◌, zero-le}
use mathlib.Core.Path.{◌≡◌, sym, ap, ◌∙◌}
use mathlib.Core.List.{List}
use lib.ListN.{length, replicate, get_or-replicate, length-replicate}
use native.Mathlib.Omega.{arith}
use borrow.Rule.Slice.PartMut.{put_mid}
use Rattle.lists.specs.Lists.{tabulate, grid, part, put_front}
use Rattle.lists.proofs.FillLaws.{length-tabulate, Rows, rows_none, rows_more, row_fits, part_length, put-front-whole}
use Rattle.bisimulation.specs.Systems.{View}
use Rattle.bisimulation.specs.Maker.{distance}
use Rattle.lengths.specs.Cells.{distance_at}
use Rattle.lengths.proofs.CellLaws.{distance-past, distances-at, rows-rest}

-- the next row has room
module _ (n : ℕ) {j a : ℕ} {f : ℕ → ℕ → ℕ} {d at : List ℕ} (w : Rows j a 64 f d at) (len : length d ≡ n * 64) (h : j < n) where
  rows-room : a + 64 ≤ length at
  rows-room = omega (arith, w.at, w.rows.len, row_fits j n 64 h)

  rows-part : length (part at a (a + 64)) ≡ 64
  rows-part = part_length at a 64 rows-room

-- a row of 64 lengths is put at the front of the part that is lent
rows-put-front : (n : ℕ) {j a : ℕ} {f : ℕ → ℕ → ℕ} {d at : List ℕ} → Rows j a 64 f d at → length d ≡ n * 64 → j < n
    → {row ys : List ℕ} → row ≡ tabulate 64 (f j) → ys ≡ put_front row (part at a (a + 64)) → Rows (j + 1) (a + 64) 64 f d (put_mid a (a + 64 - a) at ys)
rows-put-front n {j} {a} {f} {d} {at} w len h {row} {ys} r e =
    let whole = rows-part n w len h in
    rows_more n w h len
    (e ∙ put-front-whole row (part at a (a + 64)) (whole ∙ sym (ap length r ∙ length-tabulate 64 (f j))) ∙ r
    ∙ ap (λ (k : ℕ). tabulate k (f j)) (sym whole))

-- The rows before step j, up to a, are written, of as many as the side has steps.
pub record DistanceRows (v : View) (count j a : ℕ) (at : List ℕ) : Type 0 where
  pub rows : Rows j a 64 (distance_at v) (replicate 16384 0) at
  pub le : j ≤ count
  pub count-is : count ≡ v.own.steps
  pub few : count ≤ 256

table-room : length {A = ℕ} (replicate 16384 0) ≡ 256 * 64
table-room = length-replicate {A = ℕ} 16384 0

pub distance-rows-none : (v : View) {count : ℕ} → count ≡ v.own.steps → count ≤ 256 → DistanceRows v count 0 0 (replicate 16384 0)
distance-rows-none v e l = record { rows = rows_none 64 (distance_at v) (replicate 16384 0); le = zero-le; count-is = e; few = l }

module _ {v : View} {count j a : ℕ} {at : List ℕ} (d : DistanceRows v count j a at) where
  -- where the next row begins is no large number
  pub distance-rows-at : j < count → a < 16384
  distance-rows-at h = omega (arith, d.rows.at, d.few)

  pub distance-rows-room : j < count → a + 64 ≤ length at
  distance-rows-room h = rows-room 256 d.rows table-room (omega (arith, d.few))

  pub distance-rows-more : {row ys : List ℕ} → j < count → row ≡ tabulate 64 (distance v j) → ys ≡ put_front row (part at a (a + 64))
      → DistanceRows v count (j + 1) (a + 64) (put_mid a (a + 64 - a) at ys)
  distance-rows-more h r e =
      record {
        rows = rows-put-front 256 d.rows table-room (omega (arith, d.few)) (distances-at v j (omega (arith, d.count-is)) r) e;
        le = omega arith;
        count-is = d.count-is;
        few = d.few;
      }

  -- the same where it is copied into its part
  pub distance-rows-copied : {row ys : List ℕ} → j < count → row ≡ tabulate 64 (distance v j) → ys ≡ row
      → DistanceRows v count (j + 1) (a + 64) (put_mid a (a + 64 - a) at ys)
  distance-rows-copied {row} {ys} h r e =
      let whole = rows-part 256 d.rows table-room (omega (arith, d.few)) in
      distance-rows-more h r (e ∙ sym (put-front-whole row (part at a (a + 64)) (whole ∙ sym (ap length r ∙ length-tabulate 64 (distance v j)))))

  pub distance-rows-all : count ≤ j → at ≡ grid 256 64 (distance_at v)
  distance-rows-all h =
      rows-rest 256 d.rows table-room (λ i t p q l.
      let past : v.own.steps ≤ i = omega (arith, d.count-is) in
      let below : i * 64 + t < 16384 = omega arith in
      get_or-replicate 16384 (i * 64 + t) 0 0 below ∙ sym (distance-past v i t past))
