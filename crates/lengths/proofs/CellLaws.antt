-- Laws of the rows of the tables of lengths: what stands in them, and the loop that writes them. Assumes nothing.
use Prim.Native.Nat.{ℕ, ◌+◌, ◌-◌, ◌*◌, ◌≤◌, ◌<◌}
use mathlib.Core.Path.{◌≡◌, sym, ap, ◌∙◌}
use mathlib.Core.List.{List, ◌++◌}
use lib.ListN.{length, drop, get_or, get_or-append, replicate, get_or-replicate, length-replicate}
use lib.Seq.{get_or-append-add, get_or-drop}
use native.Mathlib.Omega.{arith}
use native.Mathlib.Decide.{dec_lt}
use borrow.Rule.Slice.PartMut.{put_mid}
use borrow.Author.Tests.{lt-ltb, le-ltb}
use Rattle.lists.specs.Lists.{tabulate, grid, part}
use Rattle.lists.proofs.FillLaws.{length-grid, get_or-grid, grid-cells, tabulate-of, tabulate-cong, Rows, rows_more, row_fits, part_length}
use Rattle.bisimulation.specs.Systems.{View}
use Rattle.bisimulation.specs.Maker.{distance}
use Rattle.lengths.specs.Cells.{distance_at}

-- a row of zeros
pub zeros : (n : ℕ) → replicate n 0 ≡ tabulate n (λ t. 0)
zeros n = sym (tabulate-of (replicate n 0) n (sym (length-replicate n 0))) ∙ tabulate-cong n _ _ (λ t l. get_or-replicate n t 0 0 l)

module _ (v : View) (j : ℕ) where
  pub distance-past : (t : ℕ) → v.own.steps ≤ j → distance_at v j t ≡ 0
  unfolding distance_at
  distance-past t h = simp (le-ltb j v.own.steps h)

  pub distances-at : {row : List ℕ} → j < v.own.steps → row ≡ tabulate 64 (distance v j) → row ≡ tabulate 64 (distance_at v j)
  unfolding distance_at
  distances-at h e = e ∙ tabulate-cong 64 _ _ (λ t l. simp (lt-ltb j v.own.steps h))

-- ---- a loop that writes n rows of 64 lengths, each lent as a part

-- the row of j is copied into its part
pub rows-copied : (n : ℕ) {j : ℕ} {f : ℕ → ℕ → ℕ} {d at : List ℕ} → Rows j (j * 64) 64 f d at → length d ≡ n * 64 → j < n
    → {row ys : List ℕ} → row ≡ tabulate 64 (f j) → ys ≡ row → Rows (j + 1) ((j + 1) * 64) 64 f d (put_mid (j * 64) (j * 64 + 64 - j * 64) at ys)
rows-copied n {j} {f} {d} {at} w len h {row} {ys} r e =
    let room : j * 64 + 64 ≤ length at = omega (arith, w.rows.len, row_fits j n 64 h) in
    let whole : length (part at (j * 64) (j * 64 + 64)) ≡ 64 = part_length at (j * 64) 64 room in
    let next : (j + 1) * 64 ≡ j * 64 + 64 = omega arith in
    rw next (rows_more n w h len (e ∙ r ∙ ap (λ (k : ℕ). tabulate k (f j)) (sym whole)))

-- the rows that are left are as they were
pub rows-rest : (n : ℕ) {s a : ℕ} {f : ℕ → ℕ → ℕ} {d at : List ℕ} → Rows s a 64 f d at → length d ≡ n * 64
    → ((j t : ℕ) → s ≤ j → j < n → t < 64 → get_or d (j * 64 + t) 0 ≡ f j t)
    → at ≡ grid n 64 f
rows-rest n {s} {a} {f} {d} {at} w len rest =
    grid-cells n 64 f at (omega arith) (w.rows.len ∙ len) (λ j t h l.
    ap (λ (x : List ℕ). get_or x (j * 64 + t) 0) w.rows.eq ∙ elim (dec_lt j s) [
      | yes p ↦ get_or-append (grid s 64 f) (drop a d) 0 (j * 64 + t) (rw length-grid (omega arith)) ∙ get_or-grid s 64 f j t p l
      | no p ↦
          let i : length (grid s 64 f) + (j * 64 + t - a) ≡ j * 64 + t = omega (arith, w.at, w.rows.front) in
          let k : a + (j * 64 + t - a) ≡ j * 64 + t = omega (arith, w.at) in
          ap (λ (x : ℕ). get_or (grid s 64 f ++ drop a d) x 0) (sym i) ∙ get_or-append-add (grid s 64 f) (drop a d) (j * 64 + t - a) 0
          ∙ get_or-drop a d (j * 64 + t - a) 0 ∙ ap (λ (x : ℕ). get_or d x 0) k ∙ rest j t (omega arith) h l
    ])

-- past the last step the rows stay zeros
pub distances-rest : (v : View) {s a : ℕ} {at : List ℕ} → Rows s a 64 (distance_at v) (replicate 16384 0) at → v.own.steps ≤ s → at ≡ grid 256 64 (distance_at v)
distances-rest v {s} w past =
    rows-rest 256 w (length-replicate {A = ℕ} 16384 0)
    (λ j t p q h.
    let over : v.own.steps ≤ j = omega arith in
    let below : j * 64 + t < 16384 = omega arith in
    get_or-replicate 16384 (j * 64 + t) 0 0 below ∙ sym (distance-past v j t over))
