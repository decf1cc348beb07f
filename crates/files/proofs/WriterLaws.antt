-- Laws of the writer: the parts of an output that it lends, one after the other, what its grids hold, and what its output holds. Assumes nothing.
use Prim.Native.Nat.{ℕ, ◌+◌, ◌*◌, ◌-◌, ◌≤◌, ◌<◌}
use mathlib.Core.Path.{◌≡◌, ap, ◌∙◌}
use mathlib.Core.List.{List, ◌++◌}
use native.Mathlib.Omega.{arith}
use native.Mathlib.Decide.{dec_lt, ℕ_discrete}
use lib.ListN.{length, drop}
use lib.Seq.{drop_at}
use borrow.Author.Tests.{eq-eqb, ne_eqb}
use borrow.Rule.Slice.PartMut.{put_mid, mid_of, mid_len}
use Rattle.lists.specs.Lists.{put_front}
use Rattle.lists.proofs.FillLaws.{Front, front-part, put-front-fits, put-front-short}
use Rattle.bisimulation.specs.Systems.{Ranks}
use Rattle.certificates.specs.declared.Sizes.{Sizes}
use Rattle.certificates.specs.declared.Runs.{Runs}
use Rattle.certificates.specs.Layout.{certificate_length, certificate_header_length, al_at, ar_at, cl_at, cr_at, runs_of}
use Rattle.certificates.proofs.LayoutLaws.{runs-follow}
use Rattle.files.specs.File.{certificate_file, certificate_in}
use Rattle.files.specs.Writer.{file_written}
use Rattle.files.proofs.FileLaws.{file-length, put_holds}

-- ---- a part that is lent

-- k elements of d, from a up to e.
pub record Span (a e k : ℕ) (d : List ℕ) : Type 0 where
  pub follows : a + k ≡ e
  pub inside : e ≤ length d

module _ {a e k : ℕ} {d : List ℕ} (s : Span a e k d) where
  pub span-order : a ≤ e
  span-order = omega arith

module _ {a e k : ℕ} {p d l : List ℕ} (w : Front p d l a) (s : Span a e k d) where
  pub span-end : e ≤ length l
  span-end = omega arith

  pub span-length : length (mid_of a (e - a) l) ≡ k
  span-length = mid_len a e l span-end ∙ omega arith

  -- it comes back as r: the front is longer by r
  pub span-front : {ys : List ℕ} (r : List ℕ) → ys ≡ r → length r ≡ k → Front (p ++ r) d (put_mid a (e - a) l ys) e
  span-front r q h = front-part e r w (omega arith) span-end q (omega arith)

-- ---- the parts of a certificate

-- The header, the rows and the four runs, each where the one before ends.
pub record Spans (z : Sizes) (d : List ℕ) (r : Runs) (end : ℕ) : Type 0 where
  pub header : Span 0 certificate_header_length certificate_header_length d
  pub rows_run : Span certificate_header_length r.al (8 * z.n1) d
  pub al-run : Span r.al r.ar (z.n1 * z.n2) d
  pub ar-run : Span r.ar r.cl (z.n2 * z.n1) d
  pub cl-run : Span r.cl r.cr (z.m1 * z.n2) d
  pub cr-run : Span r.cr end (z.m2 * z.n1) d

-- they follow each other in an output that has room
pub spans : (z : Sizes) (d : List ℕ) {r : Runs} {end : ℕ} → r ≡ runs_of z → end ≡ certificate_length z → certificate_length z ≤ length d
    → Spans z d r end
spans z d {r} {end} p q room =
    let f = runs-follow z in
    let a : r.al ≡ al_at z = ap (λ (x : Runs). x.al) p in
    let b : r.ar ≡ ar_at z = ap (λ (x : Runs). x.ar) p in
    let c : r.cl ≡ cl_at z = ap (λ (x : Runs). x.cl) p in
    let e : r.cr ≡ cr_at z = ap (λ (x : Runs). x.cr) p in
    record {
      header = record { follows = omega arith; inside = omega arith };
      rows_run = record { follows = omega arith; inside = omega arith };
      al-run = record { follows = omega arith; inside = omega arith };
      ar-run = record { follows = omega arith; inside = omega arith };
      cl-run = record { follows = omega arith; inside = omega arith };
      cr-run = record { follows = omega arith; inside = omega arith };
    }

-- ---- what the output holds

module _ (z : Sizes) (rows : List ℕ) (r : Ranks) (output : List ℕ) where
  -- rows of another length leave it as it was
  pub written-unfit : ¬ (length rows ≡ 8 * z.n1) → file_written z rows r output ≡ output
  unfolding file_written
  written-unfit h = simp (ne_eqb (length rows) (8 * z.n1) h)

  pub written-front : length rows ≡ 8 * z.n1 → file_written z rows r output ≡ put_front (certificate_file z rows r) output
  unfolding file_written
  written-front h = simp (eq-eqb (length rows) (8 * z.n1) h)

  -- an output without room stays as it was
  pub written-short : length output < certificate_length z → file_written z rows r output ≡ output
  written-short h = elim (ℕ_discrete (length rows) (8 * z.n1)) [
    | yes e ↦ written-front e ∙ put-front-short (certificate_file z rows r) output (rw (file-length z rows r e) h)
    | no n ↦ written-unfit n
  ]

  module _ (full : length rows ≡ 8 * z.n1) (room : certificate_length z ≤ length output) where
    pub written-fits : file_written z rows r output ≡ certificate_file z rows r ++ drop (certificate_length z) output
    written-fits =
        let e = file-length z rows r full in
        written-front full ∙ put-front-fits (certificate_file z rows r) output (omega arith)
        ∙ ap (λ (k : ℕ). certificate_file z rows r ++ drop k output) e

    -- its first L bytes are the file
    pub written-holds : certificate_in z (file_written z rows r output) ≡ certificate_file z rows r
    written-holds = ap (certificate_in z) (written-front full) ∙ put_holds z rows r full output room

  -- the bytes after L stay
  pub written-rest : drop (certificate_length z) (file_written z rows r output) ≡ drop (certificate_length z) output
  written-rest = elim (dec_lt (length output) (certificate_length z)) [
    | yes h ↦ ap (drop (certificate_length z)) (written-short h)
    | no h ↦ elim (ℕ_discrete (length rows) (8 * z.n1)) [
      | yes e ↦
          ap (drop (certificate_length z)) (written-fits e (omega arith))
          ∙ drop_at (certificate_file z rows r) (drop (certificate_length z) output) (certificate_length z) (file-length z rows r e)
      | no n ↦ ap (drop (certificate_length z)) (written-unfit n)
    ]
  ]
