-- `files::write_parts` meets its contract: each part that comes back makes the front of the output longer. Assumes nothing.
use Rattle.std.proofs.Common.{◌≡◌, ℕ, ◌-◌, ◌*◌, List, ◌++◌, length, sym, ◌∙◌, arith}
use borrow.Rule.Slice.PartMut.{put_mid, mid_of}
use Rattle.lists.specs.Lists.{grid, put_front}
use Rattle.lists.proofs.FillLaws.{Front, front-none, put-front-whole, front-put, length-grid}
use Rattle.certificates.specs.declared.Runs.{Runs}
use Rattle.certificates.specs.declared.Sizes.{Sizes}
use Rattle.certificates.specs.Layout.{certificate_header_length, row_length}
use Rattle.files.specs.File.{certificate_header, certificate_file}
use Rattle.files.proofs.FileLaws.{header-length}
use Rattle.files.proofs.WriterLaws.{Spans, spans, span-order, span-end, span-length, span-front}
use Rattle.files.proofs.write_parts.Goals as goal
use Rattle.files.proofs.write_parts.Goals.{After-length-end}

-- ---- the output when each part is back, and its front: the header, the rows, then the runs

abbrev lent : (a e : ℕ) → (l back : List ℕ) → List ℕ
lent a e l back = put_mid a (e - a) l back

module _ {z : Sizes} {output : List ℕ} {runs : Runs} {end : ℕ} (s : Spans z output runs end) {header : List ℕ} (h : header ≡ certificate_header z) where
  abbrev output-header : List ℕ
  output-header = lent 0 certificate_header_length output header

  front-header : Front (certificate_header z) output output-header certificate_header_length
  front-header = span-front (front-none _) s.header _ h (header-length z)

  module _ (relation : List ℕ) (full : length relation ≡ row_length * z.n1) {rows : List ℕ}
      (r : rows ≡ put_front relation (mid_of certificate_header_length (runs.al - certificate_header_length) output-header)) where
    abbrev to-rows : List ℕ
    to-rows = certificate_header z ++ relation

    abbrev output-rows : List ℕ
    output-rows = lent certificate_header_length runs.al output-header rows

    front-rows : Front to-rows output output-rows runs.al
    front-rows = span-front front-header s.rows_run _ (r ∙ put-front-whole _ _ (span-length front-header s.rows_run ∙ sym full)) full

    module _ (al : ℕ → ℕ → ℕ) {al-run : List ℕ} (e : al-run ≡ grid z.n1 z.n2 al) where
      abbrev to-al : List ℕ
      to-al = to-rows ++ grid z.n1 z.n2 al

      abbrev output-al : List ℕ
      output-al = lent runs.al runs.ar output-rows al-run

      front-al : Front to-al output output-al runs.ar
      front-al = span-front front-rows s.al-run _ e (length-grid _ _ _)

      module _ (ar : ℕ → ℕ → ℕ) {ar-run : List ℕ} (f : ar-run ≡ grid z.n2 z.n1 ar) where
        abbrev to-ar : List ℕ
        to-ar = to-al ++ grid z.n2 z.n1 ar

        abbrev output-ar : List ℕ
        output-ar = lent runs.ar runs.cl output-al ar-run

        front-ar : Front to-ar output output-ar runs.cl
        front-ar = span-front front-al s.ar-run _ f (length-grid _ _ _)

        module _ (cl : ℕ → ℕ → ℕ) {cl-run : List ℕ} (g : cl-run ≡ grid z.m1 z.n2 cl) where
          abbrev to-cl : List ℕ
          to-cl = to-ar ++ grid z.m1 z.n2 cl

          abbrev output-cl : List ℕ
          output-cl = lent runs.cl runs.cr output-ar cl-run

          front-cl : Front to-cl output output-cl runs.cr
          front-cl = span-front front-ar s.cl-run _ g (length-grid _ _ _)

          module _ (cr : ℕ → ℕ → ℕ) {cr-run : List ℕ} (k : cr-run ≡ grid z.m2 z.n1 cr) where
            front-cr : Front (to-cl ++ grid z.m2 z.n1 cr) output (lent runs.cr end output-cl cr-run) end
            front-cr = span-front front-cl s.cr-run _ k (length-grid _ _ _)

-- ---- the parts follow each other in the output

known : (c : After-length-end) → Spans c.args.sizes c.args.output.now c.runs-runs.result c.length-end.result
known c = spans c.args.sizes c.args.output.now c.runs-runs.ensures c.length-end.ensures c.requires.sizes_in_bounds

pub slice_bounds-put_header-end : goal.slice_bounds-put_header-end
slice_bounds-put_header-end c =
    let s = known (goal.at.slice_bounds-put_header-end c).After-length-end in
    span-end (front-none _) s.header

pub slice_bounds-put_front-count : goal.slice_bounds-put_front-count
slice_bounds-put_front-count c = span-order (known (goal.at.slice_bounds-put_front-count c).After-length-end).rows_run

pub slice_bounds-put_front-start : goal.slice_bounds-put_front-start
slice_bounds-put_front-start c = span-order (known (goal.at.slice_bounds-put_front-start c).After-length-end).rows_run

pub slice_bounds-put_front-end : goal.slice_bounds-put_front-end
slice_bounds-put_front-end c =
    let s = known (goal.at.slice_bounds-put_front-end c).After-length-end in
    let w = front-header s c.put_header.ensures in
    span-end w s.rows_run

pub slice_bounds-put_run-count : goal.slice_bounds-put_run-count
slice_bounds-put_run-count c = span-order (known (goal.at.slice_bounds-put_run-count c).After-length-end).al-run

pub slice_bounds-put_run-start : goal.slice_bounds-put_run-start
slice_bounds-put_run-start c = span-order (known (goal.at.slice_bounds-put_run-start c).After-length-end).al-run

pub slice_bounds-put_run-end : goal.slice_bounds-put_run-end
slice_bounds-put_run-end c =
    let s = known (goal.at.slice_bounds-put_run-end c).After-length-end in
    let w = front-rows s c.put_header.ensures _ c.requires.relation_len c.put_front.ensures in
    span-end w s.al-run

pub put_run-requires : goal.put_run-requires
put_run-requires c =
    let s = known (goal.at.put_run-requires c).After-length-end in
    let w = front-rows s c.put_header.ensures _ c.requires.relation_len c.put_front.ensures in
    (omega arith, omega arith, span-length w s.al-run)

pub slice_bounds-put_run-count-2 : goal.slice_bounds-put_run-count-2
slice_bounds-put_run-count-2 c = span-order (known (goal.at.slice_bounds-put_run-count-2 c).After-length-end).ar-run

pub slice_bounds-put_run-start-2 : goal.slice_bounds-put_run-start-2
slice_bounds-put_run-start-2 c = span-order (known (goal.at.slice_bounds-put_run-start-2 c).After-length-end).ar-run

pub slice_bounds-put_run-end-2 : goal.slice_bounds-put_run-end-2
slice_bounds-put_run-end-2 c =
    let s = known (goal.at.slice_bounds-put_run-end-2 c).After-length-end in
    let w = front-al s c.put_header.ensures _ c.requires.relation_len c.put_front.ensures _ c.put_run.ensures in
    span-end w s.ar-run

pub put_run-requires-2 : goal.put_run-requires-2
put_run-requires-2 c =
    let s = known (goal.at.put_run-requires-2 c).After-length-end in
    let w = front-al s c.put_header.ensures _ c.requires.relation_len c.put_front.ensures _ c.put_run.ensures in
    (omega arith, omega arith, span-length w s.ar-run)

pub slice_bounds-put_run-count-3 : goal.slice_bounds-put_run-count-3
slice_bounds-put_run-count-3 c = span-order (known (goal.at.slice_bounds-put_run-count-3 c).After-length-end).cl-run

pub slice_bounds-put_run-start-3 : goal.slice_bounds-put_run-start-3
slice_bounds-put_run-start-3 c = span-order (known (goal.at.slice_bounds-put_run-start-3 c).After-length-end).cl-run

pub slice_bounds-put_run-end-3 : goal.slice_bounds-put_run-end-3
slice_bounds-put_run-end-3 c =
    let s = known (goal.at.slice_bounds-put_run-end-3 c).After-length-end in
    let w = front-ar s c.put_header.ensures _ c.requires.relation_len c.put_front.ensures _ c.put_run.ensures _ c.put_run-2.ensures in
    span-end w s.cl-run

pub put_run-requires-3 : goal.put_run-requires-3
put_run-requires-3 c =
    let s = known (goal.at.put_run-requires-3 c).After-length-end in
    let w = front-ar s c.put_header.ensures _ c.requires.relation_len c.put_front.ensures _ c.put_run.ensures _ c.put_run-2.ensures in
    (omega arith, omega arith, span-length w s.cl-run)

pub slice_bounds-put_run-count-4 : goal.slice_bounds-put_run-count-4
slice_bounds-put_run-count-4 c = span-order (known (goal.at.slice_bounds-put_run-count-4 c).After-length-end).cr-run

pub slice_bounds-put_run-start-4 : goal.slice_bounds-put_run-start-4
slice_bounds-put_run-start-4 c = span-order (known (goal.at.slice_bounds-put_run-start-4 c).After-length-end).cr-run

pub slice_bounds-put_run-end-4 : goal.slice_bounds-put_run-end-4
slice_bounds-put_run-end-4 c =
    let s = known (goal.at.slice_bounds-put_run-end-4 c).After-length-end in
    let w = front-cl s c.put_header.ensures _ c.requires.relation_len c.put_front.ensures _ c.put_run.ensures _ c.put_run-2.ensures _ c.put_run-3.ensures in
    span-end w s.cr-run

pub put_run-requires-4 : goal.put_run-requires-4
put_run-requires-4 c =
    let s = known (goal.at.put_run-requires-4 c).After-length-end in
    let w = front-cl s c.put_header.ensures _ c.requires.relation_len c.put_front.ensures _ c.put_run.ensures _ c.put_run-2.ensures _ c.put_run-3.ensures in
    (omega arith, omega arith, span-length w s.cr-run)

pub returns : goal.returns
unfolding certificate_file
returns c =
    let s = known (goal.at.returns c).After-length-end in
    let w = front-cr s c.put_header.ensures _ c.requires.relation_len c.put_front.ensures _ c.put_run.ensures _ c.put_run-2.ensures _ c.put_run-3.ensures _ c.put_run-4.ensures in
    front-put w
