-- Two tables and a relation that are read, as two sides: what is made of the sides is what the theory makes of the view that the bytes give. Assumes nothing.
use Rattle.std.specs.Prelude.{Ok}
use Prim.Native.Nat.{ℕ, ◌*◌, ◌<◌}
use mathlib.Core.Path.{◌≡◌, refl, sym, ap, ap₂, ◌∙◌, subst}
use mathlib.Core.List.{List}
use native.Mathlib.Omega.{arith}
use lib.ListN.{length}
use borrow.Author.Tests.{eq-eqb}
use Rattle.lists.specs.Lists.{put_front}
use Rattle.bisimulation.specs.Systems.{System, View, Ranks, WellFormed, flip}
use Rattle.bisimulation.specs.Maker.{stutter_rank, match_rank, made}
use Rattle.answers.specs.Verdicts.{Verdict}
use Rattle.tables.specs.declared.Head.{Head}
use Rattle.tables.specs.Table.{states_of, labels_part, steps_part}
use Rattle.tables.specs.Model.{system_of}
use Rattle.table_reader.specs.TableReading.{read_table}
use Rattle.table_reader.proofs.TableLaws.{table-ok}
use Rattle.certificates.specs.declared.Sizes.{Sizes}
use Rattle.certificates.specs.Layout.{sizes_for, sizes_of, row_length, certificate_length}
use Rattle.certificates.specs.CertificateModel.{AreBytes, view_of}
use Rattle.certificate_reader.proofs.CertificateLaws.{relation-ok, sizes-are, view-formed}
use Rattle.relation_words.specs.Relation.{row_words, column_words}
use Rattle.sides.specs.declared.Side.{Side}
use Rattle.sides.specs.Side.{system_in}
use Rattle.sides.specs.Built.{SideOf}
use Rattle.sides.specs.Views.{view_in}
use Rattle.sides.proofs.ViewLaws.{system-is, side-linked, view-is, view-flipped}
use Rattle.starts.proofs.OnSidesLaws.{starts-named}
use Rattle.lengths.specs.Cells.{distance_table, chain_table}
use Rattle.rank_grids.specs.RankGrids.{stutter_grid, match_grid}
use Rattle.rank_grids.proofs.RankGridLaws.{stutter-by-chains, match-by-table}
use Rattle.files.specs.File.{certificate_file}
use Rattle.files.specs.Writer.{cell_in, ranks_in, file_written}
use Rattle.files.proofs.FileLaws.{RanksAgree, file-same}
use Rattle.examination.specs.Examine.{examined}
use Rattle.examination.specs.OnSides.{examined_in}
use Rattle.examination.proofs.MeasuredLaws.{examination-is}
use Rattle.inputs.specs.Inputs.{InputsRead, read_verdict}
use Rattle.inputs.proofs.InputLaws.{inputs_read}
use Rattle.table_pairs.specs.declared.Heads.{Heads}
use Rattle.ranking.specs.declared.Slip.{Slip}
use Rattle.ranking.specs.Make.{examined_verdict, length_for, file_for}
use Rattle.ranking.specs.Enquire.{slip_for}

-- the view of two tables and a relation that are read is well formed
pub formed : (left right relation : List ℕ) → InputsRead left right relation → AreBytes relation → WellFormed (view_of left right relation)
unfolding sizes_of
formed left right relation read bytes =
    view-formed left right relation read.left-good read.right-good bytes (relation-ok (sizes_of left right) relation read.relation-good).1.narrow

-- ---- the ranks of one side

module _ (ours theirs : Side) where
  pub stutter-made : (s t : ℕ) → s < (system_in ours).states → t < (system_in theirs).states
      → cell_in (stutter_grid ours (chain_table (view_in ours theirs))) s t ≡ stutter_rank (view_in ours theirs) s t
  unfolding cell_in
  stutter-made s t h k = stutter-by-chains ours theirs refl s t (omega arith) (omega arith)

  pub match-made : (j t : ℕ) → j < (system_in ours).steps → t < (system_in theirs).states
      → cell_in (match_grid theirs (distance_table (view_in ours theirs))) j t ≡ match_rank (view_in ours theirs) j t
  unfolding cell_in
  match-made j t h k = match-by-table ours theirs refl j t h (omega arith)

  -- the examination and the ranks, by the true lengths
  abbrev examined_of : Verdict (Unit {0})
  examined_of =
      examined_in ours theirs (distance_table (view_in ours theirs)) (distance_table (view_in theirs ours)) (chain_table (view_in ours theirs))
      (chain_table (view_in theirs ours))

  abbrev ranks_made : Ranks
  ranks_made =
      ranks_in (stutter_grid ours (chain_table (view_in ours theirs))) (stutter_grid theirs (chain_table (view_in theirs ours)))
      (match_grid theirs (distance_table (view_in ours theirs))) (match_grid ours (distance_table (view_in theirs ours)))

-- ---- both sides

module _ (left right relation : List ℕ) {h k : Head} {ours theirs : Side} (read : InputsRead left right relation) (gl : read_table left ≡ Ok h)
    (gr : read_table right ≡ Ok k) (bytes : AreBytes relation)
    (a : SideOf h (labels_part left) (steps_part left) (row_words relation (states_of left)) ours)
    (b : SideOf k (labels_part right) (steps_part right) (column_words (row_words relation (states_of left))) theirs) where
  abbrev v : View
  v = view_of left right relation

  same : view_in ours theirs ≡ v
  same = view-is left right relation gl gr bytes a b

  turned : view_in theirs ours ≡ flip v
  turned = view-flipped left right relation gl gr bytes a b

  -- the examination of the sides is the theory's
  pub examined-is : examined_of ours theirs ≡ examined_verdict left right relation
  unfolding examined_verdict
  examined-is =
      examination-is ours theirs (side-linked left gl a) (side-linked right gr b) (subst WellFormed (sym same) (formed left right relation read bytes))
      (turned ∙ ap flip (sym same))
      ∙ ap₂ examined same (starts-named left right gl gr a b)

  -- the ranks of the sides are the theory's, inside the tables
  ranks-agree : RanksAgree (sizes_of left right) (ranks_made ours theirs) (made v)
  unfolding sizes_of system_of
  ranks-agree =
      let n = ap (λ (S : System). S.states) (system-is left gl a) in
      let n' = ap (λ (S : System). S.states) (system-is right gr b) in
      let m = ap (λ (S : System). S.steps) (system-is left gl a) in
      let m' = ap (λ (S : System). S.steps) (system-is right gr b) in
      record {
        stutter = λ s t i j. stutter-made ours theirs s t (rw n i) (rw n' j) ∙ ap (λ (w : View). stutter_rank w s t) same;
        match = λ x t i j. match-made ours theirs x t (rw m i) (rw n' j) ∙ ap (λ (w : View). match_rank w x t) same;
        stutter' = λ t s i j. stutter-made theirs ours t s (rw n' i) (rw n j) ∙ ap (λ (w : View). stutter_rank w t s) turned;
        match' = λ x s i j. match-made theirs ours x s (rw m' i) (rw n j) ∙ ap (λ (w : View). match_rank w x s) turned;
      }

-- ---- as the code comes to them

module _ (left right relation : List ℕ) {h : Heads} {words columns ll ls rl rs : List ℕ} {ours theirs : Side} (good : read_verdict left right relation ≡ Ok h)
    (bytes : AreBytes relation) (ew : words ≡ row_words relation h.left.states) (ec : columns ≡ column_words words)
    (ell : ll ≡ labels_part left) (els : ls ≡ steps_part left) (erl : rl ≡ labels_part right) (ers : rs ≡ steps_part right)
    (a : SideOf h.left ll ls words ours) (b : SideOf h.right rl rs columns theirs) {distances distances' chains chains' : List ℕ}
    (ed : distances ≡ distance_table (view_in ours theirs)) (ed' : distances' ≡ distance_table (view_in theirs ours))
    (eh : chains ≡ chain_table (view_in ours theirs)) (eh' : chains' ≡ chain_table (view_in theirs ours)) where
  gl : read_table left ≡ Ok h.left
  gl = (inputs_read left right relation good).0

  gr : read_table right ≡ Ok h.right
  gr = (inputs_read left right relation good).1

  all : InputsRead left right relation
  all = (inputs_read left right relation good).2

  words_are : words ≡ row_words relation (states_of left)
  words_are = ew ∙ ap (row_words relation) (table-ok left gl).states-is

  our-side : SideOf h.left (labels_part left) (steps_part left) (row_words relation (states_of left)) ours
  our-side = rw (ell, els, words_are) at a

  their-side : SideOf h.right (labels_part right) (steps_part right) (column_words (row_words relation (states_of left))) theirs
  their-side = rw (erl, ers, ec, words_are) at b

  -- the examination of the sides is that of the bytes, and their ranks give the file for the relation
  pub examined-here : (examined_in ours theirs distances distances' chains chains' ≡ examined_verdict left right relation)
      × (certificate_file (sizes_of left right) relation
      (ranks_in (stutter_grid ours chains) (stutter_grid theirs chains') (match_grid theirs distances) (match_grid ours distances'))
      ≡ file_for left right relation)
  unfolding file_for
  examined-here = (
    rw (ed, ed', eh, eh') (examined-is left right relation all gl gr bytes our-side their-side),
    rw (ed, ed', eh, eh')
        (file-same (sizes_of left right) relation (ranks_made ours theirs) (made (view_of left right relation))
        (ranks-agree left right relation all gl gr bytes our-side their-side)),
  )

-- ---- the output and the slip, as the code comes to them

module _ (left right relation : List ℕ) {h : Heads} {z : Sizes} (good : read_verdict left right relation ≡ Ok h) (ez : z ≡ sizes_for h.left h.right) where
  sizes-is : z ≡ sizes_of left right
  sizes-is = let i = inputs_read left right relation good in ez ∙ sizes-are left right i.0 i.1

  pub length-is : {L : ℕ} → L ≡ certificate_length z → L ≡ length_for left right
  length-is e = e ∙ ap certificate_length sizes-is

  pub filled_is : (output : List ℕ) (r : Ranks) → certificate_file (sizes_of left right) relation r ≡ file_for left right relation
      → file_written z relation r output ≡ put_front (file_for left right relation) output
  unfolding file_written
  filled_is output r file =
      let long = (relation-ok (sizes_of left right) relation (inputs_read left right relation good).2.relation-good).1.long in
      rw (sizes-is, eq-eqb (length relation) (row_length * (sizes_of left right).n1) long) (ap (λ (f : List ℕ). put_front f output) file)

  -- the true slip
  pub slip-is : {x : Slip}
      → x ≡ record { left = length left; right = length right; relation = length relation; certificate = certificate_length z }
      → x ≡ slip_for left right relation
  slip-is e = rw sizes-is at e
