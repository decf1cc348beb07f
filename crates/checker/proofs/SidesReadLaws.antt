-- From bytes to the theory: two sides that are made of two tables and a certificate that are read hold the view and the ranks that the bytes give.
-- Assumes nothing.
use Prim.Native.Nat.{ℕ}
use mathlib.Core.Path.{◌≡◌, refl, sym, ap, ap₂, ◌∙◌, subst}
use mathlib.Core.Bool.{false}
use mathlib.Core.List.{List}
use Rattle.bisimulation.specs.Systems.{WellFormed, flip}
use Rattle.tables.specs.declared.Head.{Head}
use Rattle.tables.specs.Table.{keyed, states_of, labels_part, steps_part}
use Rattle.certificates.specs.declared.Sizes.{Sizes}
use Rattle.certificates.specs.Layout.{sizes_of, rows_part}
use Rattle.certificates.specs.CertificateModel.{AreBytes, ranks_of, certified_view, certified_ranks}
use Rattle.certificates.proofs.ModelLaws.{rows-bytes}
use Rattle.certificate_reader.proofs.CertificateLaws.{certificate-ok, sizes-are, view-formed}
use Rattle.relation_words.specs.Relation.{row_words, column_words}
use Rattle.starts.specs.StartsNamed.{starts_named, starts_named_in}
use Rattle.sides.specs.declared.Side.{Side}
use Rattle.sides.specs.Views.{view_in}
use Rattle.sides.specs.Built.{SideOf, PlainSide}
use Rattle.sides.proofs.PlainLaws.{side-plain}
use Rattle.sides.proofs.ViewLaws.{view-is, view-flipped, side-linked}
use Rattle.starts.proofs.OnSidesLaws.{starts-named}
use Rattle.certified_sides.specs.Made.{SidesMade}
use Rattle.obligations.specs.OnSides.{left_run, right_run}
use Rattle.obligations.proofs.OnSidesLaws.{Holding}
use Rattle.checker.specs.Judge.{AllRead}

-- They hold what the bytes give.
pub record SidesRead (left right c : List ℕ) (ours theirs : Side) : Type 0 where
  pub here : view_in ours theirs ≡ certified_view left right c
  pub named : starts_named_in ours theirs ≡ starts_named left right
  pub holding : Holding ours theirs c (left_run (sizes_of left right)) (right_run (sizes_of left right)) (certified_ranks left right c)

module _ (left right c : List ℕ) {h k : Head} (read : AllRead left right c h k) where
  pub formed : AreBytes c → WellFormed (certified_view left right c)
  unfolding sizes_of
  formed bytes =
      view-formed left right (rows_part c (sizes_of left right)) read.left-good read.right-good (rows-bytes (sizes_of left right) c bytes)
      (certificate-ok (sizes_of left right) c read.certificate-good).1.narrow

  module _ {z : Sizes} {words : List ℕ} {ours theirs : Side} (made : SidesMade left right c h k z words ours theirs) where
    pub made-sizes : z ≡ sizes_of left right
    made-sizes = made.sizes-is ∙ sizes-are left right read.left-good read.right-good

    pub made-words : words ≡ row_words (rows_part c (sizes_of left right)) (states_of left)
    unfolding sizes_of
    made-words = made.words-is ∙ ap₂ row_words (made.rows_is ∙ ap (rows_part c) made-sizes) (ap (λ (x : Sizes). x.n1) made-sizes)

    left-side : SideOf h (labels_part left) (steps_part left) (row_words (rows_part c (sizes_of left right)) (states_of left)) ours
    left-side = rw (made.labels-is, made-words, made.steps-is) at made.ours-is

    right_side : SideOf k (labels_part right) (steps_part right) (column_words (row_words (rows_part c (sizes_of left right)) (states_of left))) theirs
    right_side = rw (made.labels-is', made.columns-is, made-words, made.steps-is') at made.theirs-is

    -- of tables without keys they are the sides of such tables
    pub sides-plain : keyed left ≡ false → keyed right ≡ false → PlainSide ours × PlainSide theirs
    sides-plain p q = (side-plain left read.left-good left-side p, side-plain right read.right-good right_side q)

    pub sides-read : AreBytes c → SidesRead left right c ours theirs
    unfolding ranks_of
    sides-read bytes =
        let rows = rows_part c (sizes_of left right) in
        let gl = read.left-good in
        let gr = read.right-good in
        let b = rows-bytes (sizes_of left right) c bytes in
        let here = view-is left right rows gl gr b left-side right_side in
        record {
          here = here;
          named = starts-named left right gl gr left-side right_side;
          holding = record {
            linked = side-linked left gl left-side;
            linked' = side-linked right gr right_side;
            formed = subst WellFormed (sym here) (formed bytes);
            turned = view-flipped left right rows gl gr b left-side right_side ∙ ap flip (sym here);
            ranks-at = record { stutter-are = λ s t a b. refl; match-are = λ j t. refl };
            ranks-at' = record { stutter-are = λ s t a b. refl; match-are = λ j t. refl };
          };
        }
