-- Two sides made of the bytes of two tables and of a certificate, whatever these hold.
use Rattle.std.specs.Prelude.{ℕ, ◌≡◌, List}
use Rattle.tables.specs.declared.Head.{Head}
use Rattle.tables.specs.Table.{labels_part, steps_part}
use Rattle.table_reader.specs.TableReading.{head_of}
use Rattle.certificates.specs.declared.Sizes.{Sizes}
use Rattle.certificates.specs.Layout.{sizes_for, rows_part}
use Rattle.relation_words.specs.Relation.{row_words, column_words}
use Rattle.sides.specs.declared.Side.{Side}
use Rattle.sides.specs.Built.{SideOf}
use Rattle.certified_sides.specs.declared.Sides.{Sides}

-- The sides are made of headers, labels, steps and words, as the code makes them.
pub record SidesMade (left right c : List ℕ) (h k : Head) (z : Sizes) (words : List ℕ) (ours theirs : Side) : Type 0 where
  pub rows : List ℕ
  pub columns : List ℕ
  pub labels : List ℕ
  pub steps : List ℕ
  pub labels' : List ℕ
  pub steps' : List ℕ
  pub sizes-is : z ≡ sizes_for h k
  pub rows_is : rows ≡ rows_part c z
  pub words-is : words ≡ row_words rows z.n1
  pub columns-is : columns ≡ column_words words
  pub labels-is : labels ≡ labels_part left
  pub steps-is : steps ≡ steps_part left
  pub labels-is' : labels' ≡ labels_part right
  pub steps-is' : steps' ≡ steps_part right
  pub ours-is : SideOf h labels steps words ours
  pub theirs-is : SideOf k labels' steps' columns theirs

-- With the headers that the tables have.
pub record CertifiedSides (left right c : List ℕ) (s : Sides) : Type 0 where
  pub words : List ℕ
  pub made : SidesMade left right c (head_of left) (head_of right) s.sizes words s.ours s.theirs
