-- Laws of the starts as they are read off two sides: which starts 16 names, and that the verdict is that of the view that the sides hold. Assumes nothing.
use Rattle.std.specs.Prelude.{Err, Ok}
use Prim.Native.Nat.{ℕ}
use mathlib.Core.Path.{◌≡◌, refl, sym, ap, ap₂, ◌∙◌}
use mathlib.Core.Logic.{◌⊎◌, inl, inr}
use mathlib.Core.Bool.{Bool, true, false, cond, ◌||◌, or-true}
use mathlib.Core.List.{List}
use Rattle.words.specs.Bits.{has_bit}
use Rattle.bisimulation.specs.Systems.{View, flip}
use Rattle.answers.specs.declared.Answer.{Answer}
use Rattle.answers.specs.Verdicts.{Verdict, ◌and_then◌, passed}
use Rattle.tables.specs.declared.Head.{Head}
use Rattle.tables.specs.Table.{start_word, start_of, labels_part, steps_part}
use Rattle.table_reader.specs.TableReading.{read_table}
use Rattle.sides.specs.declared.Side.{Side}
use Rattle.sides.specs.Side.{start_in, start_word_in, related_to}
use Rattle.sides.specs.Views.{view_in}
use Rattle.sides.specs.Built.{SideOf}
use Rattle.sides.proofs.ViewLaws.{start-word-is, start_is}
use Rattle.starts.specs.StartsNamed.{StartsNamed, both_starts, unpaired_start, starts_named, starts_named_in}
use Rattle.starts.specs.StartsVerdict.{starts_answer, unpaired_verdict, starts_verdict, view_by_theirs, starts_as, starts_in}

-- where 16 names both
module _ (ours theirs : Side) {s t word : ℕ} (es : s ≡ start_in ours) (et : t ≡ start_in theirs) (ew : word ≡ related_to ours s) where
  word-is : has_bit word t ≡ (view_in ours theirs).related (start_in ours) (start_in theirs)
  word-is = ap₂ has_bit (ew ∙ ap (related_to ours) es) et

  pub both-pass : has_bit word t ≡ true → passed ≡ starts_as ours theirs (both_starts (start_in ours) (start_in theirs))
  both-pass e = sym (rw (sym word-is ∙ e))

  pub both-differ : has_bit word t ≡ false → Err (starts_answer s t) ≡ starts_as ours theirs (both_starts (start_in ours) (start_in theirs))
  both-differ e = sym (rw (sym word-is ∙ e, es, et))

-- which starts it names
module _ (ours theirs : Side) where
  pub named-unpaired : (start_word_in ours ≡ true) ⊎ (start_word_in theirs ≡ true) → starts_named_in ours theirs ≡ unpaired_start
  unfolding starts_named_in
  named-unpaired (inl e) = rw e
  named-unpaired (inr e) = rw (e, or-true (start_word_in ours))

  pub named-both : start_word_in ours ≡ false → start_word_in theirs ≡ false → starts_named_in ours theirs ≡ both_starts (start_in ours) (start_in theirs)
  unfolding starts_named_in
  named-both e q = rw (e, q)

-- where it names an unpaired one, our starts come first
module _ (ours theirs : Side) (e : starts_named_in ours theirs ≡ unpaired_start) where
  abbrev left : Verdict (Unit {0})
  left = unpaired_verdict (view_by_theirs ours theirs) 0

  abbrev right : Verdict (Unit {0})
  right = unpaired_verdict (view_by_theirs theirs ours) 1

  after-left : {x : Verdict (Unit {0})} → left ≡ x → starts_in ours theirs ≡ (x and_then λ y. right)
  after-left q = ap (starts_as ours theirs) e ∙ ap (λ (x : Verdict (Unit {0})). x and_then λ y. right) q

  pub left-unpaired : {a : Answer} → left ≡ Err a → Err a ≡ starts_in ours theirs
  left-unpaired q = sym (after-left q)

  pub right-decides : left ≡ passed → right ≡ starts_in ours theirs
  right-decides q = sym (after-left q)

-- of two sides that are seen from either side the same it is the theory's
pub starts-in : (ours theirs : Side) → view_in theirs ours ≡ flip (view_in ours theirs)
    → starts_in ours theirs ≡ starts_verdict (view_in ours theirs) (starts_named_in ours theirs)
unfolding starts_verdict
starts-in ours theirs turned = go (starts_named_in ours theirs)
  where
    go : (named : StartsNamed) → starts_as ours theirs named ≡ starts_verdict (view_in ours theirs) named
    go (both_starts s t) = refl
    go unpaired_start = ap (λ (v : View). unpaired_verdict (flip v) 0 and_then λ x. unpaired_verdict (view_by_theirs theirs ours) 1) turned

-- sides of tables that are read name the starts that the tables do
module _ (left right : List ℕ) {h k : Head} {words words' : List ℕ} {ours theirs : Side} (gl : read_table left ≡ Ok h) (gr : read_table right ≡ Ok k)
    (a : SideOf h (labels_part left) (steps_part left) words ours) (b : SideOf k (labels_part right) (steps_part right) words' theirs) where
  pub starts-named : starts_named_in ours theirs ≡ starts_named left right
  unfolding starts_named starts_named_in
  starts-named =
      ap₂ (λ (x y : Bool). cond (x || y) unpaired_start (both_starts (start_in ours) (start_in theirs))) (start-word-is left gl a) (start-word-is right gr b)
      ∙ named (start_word left) (start_word right) (start_is left gl a) (start_is right gr b)
    where
      named : (x y : Bool) → (x ≡ false → start_in ours ≡ start_of left) → (y ≡ false → start_in theirs ≡ start_of right)
          → cond (x || y) unpaired_start (both_starts (start_in ours) (start_in theirs))
          ≡ cond (x || y) unpaired_start (both_starts (start_of left) (start_of right))
      named true y p q = refl
      named false true p q = refl
      named false false p q = ap₂ both_starts (p refl) (q refl)
