-- Where the judge accepts, the text that is read off the two sides is what the program prints, and the output has room for it. Assumes nothing.
use Prim.Native.Nat.{ℕ, ◌≤◌}
use mathlib.Core.Path.{◌≡◌, ap, sym, ◌∙◌, subst}
use mathlib.Core.List.{List, flat_map}
use native.Mathlib.Omega.{arith}
use lib.ListN.{length}
use borrow.Author.Tests.{eq-eqb, ne_eqb}
use Rattle.bisimulation.specs.Systems.{View}
use Rattle.answers.specs.declared.Answer.{Answer}
use Rattle.certificates.specs.Layout.{sizes_of}
use Rattle.certificates.specs.CertificateModel.{AreBytes, certified_ranks}
use Rattle.sides.specs.declared.Side.{Side}
use Rattle.sides.specs.Views.{view_in}
use Rattle.sides.proofs.ViewLaws.{states-few, steps-few}
use Rattle.certified_sides.specs.declared.Sides.{Sides}
use Rattle.certified_sides.specs.Made.{CertifiedSides}
use Rattle.obligations.specs.declared.Run.{Run}
use Rattle.obligations.specs.OnSides.{left_run, right_run}
use Rattle.checker.specs.Judge.{judge_answer}
use Rattle.checker.proofs.SidesReadLaws.{SidesRead}
use Rattle.checker.proofs.AcceptedSidesLaws.{accepted-sizes, accepted-sides}
use Rattle.texts.specs.Texts.{answer_text, fitting}
use Rattle.texts.specs.Wrote.{Wrote}
use Rattle.texts.proofs.TextLaws.{fitting-room}
use Rattle.lister.specs.Listing.{listing, line_text, printed}
use Rattle.lister.specs.OnSides.{all_text}
use Rattle.lister.proofs.ListingLaws.{text-is, listing-short}

-- The text read off two sides is what is printed for three files, and not too long.
pub record Accepts (left right c : List ℕ) (ours theirs : Side) (own other : Run) : Type 0 where
  pub text : all_text ours theirs c own other ≡ printed left right c
  pub short : length (all_text ours theirs c own other) ≤ 557056

module _ (left right c : List ℕ) where
  -- on a refusal the six numbers are printed
  pub refusal-text : {answer : Answer} {end : ℕ} {before after : List ℕ} → answer ≡ judge_answer left right c → (answer.code ≡ 0 → ⊥)
      → 126 ≤ length before → Wrote (fitting (answer_text answer) 0 before) 0 end before after → Wrote (printed left right c) 0 end before after
  unfolding printed
  refusal-text {answer} {end} {before} {after} e n room w =
      subst (λ (text : List ℕ). Wrote text 0 end before after)
      (fitting-room (answer_text answer) 0 before (omega arith) ∙ rw e (sym (rw (ne_eqb _ 0 (λ q. n (ap (λ (a : Answer). a.code) e ∙ q)))))) w

  module _ (zero : (judge_answer left right c).code ≡ 0) (bytes : AreBytes c) {s : Sides} (certified : CertifiedSides left right c s)
      {own other : Run} (eo : own ≡ left_run s.sizes) (eo' : other ≡ right_run s.sizes) where
    sides : SidesRead left right c s.ours s.theirs
    sides = accepted-sides _ left right c zero certified bytes

    text_of : all_text s.ours s.theirs c own other ≡ flat_map line_text (listing (view_in s.ours s.theirs) (certified_ranks left right c))
    text_of =
        rw (eo, eo', accepted-sizes _ left right c zero certified)
        (text-is s.ours s.theirs c (left_run (sizes_of left right)) (right_run (sizes_of left right)) (certified_ranks left right c) sides.holding)

    pub accepts : Accepts left right c s.ours s.theirs own other
    unfolding printed
    accepts =
        record {
          text = text_of ∙ ap (λ (v : View). flat_map line_text (listing v (certified_ranks left right c))) sides.here ∙ sym (rw (eq-eqb _ 0 zero));
          short = rw text_of
              (listing-short (view_in s.ours s.theirs) sides.holding.formed (certified_ranks left right c)
              (states-few s.ours) (states-few s.theirs) (steps-few s.ours) (steps-few s.theirs));
        }
