-- The maker's, the enquiry's and the commit's answers by what was read: the refusal of a file, a slip with another number, an output that is too short, or
-- what the examination says. Assumes nothing.
use Rattle.std.specs.Prelude.{Ok, Err}
use Prim.Native.Nat.{ℕ, ◌≤◌, ◌<◌}
use mathlib.Core.Path.{◌≡◌, refl, sym, ap, ◌∙◌, subst}
use mathlib.Core.Bool.{true, false}
use mathlib.Core.List.{List}
use lib.ListN.{length}
use borrow.Author.Tests.{lt-ltb, le-ltb}
use Rattle.lists.specs.Lists.{put_front}
use Rattle.answers.specs.Numbers.{six_numbers}
use Rattle.answers.specs.Verdicts.{Verdict, ◌and_then◌, passed, room_verdict, output_after}
use Rattle.answers.specs.declared.Answer.{Answer}
use Rattle.table_pairs.specs.declared.Heads.{Heads}
use Rattle.inputs.specs.Inputs.{read_verdict}
use Rattle.ranking.specs.declared.Slip.{Slip}
use Rattle.ranking.specs.declared.Enquiry.{Enquiry}
use Rattle.ranking.specs.Make.{examined_verdict, verdict_with, length_for, make_verdict, file_for, answer_after, make_answer, make_output}
use Rattle.ranking.specs.Enquire.{slip_for, blank_slip, same_slip, slip_verdict, enquiry_verdict, enquiry_after, enquiry_for}
use Rattle.ranking.specs.Enquire.{commit_verdict, commit_answer, commit_output}

module _ (left right relation : List ℕ) where
  -- ---- by their verdicts

  pub enquired-by : {v : Verdict (Unit {0})} → enquiry_verdict left right relation ≡ v → enquiry_after left right relation v ≡ enquiry_for left right relation
  unfolding enquiry_for
  enquired-by e = ap (enquiry_after left right relation) (sym e)

  module _ (output : List ℕ) where
    abbrev pub output_by : Verdict (Unit {0}) → List ℕ
    output_by v = output_after v (file_for left right relation) output

    pub made_by : {v : Verdict (Unit {0})} → make_verdict left right relation output ≡ v
        → (answer_after left right v ≡ make_answer left right relation output) × (output_by v ≡ make_output left right relation output)
    unfolding make_answer make_output
    made_by e = (ap (answer_after left right) (sym e), ap output_by (sym e))

    module _ (slip : Slip) where
      pub committed-by : {v : Verdict (Unit {0})} → commit_verdict left right relation slip output ≡ v
          → (answer_after left right v ≡ commit_answer left right relation slip output) × (output_by v ≡ commit_output left right relation slip output)
      unfolding commit_answer commit_output
      committed-by e = (ap (answer_after left right) (sym e), ap output_by (sym e))

      -- with the true slip the commit is the maker
      pub commit-make : same_slip slip (slip_for left right relation) ≡ true
          → (make_answer left right relation output ≡ commit_answer left right relation slip output)
          × (make_output left right relation output ≡ commit_output left right relation slip output)
      unfolding commit_answer commit_output make_answer make_output slip_verdict
      commit-make e = rw e (refl, refl)

  -- ---- by what was read

  -- a file that is not read is refused, whatever is asked after it
  pub not-read : (between : Verdict (Unit {0})) {a : Answer} → read_verdict left right relation ≡ Err a
      → verdict_with between left right relation ≡ Err a
  unfolding verdict_with
  not-read between e = rw e

  pub enquiry-unread : {a : Answer} {s : Slip} → read_verdict left right relation ≡ Err a → s ≡ blank_slip
      → ◌≡◌ {A = Enquiry} (record { answer = a; slip = s }) (enquiry_for left right relation)
  enquiry-unread q e = rw e (enquired-by (not-read passed q))

  module _ {h : Heads} (read : read_verdict left right relation ≡ Ok h) where
    -- where all is read, what is asked next, and then the examination
    pub when-read : (between : Verdict (Unit {0})) → verdict_with between left right relation ≡ (between and_then λ x. examined_verdict left right relation)
    unfolding verdict_with
    when-read between = rw read

    module _ (output : List ℕ) where
      pub room-verdict : length_for left right ≤ length output → make_verdict left right relation output ≡ examined_verdict left right relation
      unfolding verdict_with room_verdict
      room-verdict l = rw (read, le-ltb (length output) (length_for left right) l)

      pub too_short : {L : ℕ} → L ≡ length_for left right → length output < L
          → (six_numbers 21 3 L ≡ make_answer left right relation output) × (output ≡ make_output left right relation output)
      unfolding verdict_with room_verdict
      too_short {L} e l =
          let v : make_verdict left right relation output ≡ Err (six_numbers 21 3 L) = rw (read, ← e, lt-ltb (length output) L l) in
          made_by output v

      pub other-slip : (slip : Slip) → same_slip slip (slip_for left right relation) ≡ false
          → (six_numbers 29 2 0 ≡ commit_answer left right relation slip output) × (output ≡ commit_output left right relation slip output)
      unfolding verdict_with slip_verdict
      other-slip slip e =
          let v : commit_verdict left right relation slip output ≡ Err (six_numbers 29 2 0) = rw (read, e) in
          committed-by output slip v

    -- ---- by what the examination says

    module _ {x : Verdict (Unit {0})} (ex : x ≡ examined_verdict left right relation) where
      pub enquiry-refused : {a : Answer} {s : Slip} → x ≡ Err a → s ≡ blank_slip
          → ◌≡◌ {A = Enquiry} (record { answer = a; slip = s }) (enquiry_for left right relation)
      enquiry-refused q e = rw e (enquired-by (when-read passed ∙ sym ex ∙ q))

      pub enquiry-passed : {a : Answer} {s : Slip} → x ≡ passed → a ≡ six_numbers 0 0 s.certificate → s ≡ slip_for left right relation
          → ◌≡◌ {A = Enquiry} (record { answer = a; slip = s }) (enquiry_for left right relation)
      enquiry-passed q f e = rw (f, e) (enquired-by (when-read passed ∙ sym ex ∙ q))

      module _ (output : List ℕ) {L : ℕ} (e : L ≡ length_for left right) (room : L ≤ length output) where
        has_room : length_for left right ≤ length output
        has_room = subst (λ (n : ℕ). n ≤ length output) e room

        pub make-refused : {a : Answer} → x ≡ Err a
            → (a ≡ make_answer left right relation output) × (output ≡ make_output left right relation output)
        make-refused q = made_by output (room-verdict output has_room ∙ sym ex ∙ q)

        pub make-passed : {a : Answer} {out : List ℕ} → x ≡ passed → a ≡ six_numbers 0 0 L → out ≡ put_front (file_for left right relation) output
            → (a ≡ make_answer left right relation output) × (out ≡ make_output left right relation output)
        make-passed q g f =
            let made = made_by output (room-verdict output has_room ∙ sym ex ∙ q) in
            (g ∙ ap (six_numbers 0 0) e ∙ made.0, f ∙ made.1)
