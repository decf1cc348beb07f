-- The verdicts of the maker, the enquiry and the commit are decided by their causes: each refuses with the numbers of the first that applies, and goes on where
-- none does. Assumes nothing.
use Prim.Native.Nat.{ℕ}
use mathlib.Core.Path.{◌≡◌, ap}
use mathlib.Core.Bool.{Bool}
use mathlib.Core.List.{List, [], ◌∷◌, ◌++◌}
use lib.Dec.{T, eqb}
use Rattle.lists.proofs.BoolLaws.{and_l}
use Rattle.answers.specs.Causes.{Cause, room_causes, FirstCause, NoCause, Numbered, allows}
use Rattle.answers.specs.Verdicts.{Verdict, passed}
use Rattle.answers.specs.declared.Answer.{Answer}
use Rattle.answers.proofs.CauseLaws.{numbered-append, numbered-first}
use Rattle.answers.proofs.DecideLaws.{Decides, eqb-decides, and-decides, decides-as}
use Rattle.answers.proofs.VerdictLaws.{Decided, Anything, room-decided, decided-none, decided-fits, decided-then}
use Rattle.table_reader.proofs.TableCauseLaws.{table_numbers}
use Rattle.certificates.specs.CertificateModel.{AreBytes, view_of}
use Rattle.starts.specs.StartsNamed.{starts_named}
use Rattle.inputs.specs.Inputs.{read_verdict}
use Rattle.inputs.specs.InputCauses.{input_causes}
use Rattle.inputs.proofs.InputCauseLaws.{inputs-decided, none_read, input-numbers}
use Rattle.examination.specs.ExaminationCauses.{examination_causes}
use Rattle.examination.proofs.ExamineLaws.{examined-decided, examination-numbers}
use Rattle.ranking.specs.declared.Slip.{Slip}
use Rattle.ranking.specs.Make.{examined_verdict, verdict_with, length_for, make_verdict}
use Rattle.ranking.specs.Enquire.{slip_for, same_slip, slip_verdict, enquiry_verdict, commit_verdict}
use Rattle.ranking.specs.MakerCauses.{causes_with, enquiry_causes, maker_causes, slip_causes, commit_causes}
use Rattle.ranking.specs.MakerCauses.{examination_code, examination_number, enquiry_number, maker_number, commit_number}
use Rattle.ranking.proofs.MakeSidesLaws.{formed}

-- the test of two slips
pub same-decides : (x y : Slip) → Decides (same_slip x y) (x ≡ y)
unfolding same_slip
same-decides x y =
    decides-as (and-decides (eqb-decides x.left y.left) (and-decides (eqb-decides x.right y.right)
    (and-decides (eqb-decides x.relation y.relation) (eqb-decides x.certificate y.certificate))))
    (λ e. rw (e.0, e.1.0, e.1.1.0, e.1.1.1))
    (λ e. (ap (λ (z : Slip). z.left) e, (ap (λ (z : Slip). z.right) e, (ap (λ (z : Slip). z.relation) e, ap (λ (z : Slip). z.certificate) e))))

module _ (left right relation : List ℕ) where
  abbrev pub examination : List Cause
  examination = examination_causes (view_of left right relation) (starts_named left right)

  module _ (bytes : AreBytes relation) where
    pub examination-decided : NoCause (input_causes left right relation) → Decided Anything examination (examined_verdict left right relation)
    unfolding examined_verdict
    examination-decided n =
        examined-decided (view_of left right relation) (formed left right relation (none_read left right relation n) bytes) (starts_named left right)

    -- one law over what is asked between the reading and the examination
    pub decided-with : (causes : List Cause) (between : Verdict (Unit {0})) → Decided Anything causes between
        → Decided Anything (causes_with causes left right relation) (verdict_with between left right relation)
    unfolding verdict_with
    decided-with causes between d =
        decided-then (read_verdict left right relation) (inputs-decided left right relation) λ h g n.
        decided-then between d λ x k m.
        examination-decided n

    pub enquiry-decided : Decided Anything (enquiry_causes left right relation) (enquiry_verdict left right relation)
    enquiry-decided = decided-with [] passed (decided-none tt)

    pub maker-decided : (output : List ℕ) → Decided Anything (maker_causes left right relation output) (make_verdict left right relation output)
    maker-decided output = decided-with _ _ (room-decided (length_for left right) output)

    pub commit-decided : (slip : Slip) (output : List ℕ)
        → Decided Anything (commit_causes left right relation slip output) (commit_verdict left right relation slip output)
    unfolding slip_verdict
    commit-decided slip output =
        decided-with _ _
        (decided-then (slip_verdict slip (slip_for left right relation))
        (decided-fits (same_slip slip (slip_for left right relation)) (same-decides slip (slip_for left right relation)))
        (λ x g n. room-decided (length_for left right) output))

  -- ---- the numbers: those of the reading; 16, 17, 22 and 23 with the file 2; 21 with the file 3; and 29 with the file 2

  pub examination-first : (a : Answer) → FirstCause examination a → T (examination_code a.code)
  examination-first a first =
      and_l (examination_code a.code) (eqb a.file 2)
      (numbered-first examination_number examination a
      (examination-numbers examination_number tt (view_of left right relation) (starts_named left right)) first)

  module _ (f : ℕ → ℕ → Bool) (of_left : T (allows f 0 table_numbers)) (of_right : T (allows f 1 table_numbers)) (of-kind : T (f 30 1))
      (of-relation : T (allows f 2 (20 ∷ 15 ∷ [])))
      (of-examination : T (allows f 2 (16 ∷ 17 ∷ 22 ∷ 23 ∷ []))) where
    pub numbers-with : (between : List Cause) → Numbered f between → Numbered f (causes_with between left right relation)
    numbers-with between n =
        numbered-append f (input_causes left right relation) (between ++ examination) (input-numbers left right relation f of_left of_right of-kind of-relation)
        (numbered-append f between examination n (examination-numbers f of-examination (view_of left right relation) (starts_named left right)))

  pub enquiry-numbers : Numbered enquiry_number (enquiry_causes left right relation)
  enquiry-numbers = numbers-with enquiry_number tt tt tt tt tt [] tt

  pub maker-numbers : (output : List ℕ) → Numbered maker_number (maker_causes left right relation output)
  maker-numbers output = numbers-with maker_number tt tt tt tt tt (room_causes (length_for left right) output) (tt, tt)

  pub commit-numbers : (slip : Slip) (output : List ℕ) → Numbered commit_number (commit_causes left right relation slip output)
  commit-numbers slip output =
      numbers-with commit_number tt tt tt tt tt (slip_causes left right relation slip ++ room_causes (length_for left right) output) (tt, (tt, tt))
