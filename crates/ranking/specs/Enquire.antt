-- The enquiry and the commit (document 02, Ask 8), for any byte strings, any slip and any output. The enquiry's answer is the maker's without 21, and its slip
-- the lengths of the three inputs and L, or zeros on a refusal. The commit behaves as the maker; before 21 it asks for a slip with these four numbers.
use Rattle.std.specs.Prelude.{ℕ, Bool, ◌&&◌, List, eqb, length, Ok, Err}
use Rattle.answers.specs.Numbers.{six_numbers}
use Rattle.answers.specs.Verdicts.{Verdict, ◌and_then◌, passed, pass_if, room_verdict, output_after}
use Rattle.answers.specs.declared.Answer.{Answer}
use Rattle.ranking.specs.declared.Slip.{Slip}
use Rattle.ranking.specs.declared.Enquiry.{Enquiry}
use Rattle.ranking.specs.Make.{verdict_with, length_for, file_for, answer_after}

-- ---- the slip

-- The true slip of the inputs: their lengths in bytes, and L.
abbrev pub slip_for : (left right relation : List ℕ) → Slip
slip_for left right relation =
    record { left = length left; right = length right; relation = length relation; certificate = length_for left right }

-- Four zeros.
abbrev pub blank_slip : Slip
blank_slip = record { left = 0; right = 0; relation = 0; certificate = 0 }

-- Whether two slips have the same four numbers.
unfoldable pub same_slip : Slip → Slip → Bool
same_slip x y = eqb x.left y.left && (eqb x.right y.right && (eqb x.relation y.relation && eqb x.certificate y.certificate))

-- 29 where a number on the slip is not that of the inputs.
unfoldable pub slip_verdict : (slip true-slip : Slip) → Verdict (Unit {0})
slip_verdict slip true-slip = pass_if (same_slip slip true-slip) (six_numbers 29 2 0)

-- ---- the enquiry

-- It asks for nothing between the reading and the examination.
abbrev pub enquiry_verdict : (left right relation : List ℕ) → Verdict (Unit {0})
enquiry_verdict = verdict_with passed

-- The slip after a verdict: the one given, or zeros where it is a refusal.
abbrev pub slip_after : Verdict (Unit {0}) → Slip → Slip
slip_after (Ok x) slip = slip
slip_after (Err answer) slip = blank_slip

-- The six numbers and the slip after a verdict.
abbrev pub enquiry_after : (left right relation : List ℕ) → Verdict (Unit {0}) → Enquiry
enquiry_after left right relation v = record { answer = answer_after left right v; slip = slip_after v (slip_for left right relation) }

unfoldable pub enquiry_for : (left right relation : List ℕ) → Enquiry
enquiry_for left right relation = enquiry_after left right relation (enquiry_verdict left right relation)

-- ---- the commit

-- It asks for the slip, and then for the room.
abbrev pub commit_verdict : (left right relation : List ℕ) (slip : Slip) (output : List ℕ) → Verdict (Unit {0})
commit_verdict left right relation slip output =
    verdict_with (slip_verdict slip (slip_for left right relation) and_then λ x. room_verdict (length_for left right) (length output)) left right relation

unfoldable pub commit_answer : (left right relation : List ℕ) (slip : Slip) (output : List ℕ) → Answer
commit_answer left right relation slip output = answer_after left right (commit_verdict left right relation slip output)

unfoldable pub commit_output : (left right relation : List ℕ) (slip : Slip) (output : List ℕ) → List ℕ
commit_output left right relation slip output = output_after (commit_verdict left right relation slip output) (file_for left right relation) output
