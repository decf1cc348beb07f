-- The causes that turn a relation away from the maker, in the documents' order: left table, right table (1 to 9, or 24 in place of
-- 9), 30, 20, 15, 21, 16, then pairs and steps in judging order for 17 and 22, then 23, left side first. The enquiry's are these without 21, and the commit's
-- have 29 before it (document 02, Ask 8).
use Rattle.std.specs.Prelude.{ℕ, ◌≡◌, Bool, ◌&&◌, ◌||◌, List, [], ◌∷◌, ◌++◌, eqb}
use Rattle.answers.specs.Numbers.{six_numbers}
use Rattle.answers.specs.Causes.{Cause, ◌gives◌, room_causes}
use Rattle.certificates.specs.CertificateModel.{view_of}
use Rattle.starts.specs.StartsNamed.{starts_named}
use Rattle.inputs.specs.InputCauses.{input_causes, input_number}
use Rattle.examination.specs.ExaminationCauses.{examination_causes}
use Rattle.ranking.specs.declared.Slip.{Slip}
use Rattle.ranking.specs.Make.{length_for}
use Rattle.ranking.specs.Enquire.{slip_for}

-- The causes of the reading, those that are looked for next, and those of the examination.
abbrev pub causes_with : List Cause → (left right relation : List ℕ) → List Cause
causes_with between left right relation =
    input_causes left right relation ++ (between ++ examination_causes (view_of left right relation) (starts_named left right))

abbrev pub enquiry_causes : (left right relation : List ℕ) → List Cause
enquiry_causes = causes_with []

abbrev pub maker_causes : (left right relation output : List ℕ) → List Cause
maker_causes left right relation output = causes_with (room_causes (length_for left right) output) left right relation

-- 29: a number on the slip is not that of the inputs.
abbrev pub slip_causes : (left right relation : List ℕ) → Slip → List Cause
slip_causes left right relation slip = (¬ (slip ≡ slip_for left right relation)) gives six_numbers 29 2 0 ∷ []

abbrev pub commit_causes : (left right relation : List ℕ) (slip : Slip) (output : List ℕ) → List Cause
commit_causes left right relation slip output =
    causes_with (slip_causes left right relation slip ++ room_causes (length_for left right) output) left right relation

-- Their numbers and files: those of the reading; 16, 17, 22 and 23 with the file 2; 21 with the file 3; and 29 with the file 2.
abbrev pub examination_code : ℕ → Bool
examination_code code = eqb code 16 || (eqb code 17 || (eqb code 22 || eqb code 23))

abbrev pub examination_number : (code file : ℕ) → Bool
examination_number code file = examination_code code && eqb file 2

abbrev pub enquiry_number : (code file : ℕ) → Bool
enquiry_number code file = input_number code file || examination_number code file

abbrev pub maker_number : (code file : ℕ) → Bool
maker_number code file = enquiry_number code file || (eqb code 21 && eqb file 3)

abbrev pub commit_number : (code file : ℕ) → Bool
commit_number code file = maker_number code file || (eqb code 29 && eqb file 2)
