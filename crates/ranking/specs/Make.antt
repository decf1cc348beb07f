-- The maker's answer and output for any byte strings and any output (document 01, The maker): the first cause that applies of the left table's, the
-- right table's, 30, 20, 15, 21, 16, 17 and 22 in judging order, and 23; or the length L. Where it succeeds the file stands at the front of the
-- output and the bytes after L stay; otherwise the output is as it was.
use Rattle.std.specs.Prelude.{ℕ, List, length}
use Rattle.bisimulation.specs.Maker.{made}
use Rattle.answers.specs.Numbers.{six_numbers}
use Rattle.answers.specs.Verdicts.{Verdict, ◌and_then◌, room_verdict, answer_of, output_after}
use Rattle.answers.specs.declared.Answer.{Answer}
use Rattle.certificates.specs.Layout.{sizes_of, certificate_length}
use Rattle.certificates.specs.CertificateModel.{view_of}
use Rattle.starts.specs.StartsNamed.{starts_named}
use Rattle.inputs.specs.Inputs.{read_verdict}
use Rattle.files.specs.File.{certificate_file}
use Rattle.examination.specs.Examine.{examined}

-- The verdict of the examination, where all is read.
unfoldable pub examined_verdict : List ℕ → List ℕ → List ℕ → Verdict (Unit {0})
examined_verdict left right relation = examined (view_of left right relation) (starts_named left right)

-- The verdict on whatever is given, with what is asked between the reading and the examination.
unfoldable pub verdict_with : Verdict (Unit {0}) → List ℕ → List ℕ → List ℕ → Verdict (Unit {0})
verdict_with between left right relation =
    read_verdict left right relation and_then λ heads.
    between and_then λ x.
    examined_verdict left right relation

-- The length L of a certificate for the two tables.
abbrev pub length_for : List ℕ → List ℕ → ℕ
length_for left right = certificate_length (sizes_of left right)

-- The maker asks for the room.
abbrev pub make_verdict : List ℕ → List ℕ → List ℕ → List ℕ → Verdict (Unit {0})
make_verdict left right relation output = verdict_with (room_verdict (length_for left right) (length output)) left right relation

-- The file for the relation: its rows, and the maker's ranks.
unfoldable pub file_for : List ℕ → List ℕ → List ℕ → List ℕ
file_for left right relation = certificate_file (sizes_of left right) relation (made (view_of left right relation))

-- The answer after a verdict: the refusal's, or 0, 0, L.
abbrev pub answer_after : List ℕ → List ℕ → Verdict (Unit {0}) → Answer
answer_after left right = answer_of (λ x. six_numbers 0 0 (length_for left right))

unfoldable pub make_answer : List ℕ → List ℕ → List ℕ → List ℕ → Answer
make_answer left right relation output = answer_after left right (make_verdict left right relation output)

unfoldable pub make_output : List ℕ → List ℕ → List ℕ → List ℕ → List ℕ
make_output left right relation output = output_after (make_verdict left right relation output) (file_for left right relation) output
