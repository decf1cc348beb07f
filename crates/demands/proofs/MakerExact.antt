-- Demand 3 on bytes, in one piece. The maker's examination passes exactly where the theory's maker succeeds, which is exactly where the relation has the
-- path property; the file it writes has the theory's ranks, which the judge accepts and which mean what document 01 says; and any accepted file's ranks,
-- whatever they are, show the path property. Assumes nothing.
use Prim.Native.Nat.{ℕ, ◌≤◌}
use mathlib.Core.Path.{◌≡◌, refl, sym, ap, ◌∙◌, subst}
use mathlib.Core.Logic.{◌↔◌}
use mathlib.Core.List.{List, ◌++◌}
use native.Mathlib.Omega.{arith}
use lib.Dec.{T}
use lib.ListN.{length, take, drop}
use lib.Seq.{take_at, drop_at}
use Rattle.lists.specs.Lists.{put_front}
use Rattle.lists.specs.Numbers.{big_bytes}
use Rattle.lists.proofs.FillLaws.{put-front-fits}
use Rattle.bisimulation.specs.Systems.{flip}
use Rattle.bisimulation.specs.Maker.{made, succeeds}
use Rattle.bisimulation.specs.PathProperty.{PathProperty}
use Rattle.bisimulation.specs.StepPaths.{StepPathProperty}
use Rattle.bisimulation.proofs.ClauseLaws.{flip-formed}
use Rattle.bisimulation.proofs.Equivalences.{succeeds-iff-steps}
use Rattle.bisimulation.proofs.PlainPaths.{plain-iff-steps}
use Rattle.bisimulation.proofs.Sound.{sound}
use Rattle.bisimulation.proofs.Made.{made-accepted, made_bytes}
use Rattle.tables.specs.Model.{system_of}
use Rattle.answers.specs.Verdicts.{passed}
use Rattle.answers.specs.declared.Answer.{Answer}
use Rattle.answers.proofs.VerdictLaws.{none-on}
use Rattle.certificates.specs.Layout.{sizes_of, certificate_length}
use Rattle.certificates.specs.CertificateModel.{AreBytes, view_of, ranks_of}
use Rattle.certificates.proofs.ModelLaws.{view-plain}
use Rattle.starts.specs.StartsNamed.{starts_named}
use Rattle.files.specs.File.{certificate_header, certificate_file}
use Rattle.files.proofs.FileLaws.{file-length, file-rows, file-ranks}
use Rattle.examination.proofs.ExamineLaws.{examined-succeeds}
use Rattle.ranking.specs.Make.{examined_verdict, make_verdict, file_for, make_answer, make_output}
use Rattle.inputs.proofs.InputLaws.{read-inputs}
use Rattle.ranking.proofs.MakeAnswers.{made_by, room-verdict}
use Rattle.ranking.proofs.MakerCauseLaws.{maker-decided}
use Rattle.checker.specs.Judge.{judge_answer}
use Rattle.demands.specs.Demand2.{BothPlain, HasRows, WellFormedInputs}
use Rattle.demands.specs.Demand3.{DefinedFile, MakerExact}
use Rattle.demands.proofs.OneStartLaws.{names-starts}
use Rattle.demands.proofs.MakerAnswers.{untouched, zero-made}
use Rattle.demands.proofs.RankWords.{match-ranks, stutter-ranks, success-endless, match-agree, stutter-agree}
use Rattle.demands.proofs.RelationsExact.{given-formed, given-read, given-length, given-few, accepted-file, file-accepted}

module _ (left right relation output : List ℕ) (given : WellFormedInputs left right relation)
    (room : certificate_length (sizes_of left right) ≤ length output) where
  -- ---- all is read, so the answer is that of the examination

  examined-iff : (examined_verdict left right relation ≡ passed) ↔ T (succeeds (view_of left right relation))
  unfolding examined_verdict
  examined-iff =
      let r = given-read left right relation given in
      examined-succeeds (view_of left right relation) (given-formed left right relation given) (starts_named left right)
      (names-starts left right relation r.left-good r.right-good)

  steps-iff : T (succeeds (view_of left right relation)) ↔ StepPathProperty (view_of left right relation)
  steps-iff = succeeds-iff-steps (view_of left right relation) (given-formed left right relation given)

  -- without keys, over states
  states-iff : BothPlain left right → StepPathProperty (view_of left right relation) ↔ PathProperty (view_of left right relation)
  states-iff p =
      let q = plain-iff-steps (view_of left right relation) (given-formed left right relation given) (view-plain left right relation p.0 p.1) in
      (q.1, q.0)

  -- the maker goes on to the end exactly where the theory's succeeds
  succeeds-passed : T (succeeds (view_of left right relation)) → make_verdict left right relation output ≡ passed
  succeeds-passed h = room-verdict left right relation (read-inputs left right relation (given-read left right relation given)) output room ∙ examined-iff.1 h

  zero-passed : (make_answer left right relation output).code ≡ 0 → make_verdict left right relation output ≡ passed
  zero-passed z =
      (none-on (make_verdict left right relation output) (maker-decided left right relation given.relation-bytes output)
      (zero-made left right relation output given.relation-bytes z).0).1

  zero-succeeds : (make_answer left right relation output).code ≡ 0 → T (succeeds (view_of left right relation))
  zero-succeeds z =
      examined-iff.0 (sym (room-verdict left right relation (read-inputs left right relation (given-read left right relation given)) output room)
      ∙ zero-passed z)

  -- ---- the file

  file-long : length (file_for left right relation) ≡ certificate_length (sizes_of left right)
  unfolding file_for
  file-long = file-length (sizes_of left right) relation (made (view_of left right relation)) (given-length left right relation given)

  file-header : take 11 (file_for left right relation) ≡ certificate_header (sizes_of left right)
  unfolding file_for certificate_file certificate_header big_bytes
  file-header = refl

  file-defined : T (succeeds (view_of left right relation)) → DefinedFile left right relation (file_for left right relation)
  unfolding file_for view_of system_of sizes_of
  file-defined h =
      let w = given-formed left right relation given in
      let e = success-endless (view_of left right relation) h in
      let a = file-ranks (sizes_of left right) relation (made (view_of left right relation)) (given-length left right relation given) in
      record {
        long = file-long;
        header = file-header;
        rows = file-rows (sizes_of left right) relation (made (view_of left right relation)) (given-length left right relation given);
        al = stutter-agree (view_of left right relation) _ _ (λ s t k l. sym (a.stutter s t k l)) (stutter-ranks (view_of left right relation) w e.0);
        ar = stutter-agree (flip (view_of left right relation)) _ _ (λ t s k l. sym (a.stutter' t s k l))
            (stutter-ranks (flip (view_of left right relation)) (flip-formed (view_of left right relation) w) e.1);
        cl = match-agree (view_of left right relation) _ _ (λ j t k l. sym (a.match j t k l)) (match-ranks (view_of left right relation) w);
        cr = match-agree (flip (view_of left right relation)) _ _ (λ j s k l. sym (a.match' j s k l))
            (match-ranks (flip (view_of left right relation)) (flip-formed (view_of left right relation) w));
      }

  file-judged : T (succeeds (view_of left right relation)) → (judge_answer left right (file_for left right relation)).code ≡ 0
  unfolding file_for
  file-judged h =
      let w = given-formed left right relation given in
      let few = given-few left right relation given in
      file-accepted left right relation given (made (view_of left right relation))
      (made_bytes (view_of left right relation) w h few.0 few.1)
      (made-accepted (view_of left right relation) w h)

  -- the file stands at the front of the output, and what is after it stays
  put_is : put_front (file_for left right relation) output ≡ file_for left right relation ++ drop (length (file_for left right relation)) output
  put_is = put-front-fits (file_for left right relation) output (let e = file-long in omega arith)

  front-is : take (certificate_length (sizes_of left right)) (put_front (file_for left right relation) output) ≡ file_for left right relation
  front-is = ap (take (certificate_length (sizes_of left right))) put_is ∙ take_at (file_for left right relation) _ _ file-long

  back_is : drop (certificate_length (sizes_of left right)) (put_front (file_for left right relation) output) ≡ drop (certificate_length (sizes_of left right)) output
  back_is =
      ap (drop (certificate_length (sizes_of left right))) put_is
      ∙ drop_at (file_for left right relation) _ _ file-long
      ∙ ap (λ (n : ℕ). drop n output) file-long

  -- ---- the demand

  module _ (z : (make_answer left right relation output).code ≡ 0) where
    output-is : make_output left right relation output ≡ put_front (file_for left right relation) output
    output-is = sym (made_by left right relation output (zero-passed z)).1

    certificate-is : take (certificate_length (sizes_of left right)) (make_output left right relation output) ≡ file_for left right relation
    certificate-is = ap (take (certificate_length (sizes_of left right))) output-is ∙ front-is

  zero-iff : ((make_answer left right relation output).code ≡ 0) ↔ StepPathProperty (view_of left right relation)
  zero-iff = (
    λ z. steps-iff.0 (zero-succeeds z),
    λ p. ap (λ (a : Answer). a.code) (sym (made_by left right relation output (succeeds-passed (steps-iff.1 p))).0),
  )

  accepted-steps : (c : List ℕ) → AreBytes c → HasRows left right relation c → (judge_answer left right c).code ≡ 0
      → StepPathProperty (view_of left right relation)
  accepted-steps c b r k =
      sound (view_of left right relation) (ranks_of (sizes_of left right) c) (given-formed left right relation given)
      (accepted-file left right relation given c b r k)

  pub maker-exact : MakerExact left right relation output (make_answer left right relation output) (make_output left right relation output)
  maker-exact =
      record {
        succeeds = zero-iff;
        plain-succeeds = λ p. (λ z. (states-iff p).0 (zero-iff.0 z), λ q. zero-iff.1 ((states-iff p).1 q));
        success = λ z. (zero-made left right relation output given.relation-bytes z).1;
        written = λ z. subst (DefinedFile left right relation) (sym (certificate-is z)) (file-defined (zero-succeeds z));
        rest-stays = λ z. ap (drop (certificate_length (sizes_of left right))) (output-is z) ∙ back_is;
        judged = λ z. subst (λ (f : List ℕ). (judge_answer left right f).code ≡ 0) (sym (certificate-is z)) (file-judged (zero-succeeds z));
        untouched = untouched left right relation output;
        no_other = accepted-steps;
        plain-no-other = λ p c b r k. (states-iff p).0 (accepted-steps c b r k);
      }
