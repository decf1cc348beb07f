-- Demand 1 for the maker, `maker-answers`: its six numbers are those of the first cause that applies, and 0, 0, L where none applies; a refusal leaves the
-- output as it was. Assumes nothing.
use Prim.Native.Nat.{ℕ, ◌≤◌}
use mathlib.Core.Path.{◌≡◌, refl, ap}
use mathlib.Core.Logic.{◌↔◌}
use mathlib.Core.List.{List}
use native.Mathlib.Omega.{arith}
use lib.ListN.{length}
use Rattle.answers.specs.Numbers.{six_numbers}
use Rattle.answers.specs.Causes.{FirstCause, NoCause}
use Rattle.answers.specs.declared.Answer.{Answer}
use Rattle.answers.proofs.CauseLaws.{append-none, refused-iff, zero-none}
use Rattle.answers.proofs.VerdictLaws.{decided-answer, refused-output}
use Rattle.table_reader.specs.declared.Known.TheVariants.{Both}
use Rattle.table_pairs.specs.PairCauses.{tables_causes}
use Rattle.table_pairs.proofs.PairCauseLaws.{tables-none}
use Rattle.certificates.specs.Layout.{sizes_of, certificate_length}
use Rattle.certificates.specs.CertificateModel.{AreBytes}
use Rattle.certificate_reader.specs.CertificateCauses.{relation_causes}
use Rattle.inputs.specs.InputCauses.{input_causes}
use Rattle.ranking.specs.Make.{make_verdict, file_for, make_answer, make_output}
use Rattle.ranking.specs.MakerCauses.{maker_causes, maker_number}
use Rattle.ranking.proofs.MakerCauseLaws.{maker-decided, maker-numbers}
use Rattle.demands.specs.Demand1.{Made, MakerAnswers}
use Rattle.demands.specs.Demand2.{WellFormedInputs}

module _ (left right relation output : List ℕ) where
  -- a refusal leaves the output as it was, whatever the lists
  pub untouched : ¬ ((make_answer left right relation output).code ≡ 0) → make_output left right relation output ≡ output
  unfolding make_answer make_output
  untouched n = refused-output _ (λ x. refl) (make_verdict left right relation output) n (file_for left right relation) output

  module _ (bytes : AreBytes relation) where
    -- the maker answers with the first cause that applies, and a refusal leaves the output untouched
    pub maker-answers : MakerAnswers left right relation output (make_answer left right relation output) (make_output left right relation output)
    unfolding make_answer
    maker-answers =
        record {
          answers =
              decided-answer (Made left right) (λ x. six_numbers 0 0 (certificate_length (sizes_of left right)))
              (make_verdict left right relation output) (maker-decided left right relation bytes output) (λ x e n. refl);
          untouched = untouched;
        }

    -- each refusal is answered exactly where its cause is the first that applies
    pub maker-refuses : (a : Answer) → FirstCause (maker_causes left right relation output) a ↔ ((make_answer left right relation output ≡ a) × (¬ (a.code ≡ 0)))
    maker-refuses =
        refused-iff (Made left right) (maker_causes left right relation output) (make_answer left right relation output)
        maker-answers.answers maker_number (maker-numbers left right relation output) (λ file h. h) (λ a s. ap (λ (x : Answer). x.code) s)

    -- where the code is 0 no cause applies
    pub zero-made : (make_answer left right relation output).code ≡ 0
        → NoCause (maker_causes left right relation output) × Made left right (make_answer left right relation output)
    zero-made =
        zero-none (Made left right) (maker_causes left right relation output) (make_answer left right relation output)
        maker-answers.answers maker_number (maker-numbers left right relation output) (λ file h. h) (λ a s. ap (λ (x : Answer). x.code) s)

    -- a success says that the two tables and the relation are well formed and that the output is long enough
    pub made-given : (make_answer left right relation output).code ≡ 0
        → WellFormedInputs left right relation × (certificate_length (sizes_of left right) ≤ length output)
    made-given e =
        let n = append-none (input_causes left right relation) _ (zero-made e).0 in
        let t = append-none (tables_causes Both left right) (relation_causes 2 (sizes_of left right) relation) n.0 in
        let room = n.1.0 in (
          record { tables = tables-none Both left right t.0; relation-formed = t.1; relation-bytes = bytes },
          omega arith,
        )
