-- Demand 1 for the judge, `judge-answers`: its six numbers are those of the first cause that applies, and where none applies the counts of an acceptance.
-- Assumes nothing.
use Rattle.std.specs.Prelude.{Ok}
use Prim.Native.Nat.{ℕ, ◌+◌, ◌*◌, ◌≤◌}
use mathlib.Core.Path.{◌≡◌, refl, sym, ◌∙◌, subst}
use mathlib.Core.Logic.{◌↔◌}
use mathlib.Core.List.{List}
use native.Mathlib.Omega.{arith}
use Rattle.lists.specs.Below.{sum_below}
use Rattle.lists.specs.Lists.{Counts}
use Rattle.words.specs.Bits.{count_bits}
use Rattle.answers.specs.Causes.{FirstCause, NoCause}
use Rattle.answers.specs.declared.Answer.{Answer}
use Rattle.answers.proofs.CauseLaws.{refused-iff, zero-none, none-zero}
use Rattle.answers.proofs.VerdictLaws.{then-on, decided-answer}
use Rattle.tables.specs.Table.{states_of, steps_of}
use Rattle.tables.specs.Model.{system_of}
use Rattle.table_reader.specs.declared.Known.TheVariants.{Both}
use Rattle.table_pairs.specs.TablePairs.{tables_verdict}
use Rattle.certificates.specs.Layout.{sizes_of, rows_part, row_of}
use Rattle.certificates.specs.CertificateModel.{view_of, certified_view as view, certified_ranks as ranks}
use Rattle.certificate_reader.specs.CertificateReading.{read_certificate}
use Rattle.certificate_reader.specs.CertificateVerdicts.{certificate_verdict}
use Rattle.outcomes.specs.declared.Clause.{Clause}
use Rattle.outcomes.specs.declared.Clause.TheVariants.{Step, Stutter, Match}
use Rattle.obligations.specs.CheckCauses.{CheckMetBy}
use Rattle.starts.specs.StartsNamed.{starts_named}
use Rattle.obligations.specs.Judging.{checks, obligations_of}
use Rattle.starts.specs.StartsVerdict.{starts_verdict}
use Rattle.obligations.proofs.CountLaws.{count-checks, obligations-most}
use Rattle.sweeps.specs.Tallies.{none, count_of, acceptance}
use Rattle.checker.specs.Judge.{pairs_in, judged, judged_bytes, judge_verdict, judge_known, judge_answer}
use Rattle.checker.specs.JudgeCauses.{judge_causes, judge_number}
use Rattle.sweeps.specs.declared.Tally.{Tally}
use Rattle.sweeps.proofs.TallyLaws.{along-counts, along-total}
use Rattle.checker.proofs.JudgeCauseLaws.{judge-decided, judge-numbers}
use Rattle.demands.specs.Demand1.{Accepted, JudgeAnswers}

module _ (left right c : List ℕ) where
  pairs-are : pairs_in (rows_part c (sizes_of left right)) (states_of left) ≡ sum_below (states_of left) (λ s. count_bits (row_of (rows_part c (sizes_of left right)) s))
  unfolding pairs_in
  pairs-are = refl

  most : obligations_of (view left right c) ≤ steps_of left * states_of right + steps_of right * states_of left
  unfolding view_of system_of
  most = obligations-most (view left right c)

  from-none : (clause : Clause) (n : ℕ) → count_of clause none + n ≡ n
  from-none Step n = omega arith
  from-none Stutter n = omega arith
  from-none Match n = omega arith

  -- where the judge goes on to the end, its tally has every obligation under the clause that meets it
  counted : (y : Tally) → judge_verdict Both left right c ≡ Ok y
      → Accepted left right c (acceptance (pairs_in (rows_part c (sizes_of left right)) (states_of left)) y)
  unfolding judge_verdict judged_bytes judged
  counted y e =
      let v = view left right c in
      let r = ranks left right c in
      let a = then-on (tables_verdict Both left right) e in
      let d = then-on (certificate_verdict 2 (read_certificate (sizes_of left right) c)) a.2 in
      let f = then-on (starts_verdict v (starts_named left right)) d.2 in
      let count : (clause : Clause) → Counts (CheckMetBy v r clause) (checks v) (count_of clause y) =
      λ clause.
      let k = along-counts v r clause (checks v) none y f.2 in
      subst (Counts (CheckMetBy v r clause) (checks v)) (sym (k.2 ∙ from-none clause k.0)) k.1 in
      let s = along-total v r (checks v) none y f.2 in
      let t = count-checks v in
      let m = most in
      record {
        code-0 = refl;
        file-0 = refl;
        pairs = pairs-are;
        by-2a = count Step;
        by-2b = count Stutter;
        by-2c = count Match;
        together = omega arith;
        at_most = omega arith;
      }

  -- the judge answers with the first cause that applies, and where none applies as an acceptance should
  pub judge-answers : JudgeAnswers left right c (judge_answer left right c)
  unfolding judge_known
  judge-answers =
      decided-answer (Accepted left right c) (acceptance (pairs_in (rows_part c (sizes_of left right)) (states_of left)))
      (judge_verdict Both left right c) (judge-decided Both left right c) (λ y e n. counted y e)

  -- each refusal is answered exactly where its cause is the first that applies
  pub judge-refuses : (a : Answer) → FirstCause (judge_causes left right c) a ↔ ((judge_answer left right c ≡ a) × (¬ (a.code ≡ 0)))
  judge-refuses =
      refused-iff (Accepted left right c) (judge_causes left right c) (judge_answer left right c) judge-answers
      judge_number (judge-numbers Both left right c) (λ file h. h) (λ a s. s.code-0)

  -- the code is 0 exactly where no cause applies
  pub zero-accepted : (judge_answer left right c).code ≡ 0 → NoCause (judge_causes left right c) × Accepted left right c (judge_answer left right c)
  zero-accepted =
      zero-none (Accepted left right c) (judge_causes left right c) (judge_answer left right c) judge-answers
      judge_number (judge-numbers Both left right c) (λ file h. h) (λ a s. s.code-0)

  pub accepted-zero : NoCause (judge_causes left right c) → (judge_answer left right c).code ≡ 0
  accepted-zero =
      none-zero (Accepted left right c) (judge_causes left right c) (judge_answer left right c) judge-answers
      judge_number (judge-numbers Both left right c) (λ file h. h) (λ a s. s.code-0)
