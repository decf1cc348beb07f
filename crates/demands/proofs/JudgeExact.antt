-- Demand 2 on bytes: `judge-exact` says which certificates the judge accepts, with which counts, and how their ranks and the paper's meet. The key is that
-- no cause applies exactly where the files are well formed and document 01's clauses hold of the systems, relation and ranks that the bytes give; what the
-- theory says of these clauses is then said of the bytes. Assumes nothing.
use Prim.Native.Nat.{ℕ, ◌<◌}
use mathlib.Core.Path.{◌≡◌}
use mathlib.Core.Logic.{◌↔◌}
use mathlib.Core.List.{List}
use lib.Dec.{T}
use Rattle.bisimulation.specs.Systems.{WellFormed, NoTwice, StartsRule}
use Rattle.bisimulation.specs.Clauses.{Meets, Certified}
use Rattle.bisimulation.specs.Judge.{accepts}
use Rattle.bisimulation.specs.Namjoshi.{BisimulationWithoutConjunct, InitialStatesRelated}
use Rattle.bisimulation.specs.Triples.{triple_rank}
use Rattle.bisimulation.proofs.ClauseLaws.{accepts-iff}
use Rattle.bisimulation.proofs.Literal.{literal-accepted, accepted-literal}
use Rattle.bisimulation.proofs.NamjoshiTheorems.{bisimulation-accepted, accepted-bisimulation, certified-iff-triples}
use Rattle.answers.specs.Causes.{NoCause}
use Rattle.answers.proofs.CauseLaws.{none-append, append-none}
use Rattle.table_reader.specs.TableReading.{head_of}
use Rattle.table_reader.proofs.TableLaws.{table-formed}
use Rattle.table_reader.specs.declared.Known.TheVariants.{Both}
use Rattle.table_pairs.specs.PairCauses.{tables_causes}
use Rattle.table_pairs.proofs.PairCauseLaws.{tables-none, none-tables, formed-read}
use Rattle.table_pairs.proofs.PairLaws.{BothRead}
use Rattle.certificates.specs.Layout.{sizes_of, rows_part}
use Rattle.certificates.specs.CertificateModel.{AreBytes, view_of, certified_view as view, certified_ranks as ranks}
use Rattle.certificates.proofs.ModelLaws.{view-plain}
use Rattle.certificate_reader.specs.CertificateCauses.{certificate_causes}
use Rattle.certificate_reader.proofs.CertificateCauseLaws.{certificate-none-good}
use Rattle.starts.specs.StartsNamed.{starts_named}
use Rattle.starts.specs.StartsCauses.{starts_causes}
use Rattle.obligations.proofs.JudgingLaws.{none-iff}
use Rattle.starts.proofs.StartsLaws.{starts-iff}
use Rattle.checker.specs.Judge.{judge_answer}
use Rattle.checker.specs.JudgeCauses.{judge_causes}
use Rattle.checker.proofs.SidesReadLaws.{formed}
use Rattle.checker.proofs.JudgeCauseLaws.{after_starts, after_certificate, after_tables}
use Rattle.demands.specs.Demand2.{BothPlain, AllWellFormed, TriplesExact, JudgeExact}
use Rattle.demands.proofs.OneStartLaws.{names-starts}
use Rattle.demands.proofs.JudgeAnswers.{zero-accepted, accepted-zero}

module _ (left right c : List ℕ) (bytes : AreBytes c) where
  -- ---- what well-formed files give the theory

  module _ (w : AllWellFormed left right c) where
    read : BothRead left right (record { left = head_of left; right = head_of right })
    read = formed-read left right w.tables

    pub formed-view : WellFormed (view left right c)
    formed-view =
        formed left right c
        (record {
          sizes = sizes_of left right;
          left-good = read.left-good;
          right-good = read.right-good;
          one-kind = read.one-kind;
          certificate-good = certificate-none-good 2 (sizes_of left right) c w.certificate-formed;
        })
        bytes

    -- no cause 16 applies exactly where the starts rule holds
    starts-are : NoCause (starts_causes (view left right c) (starts_named left right))
        ↔ StartsRule (view left right c)
    starts-are =
        starts-iff (view left right c) formed-view.here.initial< formed-view.there.initial< (starts_named left right)
        (names-starts left right (rows_part c (sizes_of left right)) read.left-good read.right-good)

    module _ (p : BothPlain left right) where
      no-twice : NoTwice (view left right c).own × NoTwice (view left right c).other
      unfolding view_of
      no-twice = ((table-formed left read.left-good).no-twice p.0, (table-formed right read.right-good).no-twice p.1)

      -- document 01's clauses are the paper's without the conjunct of 2c, with the rank of triples
      triples-are : Certified Meets (view left right c) (ranks left right c)
          ↔ (InitialStatesRelated (view left right c) × BisimulationWithoutConjunct (view left right c) ◌<◌
          (triple_rank (view left right c) (ranks left right c)))
      triples-are =
          certified-iff-triples (view left right c) formed-view (view-plain left right (rows_part c (sizes_of left right)) p.0 p.1)
          no-twice.0 no-twice.1 (ranks left right c)

  -- ---- where no cause applies

  none-certified : NoCause (judge_causes left right c) → AllWellFormed left right c × Certified Meets (view left right c) (ranks left right c)
  none-certified n =
      let t = append-none (tables_causes Both left right) (after_tables left right c) n in
      let d = append-none (certificate_causes 2 (sizes_of left right) c) (after_certificate left right c) t.1 in
      let w : AllWellFormed left right c = record { tables = tables-none Both left right t.0; certificate-formed = d.0 } in
      let e = append-none (starts_causes (view left right c) (starts_named left right)) (after_starts left right c) d.1 in
      let i = (starts-are w).0 e.0 in
      let m = (none-iff (view left right c) (formed-view w) (ranks left right c)).0 e.1 in
      (w, record { starts = i; labels = m.0; own-met = m.1; other-met = m.2 })

  certified-none : AllWellFormed left right c → Certified Meets (view left right c) (ranks left right c) → NoCause (judge_causes left right c)
  certified-none w m =
      none-append (tables_causes Both left right) (after_tables left right c) (none-tables left right w.tables)
      (none-append (certificate_causes 2 (sizes_of left right) c) (after_certificate left right c) w.certificate-formed
      (none-append (starts_causes (view left right c) (starts_named left right)) (after_starts left right c) ((starts-are w).1 m.starts)
      ((none-iff (view left right c) (formed-view w) (ranks left right c)).1 (m.labels, m.own-met, m.other-met))))

  -- the judge accepts where the theory's does, and only there
  pub accepts-code : AllWellFormed left right c → T (accepts (view left right c) (ranks left right c)) → (judge_answer left right c).code ≡ 0
  accepts-code w h = accepted-zero left right c (certified-none w ((accepts-iff (view left right c) (formed-view w) (ranks left right c)).0 h))

  pub code-accepts : (judge_answer left right c).code ≡ 0 → (w : AllWellFormed left right c) × T (accepts (view left right c) (ranks left right c))
  code-accepts e =
      let q = none-certified (zero-accepted left right c e).0 in
      (q.0, (accepts-iff (view left right c) (formed-view q.0) (ranks left right c)).1 q.1)

  triples-exact : BothPlain left right → TriplesExact left right c (judge_answer left right c)
  triples-exact p =
      let v = view left right c in
      let r = ranks left right c in
      let k = view-plain left right (rows_part c (sizes_of left right)) p.0 p.1 in
      record {
        triples = (
          λ e. let q = none-certified (zero-accepted left right c e).0 in let x = (triples-are q.0 p).0 q.1 in (q.0, x.0, x.1),
          λ x. accepted-zero left right c (certified-none x.0 ((triples-are x.0 p).1 (x.1, x.2))),
        );
        literal-accepted = λ w i b. accepts-code w (bisimulation-accepted v (formed-view w) k (no-twice w p).0 (no-twice w p).1 r i b);
        accepted-raised = λ e. let q = code-accepts e in accepted-bisimulation v (formed-view q.0) k r q.1;
      }

  pub judge-exact : JudgeExact left right c (judge_answer left right c)
  judge-exact =
      record {
        certificates = (λ e. none-certified (zero-accepted left right c e).0, λ p. accepted-zero left right c (certified-none p.0 p.1));
        counted = λ e. (zero-accepted left right c e).1;
        literal-accepted = λ w m. accepts-code w (literal-accepted (view left right c) (formed-view w) (ranks left right c) m);
        accepted-raised = λ e. let q = code-accepts e in accepted-literal (view left right c) (formed-view q.0) (ranks left right c) q.1;
        plain = triples-exact;
      }
