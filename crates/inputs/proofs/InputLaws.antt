-- Laws of what was read: that all three were read where the reading goes on. Assumes nothing.
use Rattle.std.proofs.Common.{Result, Ok, Err}
use Prim.Native.Nat.{ℕ}
use mathlib.Core.Path.{◌≡◌, sym, ap, ◌∙◌}
use mathlib.Core.List.{List}
use Rattle.answers.specs.Verdicts.{Verdict, refusal_of}
use Rattle.answers.specs.declared.Answer.{Answer}
use Rattle.answers.proofs.VerdictLaws.{then-on}
use Rattle.refusals.specs.declared.RelationRefusal.{RelationRefusal}
use Rattle.table_reader.specs.declared.Known.TheVariants.{Both}
use Rattle.table_reader.specs.TableReading.{read_table}
use Rattle.table_pairs.specs.declared.Heads.{Heads}
use Rattle.table_pairs.specs.TablePairs.{tables_verdict}
use Rattle.table_pairs.proofs.PairLaws.{BothRead, tables-read, read-tables}
use Rattle.certificates.specs.Layout.{sizes_for, sizes_of}
use Rattle.certificates.specs.declared.Sizes.{Sizes}
use Rattle.certificate_reader.specs.CertificateReading.{read_relation}
use Rattle.certificate_reader.specs.CertificateVerdicts.{relation_verdict}
use Rattle.certificate_reader.proofs.CertificateCauseLaws.{relation-on}
use Rattle.certificate_reader.proofs.CertificateLaws.{sizes-are}
use Rattle.inputs.specs.Inputs.{InputsRead, read_verdict}

-- the sizes that the headers of the two tables give are those that their bytes give
pub sizes-read : (left right : List ℕ) {h : Heads} → tables_verdict Both left right ≡ Ok h → sizes_for h.left h.right ≡ sizes_of left right
sizes-read left right e = let read = tables-read Both left right e in sizes-are left right read.left-good read.right-good

module _ (left right relation : List ℕ) where
  -- where the reading goes on, all three were read, and the headers are theirs
  pub inputs_read : {h : Heads} → read_verdict left right relation ≡ Ok h
      → (read_table left ≡ Ok h.left) × (read_table right ≡ Ok h.right) × InputsRead left right relation
  unfolding read_verdict
  inputs_read {h} e =
      let p = then-on (tables_verdict Both left right) e in
      let r = then-on (relation_verdict 2 (read_relation (sizes_of left right) relation)) p.2 in
      let same : ◌≡◌ {A = Heads} p.0 h = cc r.2 in
      let read : BothRead left right h = tables-read Both left right (p.1 ∙ ap Ok same) in (
        read.left-good,
        read.right-good,
        record {
          head = h.left;
          head' = h.right;
          sizes = r.0;
          left-good = read.left-good;
          right-good = read.right-good;
          one-kind = read.one-kind;
          relation-good = relation-on 2 (read_relation (sizes_of left right) relation) r.1;
        },
      )

  -- and back
  pub read-inputs : (w : InputsRead left right relation) → read_verdict left right relation ≡ Ok (record { left = w.head; right = w.head' })
  unfolding read_verdict
  read-inputs w =
      rw (
        read-tables left right (record { left-good = w.left-good; right-good = w.right-good; one-kind = w.one-kind }),
        w.relation-good,
      )

  -- ---- as the code comes to them

  pub tables-refuse : {x : Verdict Heads} {a : Answer} → x ≡ tables_verdict Both left right → x ≡ Err a → x ≡ read_verdict left right relation
  unfolding read_verdict
  tables-refuse e q = q ∙ sym (rw (sym e ∙ q))

  module _ {h : Heads} (read : tables_verdict Both left right ≡ Ok h) where
    pub relation-refuses : {x : Result Sizes RelationRefusal} {r : RelationRefusal} → x ≡ read_relation (sizes_of left right) relation → x ≡ Err r
        → ◌≡◌ {A = Verdict Heads} (Err (refusal_of (relation_verdict 2 x))) (read_verdict left right relation)
    unfolding read_verdict
    relation-refuses e q = rw (read, ← e, q)

    pub all_read : {z : Sizes} → read_relation (sizes_of left right) relation ≡ Ok z → ◌≡◌ {A = Verdict Heads} (Ok h) (read_verdict left right relation)
    unfolding read_verdict
    all_read gr = rw (read, gr)
