-- The judge's verdict is decided by its causes: it refuses with the numbers of the first that applies, and goes on where none does. Assumes nothing.
use Prim.Native.Nat.{ℕ}
use mathlib.Core.Path.{◌≡◌, refl}
use mathlib.Core.Bool.{Bool}
use mathlib.Core.List.{List, [], ◌∷◌, ◌++◌, flat_map}
use lib.Dec.{T}
use Rattle.bisimulation.specs.Systems.{View, Ranks}
use Rattle.answers.specs.Causes.{Cause, NoCause, Numbered, allows}
use Rattle.answers.proofs.CauseLaws as causes
use Rattle.answers.proofs.CauseLaws.{append-none, none-append, numbered-append, numbered-flat}
use Rattle.answers.proofs.VerdictLaws.{Decided, Anything, decided-then, decided-along, decided-go, decided-answer}
use Rattle.table_reader.specs.declared.Known.{Known}
use Rattle.table_reader.specs.declared.Known.TheVariants.{Both}
use Rattle.table_reader.specs.TableReading.{head_of}
use Rattle.table_reader.proofs.TableCauseLaws.{formed-good}
use Rattle.table_pairs.specs.PairCauses.{tables_causes}
use Rattle.table_pairs.proofs.PairCauseLaws.{tables-none, none-tables, formed-read, after-tables, tables-numbers}
use Rattle.table_reader.proofs.TableLaws.{table-formed}
use Rattle.certificates.specs.Layout.{sizes_of}
use Rattle.certificates.specs.CertificateModel.{view_of, certified_view, certified_ranks}
use Rattle.certificate_reader.specs.CertificateReading.{read_certificate}
use Rattle.certificate_reader.specs.CertificateVerdicts.{certificate_verdict}
use Rattle.certificate_reader.specs.CertificateCauses.{certificate_causes}
use Rattle.certificate_reader.proofs.CertificateCauseLaws.{certificate_numbers, certificate-decided, certificate-numbers, certificate-none-good}
use Rattle.starts.specs.StartsNamed.{StartsNamed, starts_named}
use Rattle.obligations.specs.CheckCauses.{check_causes}
use Rattle.starts.specs.StartsCauses.{starts_causes}
use Rattle.obligations.specs.Judging.{checks, check_verdict}
use Rattle.starts.specs.StartsVerdict.{starts_verdict}
use Rattle.obligations.proofs.JudgingLaws.{check-decided, check-numbers}
use Rattle.starts.proofs.StartsLaws.{StartsBelow, starts-decided, starts-numbers}
use Rattle.sweeps.specs.Tallies.{none, counted, tallied}
use Rattle.checker.specs.Judge.{AllRead, judged, judged_bytes, judge_verdict, judge_known}
use Rattle.checker.specs.JudgeCauses.{known_judge_causes, judge_causes, judge_number}

pub judged-decided : (v : View) (r : Ranks) (named : StartsNamed) → StartsBelow v.own → StartsBelow v.other
    → Decided Anything (starts_causes v named ++ flat_map (check_causes v r) (checks v)) (judged v r named)
unfolding judged
judged-decided v r named below below' =
    decided-then (starts_verdict v named) (starts-decided v below below' named) λ x g n.
    decided-along (check_causes v r) (λ c. tallied (check_verdict v r c))
    (λ c y. decided-go (check_verdict v r c) (counted y) (check-decided v r c)) (checks v) none

module _ (left right c : List ℕ) where
  -- the causes after the starts, after the certificate, and after the tables
  abbrev pub after_starts : List Cause
  after_starts = flat_map (check_causes (certified_view left right c) (certified_ranks left right c)) (checks (certified_view left right c))

  abbrev pub after_certificate : List Cause
  after_certificate = starts_causes (certified_view left right c) (starts_named left right) ++ after_starts

  abbrev pub after_tables : List Cause
  after_tables = certificate_causes 2 (sizes_of left right) c ++ after_certificate

  -- 10 to 15, then 16, then 17 to 19 with the file 2
  pub after-numbers : (f : ℕ → ℕ → Bool) → T (allows f 2 certificate_numbers) → T (f 16 2) → T (allows f 2 (17 ∷ 18 ∷ 19 ∷ [])) → Numbered f after_tables
  after-numbers f h k l =
      numbered-append f (certificate_causes 2 (sizes_of left right) c) after_certificate (certificate-numbers f 2 h (sizes_of left right) c)
      (numbered-append f (starts_causes (certified_view left right c) (starts_named left right)) after_starts
      (starts-numbers f k (certified_view left right c) (starts_named left right))
      (numbered-flat f (check_causes (certified_view left right c) (certified_ranks left right c))
      (check-numbers f l (certified_view left right c) (certified_ranks left right c)) (checks (certified_view left right c))))

module _ (known : Known) (left right c : List ℕ) where
  pub judge-decided : Decided Anything (known_judge_causes known left right c) (judge_verdict known left right c)
  unfolding judge_verdict judged_bytes view_of
  judge-decided =
      after-tables known left right λ w.
      decided-then (certificate_verdict 2 (read_certificate (sizes_of left right) c)) (certificate-decided 2 (sizes_of left right) c) λ z e n.
      judged-decided (certified_view left right c) (certified_ranks left right c) (starts_named left right)
      (table-formed left (formed-good left w.left-formed)).initial< (table-formed right (formed-good right w.right-formed)).initial<

  -- a table's with the file 0 or 1, 30 with the file 1, and 10 to 19 with the file 2
  pub judge-numbers : Numbered judge_number (known_judge_causes known left right c)
  judge-numbers =
      numbered-append judge_number (tables_causes known left right) (after_tables left right c) (tables-numbers known left right judge_number tt tt tt)
      (after-numbers left right c judge_number tt tt tt)

  -- where the code is 0, no cause applies, and all three files are read
  pub zero-none : (judge_known known left right c).code ≡ 0 → NoCause (known_judge_causes known left right c)
  unfolding judge_known
  zero-none e =
      (causes.zero-none (λ a. a.code ≡ 0) (known_judge_causes known left right c) (judge_known known left right c)
      (decided-answer (λ a. a.code ≡ 0) _ (judge_verdict known left right c) judge-decided (λ y g n. refl))
      judge_number judge-numbers (λ file h. h) (λ a z. z) e).0

  -- where no cause applies to tables of these kinds, none applies to tables of both
  pub known-none : NoCause (known_judge_causes known left right c) → NoCause (judge_causes left right c)
  known-none n =
      let a = append-none (tables_causes known left right) (after_tables left right c) n in
      none-append (tables_causes Both left right) (after_tables left right c) (none-tables left right (tables-none known left right a.0)) a.1

  pub zero-read : (judge_known known left right c).code ≡ 0 → AllRead left right c (head_of left) (head_of right)
  zero-read e =
      let a = append-none (tables_causes known left right) (after_tables left right c) (zero-none e) in
      let d = append-none (certificate_causes 2 (sizes_of left right) c) (after_certificate left right c) a.1 in
      let read = formed-read left right (tables-none known left right a.0) in
      record {
        sizes = sizes_of left right;
        left-good = read.left-good;
        right-good = read.right-good;
        one-kind = read.one-kind;
        certificate-good = certificate-none-good 2 (sizes_of left right) c d.0;
      }
