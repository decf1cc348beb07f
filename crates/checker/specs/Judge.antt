-- The judge's answer for any three byte strings (document 01, The answer): the first cause that applies of the left table's, the right
-- table's, 30, 10 to 15, 16, and then labels and obligations in judging order; or the counts.
use Rattle.std.specs.Prelude.{ℕ, ◌≡◌, List, Ok}
use Rattle.lists.specs.Below.{sum_below}
use Rattle.words.specs.Bits.{count_bits}
use Rattle.bisimulation.specs.Systems.{View, Ranks}
use Rattle.tables.specs.Table.{states_of}
use Rattle.table_reader.specs.declared.Known.{Known}
use Rattle.table_reader.specs.declared.Known.TheVariants.{Both}
use Rattle.table_reader.specs.TableReading.{read_table}
use Rattle.table_pairs.specs.TablePairs.{tables_verdict}
use Rattle.table_pairs.specs.PairCauses.{OneKind}
use Rattle.answers.specs.Verdicts.{Verdict, ◌and_then◌, along, answer_of}
use Rattle.answers.specs.declared.Answer.{Answer}
use Rattle.tables.specs.declared.Head.{Head}
use Rattle.table_pairs.specs.declared.Heads.{Heads}
use Rattle.certificates.specs.Layout.{sizes_of, rows_part, row_of}
use Rattle.certificate_reader.specs.CertificateReading.{read_certificate}
use Rattle.certificate_reader.specs.CertificateVerdicts.{certificate_verdict}
use Rattle.certificates.specs.CertificateModel.{certified_view, certified_ranks}
use Rattle.certificates.specs.declared.Sizes.{Sizes}
use Rattle.starts.specs.StartsNamed.{StartsNamed, starts_named}
use Rattle.obligations.specs.Judging.{checks, check_verdict}
use Rattle.starts.specs.StartsVerdict.{starts_verdict}
use Rattle.sweeps.specs.declared.Tally.{Tally}
use Rattle.sweeps.specs.Tallies.{none, tallied, acceptance}

-- Both tables and the certificate are read, the tables with these headers and of one kind.
pub record AllRead (left right c : List ℕ) (head head' : Head) : Type 0 where
  pub sizes : Sizes
  pub left-good : read_table left ≡ Ok head
  pub right-good : read_table right ≡ Ok head'
  pub one-kind : OneKind left right
  pub certificate-good : read_certificate (sizes_of left right) c ≡ Ok sizes

-- The related pairs, as a count of one bits over the rows.
unfoldable pub pairs_in : List ℕ → ℕ → ℕ
pairs_in rows n1 = sum_below n1 (λ s. count_bits (row_of rows s))

-- 16 where the starts rule fails, then the checks in judging order: the obligations counted by clause, or the first refusal.
unfoldable pub judged : View → Ranks → StartsNamed → Verdict Tally
judged v r named = starts_verdict v named and_then λ x. along (λ c. tallied (check_verdict v r c)) (checks v) none

-- The same for the view and the ranks that the bytes give.
unfoldable pub judged_bytes : List ℕ → List ℕ → List ℕ → Verdict Tally
judged_bytes left right c = judged (certified_view left right c) (certified_ranks left right c) (starts_named left right)

-- The verdict on the three files: the headers of the tables, of the kinds that are known, or the first refusal.
unfoldable pub files_verdict : Known → List ℕ → List ℕ → List ℕ → Verdict Heads
files_verdict known left right c =
    tables_verdict known left right and_then λ heads.
    certificate_verdict 2 (read_certificate (sizes_of left right) c) and_then λ sizes.
    Ok heads

-- The verdict on any three byte strings, by a judge that knows these kinds of table.
unfoldable pub judge_verdict : Known → List ℕ → List ℕ → List ℕ → Verdict Tally
judge_verdict known left right c =
    tables_verdict known left right and_then λ heads.
    certificate_verdict 2 (read_certificate (sizes_of left right) c) and_then λ sizes.
    judged_bytes left right c

-- The answer after a verdict: the refusal's, or that of an acceptance, with the related pairs of the certificate's rows and the obligations counted.
abbrev pub answer_after : List ℕ → List ℕ → List ℕ → Verdict Tally → Answer
answer_after left right c = answer_of (acceptance (pairs_in (rows_part c (sizes_of left right)) (states_of left)))

-- The answer where all three are read.
abbrev pub read_answer : List ℕ → List ℕ → List ℕ → Answer
read_answer left right c = answer_after left right c (judged_bytes left right c)

-- The answer of a judge that knows these kinds of table.
unfoldable pub judge_known : Known → List ℕ → List ℕ → List ℕ → Answer
judge_known known left right c = answer_after left right c (judge_verdict known left right c)

-- The judge's answer. It knows both kinds.
abbrev pub judge_answer : List ℕ → List ℕ → List ℕ → Answer
judge_answer = judge_known Both
