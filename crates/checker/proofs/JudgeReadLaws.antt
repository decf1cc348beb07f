-- Where two tables and a certificate are read, the judge's answer is that of the theory's checks of the view and ranks that the bytes give. Assumes nothing.
use Rattle.std.specs.Prelude.{Ok, Err}
use Prim.Native.Nat.{ℕ}
use mathlib.Core.Path.{◌≡◌, refl, ap, ap₂, ◌∙◌}
use mathlib.Core.List.{List, map}
use lib.ListN.{get_or}
use Rattle.lists.specs.Below.{sum_below}
use Rattle.words.specs.Bits.{count_bits}
use Rattle.bisimulation.specs.Systems.{View, Ranks}
use Rattle.tables.specs.declared.Head.{Head}
use Rattle.tables.specs.Table.{states_of}
use Rattle.table_reader.proofs.TableLaws.{table-ok}
use Rattle.certificates.specs.declared.Sizes.{Sizes}
use Rattle.certificates.specs.Layout.{sizes_of, rows_part}
use Rattle.certificates.specs.CertificateModel.{AreBytes, certified_view, certified_ranks}
use Rattle.answers.specs.Verdicts.{Verdict, ◌and_then◌, along, answer_of}
use Rattle.relation_words.proofs.RelationLaws.{rows-ones}
use Rattle.certified_sides.specs.Made.{SidesMade}
use Rattle.starts.specs.StartsNamed.{starts_named}
use Rattle.obligations.specs.Judging.{checks, check_verdict}
use Rattle.starts.specs.StartsVerdict.{starts_verdict, starts_in}
use Rattle.obligations.specs.OnSides.{left_run, right_run}
use Rattle.starts.proofs.OnSidesLaws.{starts-in}
use Rattle.sweeps.specs.declared.Tally.{Tally}
use Rattle.sweeps.specs.Tallies.{none, tallied, acceptance}
use Rattle.sweeps.specs.SideVerdicts.{progress, end_answer, all_verdicts}
use Rattle.sweeps.proofs.ProgressLaws.{end-answer}
use Rattle.sweeps.proofs.SideVerdictLaws.{verdicts-are}
use Rattle.checker.specs.OnSides.{sides_verdict}
use Rattle.checker.specs.Judge.{AllRead, pairs_in, judged, judged_bytes, read_answer}
use Rattle.checker.proofs.SidesReadLaws.{SidesRead, made-sizes, made-words, sides-read}
use Rattle.sides.specs.declared.Side.{Side}

-- ---- two tables and a certificate that are read

module _ (left right c : List ℕ) {h k : Head} (read : AllRead left right c h k) (bytes : AreBytes c) {z : Sizes} {words : List ℕ} {ours theirs : Side}
    (made : SidesMade left right c h k z words ours theirs) where
  abbrev view : View
  view = certified_view left right c

  abbrev ranks : Ranks
  ranks = certified_ranks left right c

  sides : SidesRead left right c ours theirs
  sides = sides-read left right c read made bytes

  starts-are : starts_in ours theirs ≡ starts_verdict view (starts_named left right)
  starts-are = starts-in ours theirs sides.holding.turned ∙ ap₂ starts_verdict sides.here sides.named

  -- the answer after all checks
  end_is : (pairs : ℕ) → end_answer pairs (progress (all_verdicts ours theirs c (left_run (sizes_of left right)) (right_run (sizes_of left right))) none)
      ≡ answer_of (acceptance pairs) (along (λ x. tallied (check_verdict view ranks x)) (checks view) none)
  end_is pairs =
      ap (λ (x : List _). end_answer pairs (progress x none))
      (verdicts-are ours theirs c (left_run (sizes_of left right)) (right_run (sizes_of left right)) ranks sides.holding
      ∙ ap (λ (v : View). map (check_verdict v ranks) (checks v)) sides.here)
      ∙ end-answer (check_verdict view ranks) pairs (checks view) none

  pairs-are : {pairs : ℕ} → pairs ≡ sum_below 64 (λ s. count_bits (get_or words s 0)) → pairs ≡ pairs_in (rows_part c (sizes_of left right)) (states_of left)
  unfolding pairs_in
  pairs-are e =
      e ∙ ap (λ (x : List ℕ). sum_below 64 (λ s. count_bits (get_or x s 0))) (made-words left right c read made)
      ∙ rows-ones (rows_part c (sizes_of left right)) (states_of left) (table-ok left read.left-good).states-le

  -- the judge's answer, from the two sides
  pub answers : {pairs : ℕ} → pairs ≡ sum_below 64 (λ s. count_bits (get_or words s 0)) → end_answer pairs (sides_verdict ours theirs c z) ≡ read_answer left right c
  unfolding sides_verdict judged_bytes judged
  answers {pairs} ep =
      rw (starts-are, pairs-are ep, made-sizes left right c read made)
      (after _ _ _ (starts_verdict view (starts_named left right)) (end_is (pairs_in (rows_part c (sizes_of left right)) (states_of left))))
    where
      -- a refusal of the starts answers, and else what comes after them
      after : (n : ℕ) (here there : Verdict Tally) (starts : Verdict (Unit {0})) → end_answer n here ≡ answer_of (acceptance n) there
          → end_answer n (starts and_then λ x. here) ≡ answer_of (acceptance n) (starts and_then λ x. there)
      after n here there (Ok x) e = e
      after n here there (Err a) e = refl
