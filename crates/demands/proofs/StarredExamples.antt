-- The starred bench examples of documents 01 and 02: the definitions, computed on the bytes. Assumes nothing.
use Prim.Native.Nat.{ℕ, zero, suc, ◌<◌}
use mathlib.Core.Path.{◌≡◌, refl, ap}
use mathlib.Core.Logic.{inr}
use mathlib.Core.List.{[], ◌∷◌, ◌++◌, flat_map}
use native.Mathlib.Decide.{dec_lt}
use native.Mathlib.Nat.{not-suc-le-zero, le_of_suc-le-suc}
use native.Mathlib.Omega.{arith}
use lib.Dec.{ltb, ltb→lt}
use lib.ListN.{length, take}
use Rattle.lists.specs.Below.{any_below, all_below, first_below, sum_below, count_below, most_below}
use Rattle.lists.specs.Numbers.{byte_at, big_endian, big_bytes}
use Rattle.lists.specs.Lists.{join_below, tabulate, grid, put_at, put_front}
use Rattle.lists.proofs.BelowLaws.{all-e}
use Rattle.lists.proofs.FillLaws.{get_or-past}
use Rattle.words.specs.Bits.{has_bit, add_bit, has_from, count_bits, first_bit}
use Rattle.bisimulation.specs.PathProperty.{PathProperty}
use Rattle.bisimulation.specs.Judge.{is2a, is2b, is2c}
use Rattle.bisimulation.specs.Matcher.{smallest_entered, smallest_step, moves, match_steps, match_path}
use Rattle.bisimulation.specs.PathMatching.{steps_along, numbered_from, followed, given_entries, matching_entries}
use Rattle.bisimulation.specs.Triples.{ahead, step_of}
use Rattle.bisimulation.specs.Systems.{steps_from}
use Rattle.bisimulation.specs.Maker.{matches_within, matched, distance, may_chain, chain_along, stutter_rank, match_rank}
use Rattle.tables.specs.Table.{
  layout_of,
  format_of,
  keyed,
  magic_fits,
  version_of,
  format_in,
  last_version,
  states_of,
  start_of,
  starts_of,
  start_word,
  initial_of,
  steps_of,
  steps_at,
  table_length,
  labels_part,
  steps_part,
  label_of,
  from_of,
  to_of,
  key_of,
}
use Rattle.table_reader.specs.TableReading.{magic_known, version_fits, states_fit, wrong_starts, ends_outside, same_step, doubled, greater, not_greater}
use Rattle.table_reader.specs.declared.Known.TheVariants.{Both}
use Rattle.table_reader.specs.TableReading.{read_length, read_sizes, read_header, read_steps, read_known}
use Rattle.table_reader.specs.TableReading.{head_of}
use Rattle.table_reader.proofs.TableCauseLaws.{good-formed}
use Rattle.table_pairs.specs.TablePairs.{same_kind, tables_verdict}
use Rattle.tables.specs.Model.{system_of}
use Rattle.certificates.specs.Layout.{sizes_of, certificate_length, al_at, ar_at, cl_at, cr_at, rows_part, row_of}
use Rattle.certificate_reader.specs.CertificateReading.{certificate_sizes_fit, wide_row, read_rows, read_certificate, read_relation}
use Rattle.certificate_reader.specs.CertificateReading as certificates
use Rattle.certificates.specs.CertificateModel.{AreBytes, related_in, view_of, ranks_of}
use Rattle.outcomes.specs.Obligation.{outcome_after2a, is_apart, obligation_at}
use Rattle.answers.specs.Verdicts.{room_verdict, along, first_of}
use Rattle.answers.specs.declared.Answer.{Answer}
use Rattle.starts.specs.StartsNamed.{starts_named}
use Rattle.obligations.specs.Judging.{pair_checks, checks_by, checks, check_verdict}
use Rattle.starts.specs.StartsVerdict.{unpaired, unpaired_verdict, starts_verdict}
use Rattle.files.specs.File.{certificate_header, certificate_file}
use Rattle.examination.specs.Examine.{examined, maker_verdict, verdict_by, may_keep, endless_at, first_chain, endless}
use Rattle.inputs.specs.Inputs.{read_verdict}
use Rattle.ranking.specs.Make.{file_for, examined_verdict, verdict_with, make_answer, make_output}
use Rattle.ranking.specs.Enquire.{same_slip, slip_verdict, enquiry_for, commit_answer, commit_output}
use Rattle.checker.specs.Judge.{pairs_in, judged, judged_bytes, judge_verdict, judge_known, judge_answer}
use Rattle.demands.specs.Demand2.{BothPlain, WellFormedInputs}
use Rattle.lister.specs.Listing.{check_lines, listing, listing_of}
use Rattle.path_matcher.specs.Following.{
  has_step,
  wrong_path,
  wrong_start,
  no_room,
  match_verdict,
  follow_verdict,
  follow_answer,
  follow_states,
  follow_blocks,
}
use Rattle.demands.specs.Ask9.{AllSilent}
use Rattle.demands.specs.Examples.{line, six, slip, run, P, Q, wide_p, keyed_p, keyed_q}
use Rattle.demands.specs.Examples.{starting_at, rows_pq, K, certificate, low, zeros, still, looping, still_certificate}
use Rattle.demands.proofs.MakerAnswers.{made-given}
use Rattle.demands.proofs.MakerExact.{maker-exact}

pub starred : (judge_answer P Q K ≡ six 0 0 3 4 1 1)
    × (judge_answer P Q (certificate 3 4 0 1) ≡ six 19 2 1 0 0 0)
    × (judge_answer P Q (certificate 3 4 1 0) ≡ six 19 2 0 0 0 0)
    × (judge_answer P Q (certificate 1 4 1 1) ≡ six 18 2 0 0 0 0)
    × (judge_answer P Q (certificate 2 4 1 1) ≡ six 16 2 0 0 0 0)
    × (judge_answer P Q (certificate 3 6 1 1) ≡ six 17 2 1 1 0 0)
    × (judge_answer P Q (certificate 11 4 1 1) ≡ six 15 2 0 0 0 0)
    × (judge_answer still still still_certificate ≡ six 0 0 1 0 0 0)
    × (make_answer still looping (low 1) (zeros 24) ≡ six 23 2 1 0 0 0)
unfolding
    any_below all_below first_below sum_below count_below big_endian has_bit add_bit has_from count_bits first_bit is2a is2b is2c ahead
    layout_of format_of keyed magic_fits magic_known version_of format_in last_version version_fits states_of states_fit start_word start_of steps_of initial_of
    table_length steps_at
    labels_part steps_part label_of from_of to_of key_of ends_outside same_step doubled read_length read_sizes read_header read_steps read_known same_kind tables_verdict
    system_of sizes_of certificate_length al_at ar_at cl_at cr_at rows_part row_of certificate_sizes_fit wide_row
    read_rows read_certificate certificates.read_header related_in view_of ranks_of smallest_entered outcome_after2a is_apart obligation_at
    join_below steps_from pair_checks checks_by checks along starts_named starts_verdict check_verdict pairs_in judged judged_bytes judge_verdict judge_known
    read_relation room_verdict examined first_of maker_verdict verdict_by may_keep endless_at first_chain endless
    matches_within matched distance may_chain chain_along stutter_rank match_rank most_below
    read_verdict examined_verdict verdict_with make_answer make_output file_for certificate_header certificate_file big_bytes tabulate grid put_at put_front
starred = (refl, refl, refl, refl, refl, refl, refl, refl, refl)

-- Q that starts at 0 or at 1 is as good as Q: both are related to P's start. Where it starts at 0 or at 2, the right start 2 is unpaired; with row 0 of 2
-- the right start 0 is; and with row 0 of 0 the left start is first. A start word of 0 or with the bit 3 gets 28, and a header of 15 bytes 1.
pub two-starts : (judge_answer P (starting_at 3) K ≡ six 0 0 3 4 1 1)
    × (make_answer P (starting_at 3) rows_pq (zeros 51) ≡ six 0 0 51 0 0 0)
    × (judge_answer P (starting_at 5) K ≡ six 16 2 1 2 0 0)
    × (make_answer P (starting_at 5) rows_pq (zeros 51) ≡ six 16 2 1 2 0 0)
    × (judge_answer P (starting_at 3) (certificate 2 4 1 1) ≡ six 16 2 1 0 0 0)
    × (judge_answer P (starting_at 3) (certificate 0 4 1 1) ≡ six 16 2 0 0 0 0)
    × (judge_answer P (starting_at 0) K ≡ six 28 1 0 0 0 0)
    × (judge_answer P (starting_at 8) K ≡ six 28 1 0 0 0 0)
    × (judge_answer P (take 15 (starting_at 3)) K ≡ six 1 1 0 0 0 0)
unfolding
    any_below all_below first_below sum_below count_below big_endian has_bit add_bit has_from count_bits first_bit is2a is2b is2c ahead
    layout_of format_of keyed magic_fits magic_known version_of format_in last_version version_fits states_of states_fit start_word start_of starts_of steps_of initial_of
    table_length steps_at wrong_starts
    labels_part steps_part label_of from_of to_of key_of ends_outside same_step doubled greater not_greater read_length read_sizes read_header read_steps read_known
    same_kind tables_verdict
    system_of sizes_of certificate_length al_at ar_at cl_at cr_at rows_part row_of certificate_sizes_fit wide_row
    read_rows read_certificate certificates.read_header related_in view_of ranks_of smallest_entered outcome_after2a is_apart obligation_at
    join_below steps_from pair_checks checks_by checks along starts_named unpaired unpaired_verdict starts_verdict check_verdict
    pairs_in judged judged_bytes judge_verdict judge_known read_relation room_verdict examined first_of maker_verdict verdict_by may_keep endless_at first_chain endless
    matches_within matched distance may_chain chain_along stutter_rank match_rank most_below
    read_verdict examined_verdict verdict_with make_answer make_output file_for certificate_header certificate_file big_bytes tabulate grid put_at put_front
two-starts = (refl, refl, refl, refl, refl, refl, refl, refl, refl)

-- P and Q with keys: where Q's pause is silent and the other steps have P's keys, the maker writes K and the judge accepts it; where Q's second step has
-- another key, or the pause has one, P's first step has no answer; one table with keys and one without get 30, after the right table is read; and no run is
-- followed, 2 for either table.
pub keyed-PQ : (judge_answer (keyed_p 7 9) (keyed_q 0 7 9) K ≡ six 0 0 3 4 1 1)
    × (make_answer (keyed_p 7 9) (keyed_q 0 7 9) rows_pq (zeros 51) ≡ six 0 0 51 0 0 0)
    × (make_output (keyed_p 7 9) (keyed_q 0 7 9) rows_pq (zeros 51) ≡ K)
    × (judge_answer (keyed_p 7 9) (keyed_q 0 8 9) K ≡ six 18 2 0 0 1 0)
    × (make_answer (keyed_p 7 9) (keyed_q 0 8 9) rows_pq (zeros 51) ≡ six 22 2 0 0 0 0)
    × (judge_answer (keyed_p 7 9) (keyed_q 5 7 9) K ≡ six 18 2 0 0 0 0)
    × (judge_answer P (keyed_q 0 7 9) K ≡ six 30 1 0 0 0 0)
    × (judge_answer P (take 15 (keyed_q 0 7 9)) K ≡ six 1 1 0 0 0 0)
    × (follow_answer (keyed_p 7 9) (keyed_q 0 7 9) K 0 0 run (zeros 12) (zeros 6) ≡ six 2 0 0 0 0 0)
    × (follow_answer P (keyed_q 0 7 9) K 0 0 run (zeros 12) (zeros 6) ≡ six 2 1 0 0 0 0)
unfolding
    any_below all_below first_below sum_below count_below big_endian has_bit add_bit has_from count_bits first_bit is2a is2b is2c ahead
    layout_of format_of keyed magic_fits magic_known version_of format_in last_version version_fits states_of states_fit start_word start_of starts_of steps_of initial_of
    table_length steps_at wrong_starts
    labels_part steps_part label_of from_of to_of key_of ends_outside same_step doubled greater not_greater read_length read_sizes read_header read_steps read_known
    same_kind tables_verdict
    system_of sizes_of certificate_length al_at ar_at cl_at cr_at rows_part row_of certificate_sizes_fit wide_row
    read_rows read_certificate certificates.read_header related_in view_of ranks_of smallest_entered outcome_after2a is_apart obligation_at
    join_below steps_from pair_checks checks_by checks along starts_named unpaired unpaired_verdict starts_verdict check_verdict
    pairs_in judged judged_bytes judge_verdict judge_known read_relation room_verdict examined first_of maker_verdict verdict_by may_keep endless_at first_chain endless
    matches_within matched distance may_chain chain_along stutter_rank match_rank most_below
    read_verdict examined_verdict verdict_with make_answer make_output file_for certificate_header certificate_file big_bytes tabulate grid put_at put_front
    match_verdict follow_verdict follow_answer
keyed-PQ = (refl, refl, refl, refl, refl, refl, refl, refl, refl, refl)

-- document 02's six lines for P, Q and K
pub listed : listing_of P Q K
    ≡ line 0 0 0 0 3 1 ∷ line 1 0 0 0 2 0 ∷ line 0 0 1 0 1 2 ∷ line 1 0 1 1 1 1 ∷ line 0 1 2 1 1 0 ∷ line 1 1 2 2 1 0 ∷ []
unfolding
    any_below first_below big_endian has_bit is2a is2b is2c ahead layout_of format_of keyed version_of format_in states_of steps_of table_length steps_at
    labels_part steps_part label_of from_of to_of key_of system_of sizes_of al_at ar_at cl_at cr_at rows_part row_of related_in view_of ranks_of
    smallest_entered outcome_after2a is_apart obligation_at join_below steps_from pair_checks checks_by checks most_below flat_map check_lines listing
listed = refl

-- P's run 0 1 0, in the blocks 0 1 2, is followed on Q by 0 1 2 0, in the blocks 0 0 1 2; 11 or 5 bytes are too few, the side 2 and an empty path are wrong,
-- and so are the starts 2, which is not related, and 3, which is no state; Q's run 0 1 2 0, in the blocks 0 0 1 2, is followed on P by 0 1 0
pub followed-PQK : (follow_answer P Q K 0 0 run (zeros 12) (zeros 6) ≡ six 0 0 4 0 0 0)
    × (follow_states P Q K 0 0 run (zeros 12) (zeros 6) ≡ 0 ∷ 0 ∷ 0 ∷ 1 ∷ 0 ∷ 0 ∷ 2 ∷ 0 ∷ 1 ∷ 0 ∷ 0 ∷ 2 ∷ [])
    × (follow_blocks P Q K 0 0 run (zeros 12) (zeros 6) ≡ 0 ∷ 0 ∷ 0 ∷ 1 ∷ 0 ∷ 2 ∷ [])
    × (follow_answer P Q K 0 0 run (zeros 11) (zeros 6) ≡ six 27 3 0 0 0 0)
    × (follow_answer P Q K 0 0 run (zeros 12) (zeros 5) ≡ six 27 3 0 0 0 0)
    × (follow_answer P Q K 2 0 run (zeros 12) (zeros 6) ≡ six 25 4 0 0 0 0)
    × (follow_answer P Q K 0 0 [] (zeros 12) (zeros 6) ≡ six 25 4 0 0 0 0)
    × (follow_answer P Q K 0 2 run (zeros 12) (zeros 6) ≡ six 26 4 0 0 0 0)
    × (follow_answer P Q K 0 3 run (zeros 12) (zeros 6) ≡ six 26 4 0 0 0 0)
    × (follow_states P Q K 1 0 (0 ∷ 1 ∷ 2 ∷ 0 ∷ []) (zeros 9) (zeros 8) ≡ 0 ∷ 0 ∷ 0 ∷ 1 ∷ 0 ∷ 1 ∷ 0 ∷ 0 ∷ 2 ∷ [])
    × (follow_blocks P Q K 1 0 (0 ∷ 1 ∷ 2 ∷ 0 ∷ []) (zeros 9) (zeros 8) ≡ 0 ∷ 0 ∷ 0 ∷ 0 ∷ 0 ∷ 1 ∷ 0 ∷ 2 ∷ [])
unfolding
    any_below first_below big_endian has_bit has_from is2a is2b is2c layout_of format_of keyed magic_fits magic_known version_of format_in last_version version_fits
    states_of states_fit start_word start_of
    steps_of table_length steps_at labels_part steps_part label_of from_of to_of key_of ends_outside same_step doubled read_length read_sizes read_header read_steps
    read_known same_kind tables_verdict
    system_of sizes_of certificate_length al_at ar_at cl_at rows_part row_of certificate_sizes_fit wide_row read_rows read_certificate certificates.read_header related_in
    view_of ranks_of smallest_entered outcome_after2a obligation_at join_below steps_from pair_checks checks_by checks along starts_named starts_verdict check_verdict
    judged judged_bytes judge_verdict most_below smallest_step moves match_steps match_path step_of steps_along numbered_from followed given_entries matching_entries
    flat_map big_bytes put_at put_front has_step wrong_path wrong_start no_room match_verdict follow_verdict follow_answer follow_states follow_blocks
followed-PQK = (refl, refl, refl, refl, refl, refl, refl, refl, refl, refl, refl)

-- K has 51 bytes, and the maker writes exactly K, into an output of 51 bytes or at the front of a longer one; 50 bytes are too few
pub made-K : (length K ≡ 51)
    × (make_answer P Q rows_pq (zeros 51) ≡ six 0 0 51 0 0 0)
    × (make_output P Q rows_pq (zeros 51) ≡ K)
    × (make_output P Q rows_pq (zeros 51 ++ (7 ∷ 8 ∷ [])) ≡ K ++ (7 ∷ 8 ∷ []))
    × (make_answer P Q rows_pq (zeros 50) ≡ six 21 3 51 0 0 0)
unfolding
    any_below all_below first_below sum_below count_below big_endian has_bit add_bit has_from count_bits first_bit is2a is2b is2c ahead
    layout_of format_of keyed magic_fits magic_known version_of format_in last_version version_fits states_of states_fit start_word start_of steps_of initial_of
    table_length steps_at
    labels_part steps_part label_of from_of to_of key_of ends_outside same_step doubled read_length read_sizes read_header read_steps read_known same_kind tables_verdict
    system_of sizes_of certificate_length al_at ar_at cl_at cr_at rows_part row_of certificate_sizes_fit wide_row
    read_rows read_certificate certificates.read_header related_in view_of ranks_of smallest_entered outcome_after2a is_apart obligation_at
    join_below steps_from pair_checks checks_by checks along starts_named starts_verdict check_verdict pairs_in judged judged_bytes judge_verdict judge_known
    read_relation room_verdict examined first_of maker_verdict verdict_by may_keep endless_at first_chain endless
    matches_within matched distance may_chain chain_along stutter_rank match_rank most_below
    read_verdict examined_verdict verdict_with make_answer make_output file_for certificate_header certificate_file big_bytes tabulate grid put_at put_front
made-K = (refl, refl, refl, refl, refl)

-- the enquiry of P, Q and these rows gives 51 bytes and the slip 17, 21, 16, 51, with which the commit makes K or asks for room; with another number on it the
-- commit answers 29, before 21 and after 15; and the enquiry of a table that loops where the other is still gives zeros, which get 29
pub enquired-PQ : (enquiry_for P Q rows_pq ≡ record { answer = six 0 0 51 0 0 0; slip = slip 17 21 16 51 })
    × (commit_answer P Q rows_pq (slip 17 21 16 51) (zeros 51) ≡ six 0 0 51 0 0 0)
    × (commit_output P Q rows_pq (slip 17 21 16 51) (zeros 51) ≡ K)
    × (commit_answer P Q rows_pq (slip 17 21 16 51) (zeros 50) ≡ six 21 3 51 0 0 0)
    × (commit_answer P Q rows_pq (slip 17 21 16 50) (zeros 50) ≡ six 29 2 0 0 0 0)
    × (commit_output P Q rows_pq (slip 21 17 16 51) (zeros 51) ≡ zeros 51)
    × (commit_answer P Q (low 11 ++ low 4) (slip 0 0 0 0) [] ≡ six 15 2 0 0 0 0)
    × (enquiry_for still looping (low 1) ≡ record { answer = six 23 2 1 0 0 0; slip = slip 0 0 0 0 })
    × (commit_answer still looping (low 1) (slip 0 0 0 0) (zeros 24) ≡ six 29 2 0 0 0 0)
unfolding
    any_below all_below first_below sum_below count_below big_endian has_bit add_bit has_from count_bits first_bit is2a is2b is2c ahead
    layout_of format_of keyed magic_fits magic_known version_of format_in last_version version_fits states_of states_fit start_word start_of steps_of initial_of
    table_length steps_at
    labels_part steps_part label_of from_of to_of key_of ends_outside same_step doubled read_length read_sizes read_header read_steps read_known same_kind tables_verdict
    system_of sizes_of certificate_length al_at ar_at cl_at cr_at rows_part row_of certificate_sizes_fit wide_row
    read_rows read_certificate certificates.read_header related_in view_of ranks_of smallest_entered outcome_after2a is_apart obligation_at
    join_below steps_from pair_checks checks_by checks along starts_named starts_verdict check_verdict pairs_in judged judged_bytes judge_verdict judge_known
    read_relation room_verdict examined first_of maker_verdict verdict_by may_keep endless_at first_chain endless
    matches_within matched distance may_chain chain_along stutter_rank match_rank most_below
    read_verdict examined_verdict verdict_with file_for certificate_header certificate_file big_bytes tabulate grid put_at put_front
    same_slip slip_verdict enquiry_for commit_answer commit_output
enquired-PQ = (refl, refl, refl, refl, refl, refl, refl, refl, refl)

-- P and Q with the rows 3 and 4 are well formed, and the relation has the path property: no hypothesis of the demands is empty

bytes-PQ : AreBytes rows_pq
unfolding all_below
bytes-PQ i = elim (dec_lt i 16) [
  | yes l ↦ ltb→lt _ _ (all-e 16 (λ k. ltb (byte_at rows_pq k) 256) tt i l)
  | no l ↦ (let e = get_or-past rows_pq i (omega arith) in omega arith)
]

success-PQ : (make_answer P Q rows_pq (zeros 51)).code ≡ 0
success-PQ = ap (λ (a : Answer). a.code) made-K.1

pub given-PQ : WellFormedInputs P Q rows_pq
given-PQ = (made-given P Q rows_pq (zeros 51) bytes-PQ success-PQ).0

plain-PQ : BothPlain P Q
unfolding keyed
plain-PQ = (refl, refl)

pub property-PQ : PathProperty (view_of P Q rows_pq)
property-PQ = ((maker-exact P Q rows_pq (zeros 51) given-PQ (made-given P Q rows_pq (zeros 51) bytes-PQ success-PQ).1).plain-succeeds plain-PQ).0 success-PQ

-- and neither is one of the law of silent keys: P in version 4, and P with two silent keys
pub silent-P : AllSilent wide_p (keyed_p 0 0)
unfolding
    any_below first_below big_endian has_bit has_from layout_of format_of keyed magic_fits magic_known version_of format_in last_version version_fits states_of states_fit
    start_word starts_of steps_of initial_of table_length steps_at wrong_starts labels_part steps_part label_of from_of to_of key_of ends_outside greater not_greater
    read_length read_sizes read_header read_steps read_known system_of
silent-P =
    record {
      formed = good-formed Both wide_p {h = head_of wide_p} refl;
      plain = refl;
      version = inr refl;
      keyed-formed = good-formed Both (keyed_p 0 0) {h = head_of (keyed_p 0 0)} refl;
      has-keys = refl;
      states = refl;
      marks = below_two _ refl refl;
      starts = below_two _ refl refl;
      steps = refl;
      from-same = below_two _ refl refl;
      to_same = below_two _ refl refl;
      keys = below_two _ refl refl;
    }
  where
    below_two : (P : ℕ → Type 0) → P 0 → P 1 → (i : ℕ) → i < 2 → P i
    below_two P a b zero l = a
    below_two P a b (suc zero) l = b
    below_two P a b (suc (suc i)) l = absurd (not-suc-le-zero (le_of_suc-le-suc (le_of_suc-le-suc l)))
