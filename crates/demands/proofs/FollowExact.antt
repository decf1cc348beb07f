-- Ask 3 of document 02, `follow-exact`: where no cause applies, the judge has accepted, so what the path matcher makes of the path is a matching path of
-- demand 3 with its blocks, and its states and numbers fit the bytes that they are written in. Assumes nothing.
use Rattle.std.specs.Prelude.{Ok}
use Prim.Native.Nat.{ℕ, suc, ◌+◌, ◌*◌, ◌≤◌, ◌<◌}
use mathlib.Core.Path.{◌≡◌, refl, sym, ap, ◌∙◌}
use mathlib.Core.Logic.{inl, inr, ⊎_elim}
use mathlib.Core.Bool.{Bool, true, false, not, cond}
use mathlib.Core.List.{List, ◌++◌, map, flat_map}
use native.Mathlib.Nat.{mul-le-mul}
use native.Mathlib.Omega.{arith}
use lib.Dec.{T, eqb}
use lib.ListN.{length, drop, length-drop, length-map}
use lib.Seq.{drop_at, drop-cons}
use Rattle.lists.specs.Lists.{All}
use Rattle.lists.specs.Numbers.{byte_at}
use Rattle.lists.proofs.JoinLaws.{all-imply}
use Rattle.lists.proofs.FlatLaws.{flat-length}
use Rattle.bisimulation.specs.Systems.{View, Ranks, WellFormed, flip, swap}
use Rattle.bisimulation.specs.Clauses.{Meets, EveryObligation}
use Rattle.bisimulation.specs.PathProperty.{IsPath}
use Rattle.bisimulation.specs.PathMatching.{Entry, numbered_from, given_entries, matching_entries}
use Rattle.bisimulation.proofs.ClauseLaws.{flip-formed}
use Rattle.bisimulation.proofs.PathMatchingLaws.{Matched, given-states, matching-states, matching-most, given-numbers, matching-numbers, path-i}
use Rattle.bisimulation.proofs.StandingLaws.{path-matched}
use Rattle.answers.specs.Numbers.{six_numbers}
use Rattle.answers.specs.Causes.{Cause, FirstCause, NoCause, Answers}
use Rattle.answers.specs.Verdicts.{Verdict, answer_of}
use Rattle.answers.specs.declared.Answer.{Answer}
use Rattle.answers.proofs.CauseLaws.{none-append, append-none, append-first, numbered-first, zero-none, none-zero}
use Rattle.answers.proofs.DecideLaws.{decides-stable, test-decides}
use Rattle.answers.proofs.VerdictLaws.{decided-answer, none-on, refused-output, output_on, output-length}
use Rattle.tables.specs.Model.{system_of}
use Rattle.table_reader.specs.declared.Known.TheVariants.{Plain}
use Rattle.table_reader.proofs.TableCauseLaws.{formed-good}
use Rattle.table_reader.proofs.TableLaws.{table-ok}
use Rattle.table_pairs.specs.PairCauses.{tables_causes}
use Rattle.table_pairs.proofs.PairCauseLaws.{is_not30, plain-not-30}
use Rattle.certificates.specs.CertificateModel.{AreBytes, view_of, certified_view, certified_ranks}
use Rattle.checker.specs.JudgeCauses.{known_judge_causes, judge_causes}
use Rattle.checker.proofs.JudgeCauseLaws.{after_tables, after-numbers, known-none}
use Rattle.path_matcher.specs.Following.{
  given_along,
  matched_along,
  entry_bytes,
  block_bytes,
  followed_view,
  followed_ranks,
  follow_verdict,
  given_states,
  matched_states,
  follow_answer,
  follow_states,
  follow_blocks,
}
use Rattle.path_matcher.specs.FollowCauses.{WrongPath, WrongStart, NoRoom, match_causes, follow_causes, follow_number}
use Rattle.path_matcher.proofs.FollowCauseLaws.{has-step-decides, follow-decided, follow-numbers}
use Rattle.demands.specs.Ask3.{entries_in, given_in, blocks_of, FollowedBy, Followable, FollowExact}
use Rattle.demands.proofs.JudgeAnswers.{accepted-zero}
use Rattle.demands.proofs.JudgeExact.{formed-view, judge-exact}
use Rattle.demands.proofs.NextLaws.{path-next}
use Rattle.demands.proofs.OutputLaws.{Fits, entry_length, block-length, entries-back, given_back, blocks-back}

-- ---- what an acceptance says, from either side

-- The view is well formed, its tables are small, and every obligation of both sides is met.
record Accepted (v : View) (r : Ranks) : Type 0 where
  formed : WellFormed v
  small : v.own.states ≤ 64
  small' : v.other.states ≤ 64
  met : EveryObligation Meets v r
  met' : EveryObligation Meets (flip v) (swap r)

from-side : (v : View) (r : Ranks) → Accepted v r → (b : Bool) → Accepted (cond b v (flip v)) (cond b r (swap r))
from-side v r a true = a
from-side v r a false = record { formed = flip-formed v a.formed; small = a.small'; small' = a.small; met = a.met'; met' = a.met }

module _ (left right c : List ℕ) (bytes : AreBytes c) (none : NoCause (judge_causes left right c)) where
  accepted : Accepted (certified_view left right c) (certified_ranks left right c)
  unfolding view_of system_of
  accepted =
      let q = (judge-exact left right c bytes).certificates.0 (accepted-zero left right c none) in
      record {
        formed = formed-view left right c bytes q.0;
        small = (table-ok left (formed-good left q.0.tables.left-formed)).states-le;
        small' = (table-ok right (formed-good right q.0.tables.right-formed)).states-le;
        met = q.1.own-met;
        met' = q.1.other-met;
      }

-- ---- a path that is followed

-- What the path matcher makes of it.
record Along (v : View) (r : Ranks) (path : List ℕ) (start : ℕ) : Type 0 where
  followed : FollowedBy v r path start (given_along v r path start) (matched_along v r path start)
  given-path : map (λ e. e.state) (given_along v r path start) ≡ path
  given-fit : All Fits (given_along v r path start)
  matched-fit : All Fits (matched_along v r path start)
  few : length (matched_along v r path start) ≤ 16_384

module _ (v : View) (r : Ranks) (a : Accepted v r) (side start : ℕ) (path : List ℕ) (good : ¬ WrongPath side v.own path)
    (near : ¬ WrongStart v path start) where
  short : (0 < length path) × (length path ≤ 256)
  short =
      let e : ¬ (length path ≡ 0) = λ x. good (inr (inl x)) in
      let l : ¬ (256 < length path) = λ x. good (inr (inr (inl x))) in
      (omega arith, omega arith)

  is-path : IsPath v.own path
  is-path =
      path-i v.own path short.0
      (λ i l. let n : ¬ (v.own.states ≤ byte_at path i) = λ x. good (inr (inr (inr (inl (i, l, x))))) in omega arith)
      (λ i l. decides-stable (has-step-decides v.own (byte_at path i) (byte_at path (i + 1))) (λ n. good (inr (inr (inr (inr (i, l, n)))))))

  are-related : T (v.related (byte_at path 0) start)
  are-related = decides-stable (test-decides (v.related (byte_at path 0) start)) (λ n. near (inl n))

  is-matched : Matched v r (byte_at path 0) (drop 1 path) start
  is-matched = path-matched v r a.formed path is-path start (swap r) a.met a.met' are-related

  rest-short : suc (length (drop 1 path)) ≤ 256
  rest-short = rw length-drop (let l = short in omega arith)

  along : Along v r path start
  unfolding given_entries matching_entries
  along =
      let m = is-matched in
      let e : given_along v r path start ≡ numbered_from 0 m.matching.blocks = ap (numbered_from 0) (sym m.blocks-are) in
      let f : matched_along v r path start ≡ numbered_from 0 m.matching.blocks' = ap (numbered_from 0) (sym m.blocks-are') in
      record {
        followed = record {
          matching = m.matching;
          states-are = sym (matching-states m);
          blocks-are = sym (ap blocks_of e ∙ blocks-back m.matching.blocks m.matching.cut m.matching.same.none-empty);
          blocks-are' = sym (ap blocks_of f ∙ blocks-back m.matching.blocks' m.matching.cut' m.matching.same.none-empty');
          numbers = e;
          numbers' = f;
          next = path-next v r a.formed a.met path is-path start (swap r) a.met' are-related;
        };
        given-path = given-states m ∙ sym (drop-cons path 0 0 short.0);
        given-fit = all-imply _ Fits (λ x h. omega (arith, rest-short)) (given_along v r path start) (given-numbers m);
        matched-fit = all-imply _ Fits (λ x h. omega (arith, rest-short)) (matched_along v r path start) (matching-numbers m);
        few = omega (arith, matching-most m, mul-le-mul rest-short a.small');
      }

-- ---- on bytes

module _ (left right c : List ℕ) (bytes : AreBytes c) (side start : ℕ) (path states blocks : List ℕ) where
  -- the view and the ranks, both paths' entries, the verdict, the answer and the outputs afterwards
  abbrev v : View
  v = followed_view left right c side

  abbrev r : Ranks
  r = followed_ranks left right c side

  abbrev given : List Entry
  given = given_states left right c side start path

  abbrev matched : List Entry
  matched = matched_states left right c side start path

  abbrev verdict : Verdict ℕ
  verdict = follow_verdict left right c side start path states blocks

  abbrev answer : Answer
  answer = follow_answer left right c side start path states blocks

  abbrev states' : List ℕ
  states' = follow_states left right c side start path states blocks

  abbrev blocks' : List ℕ
  blocks' = follow_blocks left right c side start path states blocks

  -- the causes, and those after the judge's
  abbrev causes : List Cause
  causes = follow_causes left right c side start path states blocks

  abbrev after : List Cause
  after = match_causes v r side start path states blocks

  seen : NoCause (known_judge_causes Plain left right c) → Accepted v r
  seen n =
      from-side (certified_view left right c) (certified_ranks left right c) (accepted left right c bytes (known-none Plain left right c n)) (eqb side 0)

  answers : Answers causes (λ a. a ≡ six_numbers 0 0 a.a) answer
  unfolding follow_answer
  answers =
      decided-answer (λ a. a ≡ six_numbers 0 0 a.a) (six_numbers 0 0) verdict (follow-decided left right c side start path states blocks) (λ n e m. refl)

  -- the code is 0 exactly where no cause applies
  zero-causes : answer.code ≡ 0 → NoCause causes
  zero-causes e =
      (zero-none (λ a. a ≡ six_numbers 0 0 a.a) causes answer answers follow_number (follow-numbers left right c side start path states blocks)
      (λ file h. h) (λ a z. ap (λ (x : Answer). x.code) z) e).0

  causes-zero : NoCause causes → answer.code ≡ 0
  causes-zero =
      none-zero (λ a. a ≡ six_numbers 0 0 a.a) causes answer answers follow_number (follow-numbers left right c side start path states blocks)
      (λ file h. h) (λ a z. ap (λ (x : Answer). x.code) z)

  along-followable : Followable left right c side start path → Along v r path start
  along-followable f = along v r (seen f.0) side start path f.1 f.2

  -- 30 comes neither from the tables nor after them
  not-30 : ¬ (answer.code ≡ 30)
  not-30 e = ⊎_elim (λ f. other answer.code e (first-other f)) (λ p. omega (arith, ap (λ (x : Answer). x.code) p.1)) answers
    where
      other : (k : ℕ) → k ≡ 30 → T (not (eqb k 30)) → ⊥
      other k q h = absurd (rw q at h)

      first-other : FirstCause causes answer → T (not (eqb answer.code 30))
      first-other f =
          ⊎_elim
          (λ g.
          ⊎_elim (plain-not-30 left right answer)
          (λ h. numbered-first is_not30 (after_tables left right c) answer (after-numbers left right c is_not30 tt tt tt) h.1)
          (append-first (tables_causes Plain left right) (after_tables left right c) answer g))
          (λ g. numbered-first is_not30 after answer (tt, (tt, (tt, tt))) g.1)
          (append-first (known_judge_causes Plain left right c) after answer f)

  module _ (none : NoCause causes) where
    abbrev split : NoCause (known_judge_causes Plain left right c) × NoCause after
    split = append-none (known_judge_causes Plain left right c) after none

    along-is : Along v r path start
    along-is = along-followable (split.0, split.1.0, split.1.1.0)

    room : (3 * length matched ≤ length states) × (2 * length path ≤ length blocks)
    room =
        let a : ¬ (length states < 3 * length matched) = λ x. split.1.1.1.0 (inl x) in
        let b : ¬ (length blocks < 2 * length path) = λ x. split.1.1.1.0 (inr x) in
        (omega arith, omega arith)

    went_on : verdict ≡ Ok (length matched)
    went_on = let q = none-on verdict (follow-decided left right c side start path states blocks) none in q.1 ∙ ap Ok q.2

    answer-is : answer ≡ six_numbers 0 0 (length matched)
    unfolding follow_answer
    answer-is = ap (answer_of (six_numbers 0 0)) went_on

    -- the bytes of the states and of the block numbers
    states-long : length (flat_map entry_bytes matched) ≡ 3 * length matched
    states-long = flat-length 3 entry_bytes entry_length matched

    blocks-long : length (flat_map block_bytes given) ≡ 2 * length path
    blocks-long =
        flat-length 2 block_bytes block-length given
        ∙ ap (λ (n : ℕ). 2 * n) (sym (length-map given (λ (e : Entry). e.state)) ∙ ap length along-is.given-path)

    states-are : states' ≡ flat_map entry_bytes matched ++ drop (3 * length matched) states
    unfolding follow_states
    states-are = output_on went_on (flat_map entry_bytes matched) states states-long room.0

    blocks-are : blocks' ≡ flat_map block_bytes given ++ drop (2 * length path) blocks
    unfolding follow_blocks
    blocks-are = output_on went_on (flat_map block_bytes given) blocks blocks-long room.1

    is-followed : FollowedBy v r path start (given_in path blocks') (entries_in states' answer.a)
    is-followed =
        rw (
          answer-is,
          states-are,
          blocks-are,
          given_back path given (drop (2 * length path) blocks) along-is.given-path along-is.given-fit,
          entries-back matched (drop (3 * length matched) states) along-is.matched-fit,
        ) along-is.followed

    stays : (drop (3 * answer.a) states' ≡ drop (3 * answer.a) states) × (drop (2 * length path) blocks' ≡ drop (2 * length path) blocks)
    stays =
        rw (answer-is, states-are, blocks-are)
        (drop_at (flat_map entry_bytes matched) _ _ states-long, drop_at (flat_map block_bytes given) _ _ blocks-long)

    most : answer.a ≤ 16_384
    most = rw answer-is along-is.few

  always-room : Followable left right c side start path → 49_152 ≤ length states → 512 ≤ length blocks
      → ¬ NoRoom (length matched) (length path) states blocks
  always-room f l k =
      ⊎_elim (λ x. omega (arith, (along-followable f).few)) (λ x. omega (arith, (short v r (seen f.0) side start path f.1 f.2).1))

  pub follow-exact : FollowExact left right c side start path states blocks answer states' blocks'
  unfolding follow_answer follow_states follow_blocks
  follow-exact =
      record {
        answers = answers;
        not-30 = not-30;
        untouched = λ n. (
          refused-output _ (λ x. refl) verdict n (flat_map entry_bytes matched) states,
          refused-output _ (λ x. refl) verdict n (flat_map block_bytes given) blocks,
        );
        followed = λ e. is-followed (zero-causes e);
        rest-stays = λ e. stays (zero-causes e);
        lengths-stay = (output-length verdict (flat_map entry_bytes matched) states, output-length verdict (flat_map block_bytes given) blocks);
        most = λ e. most (zero-causes e);
        room_for = λ f. (along-followable f).followed;
        enough = λ f l k.
            causes-zero
            (none-append (known_judge_causes Plain left right c) after f.0 (f.1, (f.2, (always-room f l k, tt))));
      }
