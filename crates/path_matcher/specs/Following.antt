-- A run followed on the other model (document 02, Ask 3), for any bytes and any numbers: the refusal of a judge that knows "TPT" alone, so that a table with
-- keys gets 2 (Ask 9); 25, 26 and 27, in this order; or the matching path, over the front of the one output, and the given states' block numbers, over the
-- front of the other. What is followed, and how it is cut into blocks, is the path matcher's (bisimulation/specs/PathMatching.antt).
use Rattle.std.specs.Prelude.{ℕ, ◌+◌, ◌*◌, ◌-◌, Bool, cond, not, ◌&&◌, ◌||◌, ltb, leb, eqb, length, drop, Ok}
use mathlib.Core.List.{List, ◌∷◌, flat_map}
use Rattle.lists.specs.Below.{any_below}
use Rattle.lists.specs.Numbers.{byte_at, big_bytes}
use Rattle.bisimulation.specs.PathMatching.{Entry, given_entries, matching_entries}
use Rattle.bisimulation.specs.Systems.{System, View, Ranks, flip, swap}
use Rattle.answers.specs.Numbers.{six_numbers}
use Rattle.answers.specs.Verdicts.{Verdict, ◌and_then◌, pass_if, answer_of, output_after}
use Rattle.answers.specs.declared.Answer.{Answer}
use Rattle.certificates.specs.CertificateModel.{certified_view, certified_ranks}
use Rattle.table_reader.specs.declared.Known.TheVariants.{Plain}
use Rattle.checker.specs.Judge.{judge_verdict}

-- ---- what is followed

-- The two tables with their relation, and the ranks, as the path's side sees them: 0 is the left table's side, 1 the right one's.
abbrev pub view_from : ℕ → View → View
view_from side v = cond (eqb side 0) v (flip v)

abbrev pub ranks_from : ℕ → Ranks → Ranks
ranks_from side r = cond (eqb side 0) r (swap r)

-- The states of the path and those that match it from the start on, each with its block's number.
abbrev pub given_along : View → Ranks → (path : List ℕ) → (start : ℕ) → List Entry
given_along v r path start = given_entries v r (byte_at path 0) (drop 1 path) start

abbrev pub matched_along : View → Ranks → (path : List ℕ) → (start : ℕ) → List Entry
matched_along v r path start = matching_entries v r (byte_at path 0) (drop 1 path) start

-- A state as it is written: three bytes, the state and its block's number, the high byte first.
abbrev pub entry_bytes : Entry → List ℕ
entry_bytes e = e.state ∷ big_bytes 2 e.block

-- A block's number as it is written for a given state: two bytes.
abbrev pub block_bytes : Entry → List ℕ
block_bytes e = big_bytes 2 e.block

-- ---- what is refused

-- Some step goes from s to u.
unfoldable pub has_step : System → ℕ → ℕ → Bool
has_step S s u = any_below S.steps (λ j. eqb (S.from j) s && eqb (S.to j) u)

-- 25: the side is not 0 or 1, or the path is empty, over 256 states, holds a state out of range or two neighbours that are no step.
unfoldable pub wrong_path : (side : ℕ) → System → (path : List ℕ) → Bool
wrong_path side S path =
    (not (eqb side 0) && not (eqb side 1))
    || (eqb (length path) 0
    || (ltb 256 (length path)
    || (any_below (length path) (λ i. leb S.states (byte_at path i))
    || any_below (length path - 1) (λ i. not (has_step S (byte_at path i) (byte_at path (i + 1)))))))

-- 26: its first state and the given start are not related, or the start is out of range.
unfoldable pub wrong_start : View → (path : List ℕ) → (start : ℕ) → Bool
wrong_start v path start = not (v.related (byte_at path 0) start) || leb v.other.states start

-- 27: one of the outputs is too short, with 3 bytes for each state written and 2 for each state given.
unfoldable pub no_room : (written given : ℕ) → (states blocks : List ℕ) → Bool
no_room written given states blocks = ltb (length states) (3 * written) || ltb (length blocks) (2 * given)

-- ---- the answer and the outputs

-- The verdict where the judge accepts: how many states are written.
unfoldable pub match_verdict : View → Ranks → (side start : ℕ) → (path states blocks : List ℕ) → Verdict ℕ
match_verdict v r side start path states blocks =
    pass_if (not (wrong_path side v.own path)) (six_numbers 25 4 0) and_then λ x.
    pass_if (not (wrong_start v path start)) (six_numbers 26 4 0) and_then λ x.
    pass_if (not (no_room (length (matched_along v r path start)) (length path) states blocks)) (six_numbers 27 3 0) and_then λ x.
    Ok (length (matched_along v r path start))

-- The tables, the relation and the ranks of a certificate, as the path's side sees them.
abbrev pub followed_view : (left right c : List ℕ) → (side : ℕ) → View
followed_view left right c side = view_from side (certified_view left right c)

abbrev pub followed_ranks : (left right c : List ℕ) → (side : ℕ) → Ranks
followed_ranks left right c side = ranks_from side (certified_ranks left right c)

-- The states of both paths.
abbrev pub given_states : (left right c : List ℕ) → (side start : ℕ) → (path : List ℕ) → List Entry
given_states left right c side start path = given_along (followed_view left right c side) (followed_ranks left right c side) path start

abbrev pub matched_states : (left right c : List ℕ) → (side start : ℕ) → (path : List ℕ) → List Entry
matched_states left right c side start path = matched_along (followed_view left right c side) (followed_ranks left right c side) path start

module _ (left right c : List ℕ) (side start : ℕ) (path states blocks : List ℕ) where
  -- The verdict on whatever is given.
  unfoldable pub follow_verdict : Verdict ℕ
  follow_verdict =
      judge_verdict Plain left right c and_then λ x.
      match_verdict (followed_view left right c side) (followed_ranks left right c side) side start path states blocks

  -- Success is 0, 0 and the states written.
  unfoldable pub follow_answer : Answer
  follow_answer = answer_of (six_numbers 0 0) follow_verdict

  -- The outputs afterwards.
  unfoldable pub follow_states : List ℕ
  follow_states = output_after follow_verdict (flat_map entry_bytes (matched_states left right c side start path)) states

  unfoldable pub follow_blocks : List ℕ
  follow_blocks = output_after follow_verdict (flat_map block_bytes (given_states left right c side start path)) blocks
