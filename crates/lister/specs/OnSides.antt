-- Inner: the text of the lines, as it is read off two sides and a certificate.
use Rattle.std.specs.Prelude.{ℕ, cond}
use mathlib.Core.List.{List, [], ◌++◌, flat_map}
use Rattle.lists.specs.Lists.{join_below}
use Rattle.words.specs.Bits.{has_bit}
use Rattle.sides.specs.declared.Side.{Side}
use Rattle.sides.specs.Side.{system_in, related_to, steps_in}
use Rattle.obligations.specs.declared.Place.{Place}
use Rattle.obligations.specs.declared.Run.{Run}
use Rattle.obligations.specs.CheckAnswers.{left_state, right_state}
use Rattle.obligations.specs.OnSides.{obligation_in}
use Rattle.lister.specs.Listing.{outcome_lines, line_text}

-- The line of our step j at the place.
unfoldable pub step_text : (ours theirs : Side) (certificate : List ℕ) → Run → Place → ℕ → List ℕ
step_text ours theirs certificate run place j =
    flat_map line_text
    (outcome_lines place.side (left_state place) (right_state place) j (obligation_in ours theirs certificate run j place.other))

-- The lines of our steps from the place's own state.
unfoldable pub steps_text : (ours theirs : Side) (certificate : List ℕ) → Run → Place → List ℕ
steps_text ours theirs certificate run place = flat_map (step_text ours theirs certificate run place) (steps_in ours place.own)

module _ (ours theirs : Side) (certificate : List ℕ) (left right : Run) where
  -- The lines of the pair s, t: the left steps from s, then the right steps from t; none where the two are not related.
  unfoldable pub pair_text : ℕ → ℕ → List ℕ
  pair_text s t =
      cond (has_bit (related_to ours s) t)
      (steps_text ours theirs certificate left (record { side = 0; own = s; other = t })
      ++ steps_text theirs ours certificate right (record { side = 1; own = t; other = s }))
      []

  -- Of all pairs of s, and of all pairs.
  unfoldable pub row_text : ℕ → List ℕ
  row_text s = join_below (system_in theirs).states (pair_text s)

  unfoldable pub all_text : List ℕ
  all_text = join_below (system_in ours).states row_text
