-- Laws of the walks of the listing: what is left of the text at each step, each right state and each left state. Assumes nothing.
use Rattle.outcomes.specs.declared.Outcome.{Outcome}
use Rattle.outcomes.specs.declared.Outcome.TheVariants.{Met, Failed}
use Prim.Native.Nat.{ℕ, ◌+◌, ◌≤◌, ◌<◌}
use mathlib.Core.Path.{◌≡◌, sym, ap, ◌∙◌, subst}
use mathlib.Core.Bool.{Bool, true, false}
use mathlib.Core.List.{List, [], ◌∷◌, ◌++◌, flat_map, append-nil}
use native.Mathlib.Numerals.{add-one}
use native.Mathlib.Omega.{arith}
use lib.ListN.{length}
use Rattle.lists.specs.Lists.{join_below}
use Rattle.lists.proofs.JoinLaws.{join_from, from_start, from_next, from-none}
use Rattle.words.specs.Bits.{has_bit}
use Rattle.sides.specs.declared.Side.{Side}
use Rattle.sides.specs.Side.{related_to, steps_in}
use Rattle.obligations.specs.declared.Place.{Place}
use Rattle.obligations.specs.declared.Run.{Run}
use Rattle.outcomes.specs.declared.Clause.{Clause}
use Rattle.outcomes.specs.declared.Failure.{Failure}
use Rattle.outcomes.specs.Obligation.{clause_number}
use Rattle.obligations.specs.CheckAnswers.{left_state, right_state}
use Rattle.obligations.specs.OnSides.{obligation_in}
use Rattle.texts.specs.Texts.{six_text, most_text, fitting}
use Rattle.texts.specs.Wrote.{Wrote}
use Rattle.texts.proofs.TextLaws.{wrote_none, fitting-room}
use Rattle.lister.specs.Listing.{outcome_lines, line_text}
use Rattle.lister.specs.OnSides.{step_text, steps_text, pair_text}

-- ---- one step

module _ (ours theirs : Side) (certificate : List ℕ) (run : Run) (place : Place) (j at : ℕ) {o : Outcome}
    (e : o ≡ obligation_in ours theirs certificate run j place.other) where
  text-is : {o' : Outcome} → o ≡ o'
      → step_text ours theirs certificate run place j ≡ flat_map line_text (outcome_lines place.side (left_state place) (right_state place) j o')
  unfolding step_text
  text-is q = ap (λ (x : Outcome). flat_map line_text (outcome_lines place.side (left_state place) (right_state place) j x)) (sym e ∙ q)

  pub no_line : (failure : Failure) (l : List ℕ) → o ≡ Failed failure → Wrote (step_text ours theirs certificate run place j) at at l l
  unfolding flat_map
  no_line failure l q = subst (λ (text : List ℕ). Wrote text at at l l) (sym (text-is q)) (wrote_none at l)

  pub one_line : (clause : Clause) (x : ℕ) {side left right number end : ℕ} {l after : List ℕ} → o ≡ Met clause x → side ≡ place.side
      → left ≡ left_state place
      → right ≡ right_state place → number ≡ clause_number clause → at + most_text ≤ length l
      → Wrote (fitting (six_text side left right j number x) at l) at end l after
      → Wrote (step_text ours theirs certificate run place j) at end l after
  unfolding flat_map
  one_line clause x {end = end} {l = l} {after = after} q es el er en room w =
      let t = rw (fitting-room _ at l room, es, el, er, en) at w in
      subst (λ (text : List ℕ). Wrote text at end l after) (sym (text-is q ∙ append-nil _)) t

-- ---- along the links

module _ (ours theirs : Side) (certificate : List ℕ) (run : Run) (place : Place) where
  -- the same lines, of sides and ranks that are known to be these
  pub steps-as : {ours' theirs' : Side} {certificate' : List ℕ} {run' : Run} → ours' ≡ ours → theirs' ≡ theirs → certificate' ≡ certificate → run' ≡ run
      → steps_text ours' theirs' certificate' run' place ≡ steps_text ours theirs certificate run place
  steps-as eo et ec er = rw (eo, et, ec, er)

  -- The lines of the steps that are left.
  abbrev pub left_text : List ℕ → List ℕ
  left_text = flat_map (step_text ours theirs certificate run place)

  pub steps-start : {left : List ℕ} → left ≡ steps_in ours place.own → left_text left ≡ steps_text ours theirs certificate run place
  unfolding steps_text
  steps-start e = ap left_text e

  pub steps_next : {left : List ℕ} {j : ℕ} {js : List ℕ} → left ≡ j ∷ js → left_text left ≡ step_text ours theirs certificate run place j ++ left_text js
  unfolding flat_map
  steps_next e = ap left_text e

  pub steps-end : {left : List ℕ} → left ≡ [] → left_text left ≡ []
  unfolding flat_map
  steps-end e = ap left_text e

-- ---- a pair

module _ (ours theirs : Side) (certificate : List ℕ) (left right : Run) (s t : ℕ) {related : Bool} (e : related ≡ has_bit (related_to ours s) t) where
  pub pair-none : related ≡ false → pair_text ours theirs certificate left right s t ≡ []
  unfolding pair_text
  pair-none q = rw (sym e ∙ q)

  pub pair-both : related ≡ true → pair_text ours theirs certificate left right s t
      ≡ steps_text ours theirs certificate left (record { side = 0; own = s; other = t })
      ++ steps_text theirs ours certificate right (record { side = 1; own = t; other = s })
  unfolding pair_text
  pair-both q = rw (sym e ∙ q)

-- ---- over states

module _ (n : ℕ) (f : ℕ → List ℕ) where
  pub states-start : join_from 0 n f ≡ join_below n f
  states-start = sym (from_start n f)

  pub states-next : (i : ℕ) → i < n → join_from i n f ≡ f i ++ join_from (i + 1) n f
  states-next i h =
      from_next i i n f (omega arith) h (λ k b l. absurd (omega arith)) ∙ ap (λ (k : ℕ). f i ++ join_from k n f) (sym (add-one i))

  pub states-end : (i : ℕ) → n ≤ i → join_from i n f ≡ []
  states-end i h = from-none i n f (λ k b l. absurd (omega arith))
