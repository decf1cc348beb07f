-- Laws of a pair, of our state with all states related to it, and of all pairs, as they are read off two sides: where each stops, and where it goes on.
-- Assumes nothing.
use Rattle.std.specs.Prelude.{Err}
use Prim.Native.Nat.{ℕ, ◌≤◌, ◌<◌}
use mathlib.Core.Path.{◌≡◌, sym, ap, ◌∙◌}
use mathlib.Core.Bool.{Bool, true}
use mathlib.Core.List.{List, [], ◌∷◌, ◌++◌, map}
use native.Mathlib.Omega.{arith}
use borrow.Author.Tests.{eq-eqb, ne_eqb}
use Rattle.words.specs.Bits.{has_bit}
use Rattle.answers.specs.declared.Answer.{Answer}
use Rattle.answers.specs.Verdicts.{Verdict, ◌and_then◌, passed, pass_if, first_of, first_in}
use Rattle.answers.proofs.VerdictLaws.{then_same, along-map, in-append, in-join, in-when, in_one, of-cong, of_none, of-hit}
use Rattle.sides.specs.declared.Side.{Side}
use Rattle.sides.specs.Side.{system_in, steps_in, related_to}
use Rattle.sides.specs.Views.{view_in}
use Rattle.obligations.specs.CheckAnswers.{labels_answer}
use Rattle.obligations.specs.Judging.{labels_of, left_step, right_step, pair_checks, checks_by}
use Rattle.obligations.specs.OnSides.{checks_in}
use Rattle.starts.specs.StartsVerdict.{starts_in}
use Rattle.obligations.specs.declared.Place.{Place}
use Rattle.examination.specs.Examine.{verdict_by}
use Rattle.examination.specs.OnSides.{verdict_in, chains_in, examined_in}
use Rattle.examination.specs.Walk.{step_verdict_in, pair_in, row_in}
use Rattle.examination.proofs.WordLaws.{at_state, BeforeState, word-refused, word_end}

module _ (ours theirs : Side) (distances distances' : List ℕ) where
  -- ---- a pair

  module _ (s t : ℕ) where
    abbrev left_place : Place
    left_place = record { side = 0; own = s; other = t }

    abbrev right_place : Place
    right_place = record { side = 1; own = t; other = s }

    abbrev labels_pass : Verdict (Unit {0})
    labels_pass = verdict_in ours theirs distances distances' (labels_of s t)

    abbrev left_steps : Verdict (Unit {0})
    left_steps = first_in (step_verdict_in ours theirs distances left_place) (steps_in ours s)

    abbrev right_steps : Verdict (Unit {0})
    right_steps = first_in (step_verdict_in theirs ours distances' right_place) (steps_in theirs t)

    -- the labels, then our steps, then theirs
    pair_is : pair_in ours theirs distances distances' s t ≡ (labels_pass and_then λ x. left_steps and_then λ y. right_steps)
    unfolding pair_checks verdict_by
    pair_is =
        let f = verdict_in ours theirs distances distances' in
        in-append f (labels_of s t ∷ []) (map (left_step s t) (steps_in ours s) ++ map (right_step s t) (steps_in theirs t))
        ∙ then_same (in_one f (labels_of s t))
        (in-append f (map (left_step s t) (steps_in ours s)) (map (right_step s t) (steps_in theirs t))
        ∙ then_same (along-map (λ c x. f c) (left_step s t) (steps_in ours s) tt) (along-map (λ c x. f c) (right_step s t) (steps_in theirs t) tt))

    abbrev after : Bool → Verdict (Unit {0})
    after b = pass_if b (labels_answer s t) and_then λ x. left_steps and_then λ y. right_steps

    pub labels-differ : ((system_in ours).label s ≡ (system_in theirs).label t → ⊥)
        → Err (labels_answer s t) ≡ pair_in ours theirs distances distances' s t
    unfolding verdict_by
    labels-differ d = sym (pair_is ∙ ap after (ne_eqb ((system_in ours).label s) ((system_in theirs).label t) d))

    module _ (e : (system_in ours).label s ≡ (system_in theirs).label t) where
      then-steps : pair_in ours theirs distances distances' s t ≡ (left_steps and_then λ y. right_steps)
      unfolding verdict_by
      then-steps = pair_is ∙ ap after (eq-eqb ((system_in ours).label s) ((system_in theirs).label t) e)

      pub left-refused : {a : Answer} → Err a ≡ left_steps → Err a ≡ pair_in ours theirs distances distances' s t
      left-refused q = ap (λ (x : Verdict (Unit {0})). x and_then λ y. right_steps) q ∙ sym then-steps

      pub right-decides : passed ≡ left_steps → right_steps ≡ pair_in ours theirs distances distances' s t
      right-decides q = ap (λ (x : Verdict (Unit {0})). x and_then λ y. right_steps) q ∙ sym then-steps

  -- ---- our state s, with the states related to it

  row_is : (s : ℕ) → row_in ours theirs distances distances' s ≡ first_of (system_in theirs).states
      (at_state (pair_in ours theirs distances distances' s) (related_to ours s))
  row_is s =
      let f = verdict_in ours theirs distances distances' in
      in-join f (system_in theirs).states _
      ∙ of-cong (system_in theirs).states _ _ (λ t l. in-when f ((view_in ours theirs).related s t) (pair_checks (steps_in ours) (steps_in theirs) s t))

  module _ (s : ℕ) {t : ℕ} (w : BeforeState (pair_in ours theirs distances distances' s) (related_to ours s) t) where
    pub row-stops : {a : Answer} → t < (system_in theirs).states → has_bit (related_to ours s) t ≡ true → Err a ≡ pair_in ours theirs distances distances' s t
        → Err a ≡ row_in ours theirs distances distances' s
    row-stops {a} l here q =
        sym (row_is s ∙ word-refused (pair_in ours theirs distances distances' s) (related_to ours s) (system_in theirs).states w a l here (sym q))

    pub row-passes : (system_in theirs).states ≤ t → passed ≡ row_in ours theirs distances distances' s
    row-passes l = sym (row_is s ∙ word_end (pair_in ours theirs distances distances' s) (related_to ours s) (system_in theirs).states w l)

  -- ---- all pairs

  abbrev pub pairs_in : Verdict (Unit {0})
  pairs_in = first_in (verdict_in ours theirs distances distances') (checks_in ours theirs)

  pairs-are : pairs_in ≡ first_of (system_in ours).states (row_in ours theirs distances distances')
  unfolding checks_in checks_by
  pairs-are = in-join (verdict_in ours theirs distances distances') (system_in ours).states _

  module _ {s : ℕ} (w : (i : ℕ) → i < s → row_in ours theirs distances distances' i ≡ passed) where
    pub rows-stop : {a : Answer} → s < (system_in ours).states → Err a ≡ row_in ours theirs distances distances' s → Err a ≡ pairs_in
    rows-stop {a} l q = sym (pairs-are ∙ of-hit (system_in ours).states s (row_in ours theirs distances distances') a l w (sym q))

    pub rows_pass : (system_in ours).states ≤ s → passed ≡ pairs_in
    rows_pass l = sym (pairs-are ∙ of_none (system_in ours).states (row_in ours theirs distances distances') (λ i b. w i (omega arith)))

-- ---- the whole examination

module _ (ours theirs : Side) (distances distances' chains chains' : List ℕ) where
  abbrev starts : Verdict (Unit {0})
  starts = starts_in ours theirs

  abbrev pairs : Verdict (Unit {0})
  pairs = pairs_in ours theirs distances distances'

  abbrev left_chains : Verdict (Unit {0})
  left_chains = chains_in theirs ours 0 chains

  abbrev right_chains : Verdict (Unit {0})
  right_chains = chains_in ours theirs 1 chains'

  abbrev whole : Verdict (Unit {0})
  whole = examined_in ours theirs distances distances' chains chains'

  pub starts-refuse : {a : Answer} → Err a ≡ starts → Err a ≡ whole
  unfolding examined_in
  starts-refuse q = ap (λ (x : Verdict (Unit {0})). x and_then λ y. pairs and_then λ y. left_chains and_then λ y. right_chains) q

  module _ (p : passed ≡ starts) where
    after-starts : (pairs and_then λ y. left_chains and_then λ y. right_chains) ≡ whole
    unfolding examined_in
    after-starts = ap (λ (x : Verdict (Unit {0})). x and_then λ y. pairs and_then λ y. left_chains and_then λ y. right_chains) p

    pub pairs-refuse : {a : Answer} → Err a ≡ pairs → Err a ≡ whole
    pairs-refuse q = ap (λ (x : Verdict (Unit {0})). x and_then λ y. left_chains and_then λ y. right_chains) q ∙ after-starts

    module _ (o : passed ≡ pairs) where
      after-pairs : (left_chains and_then λ y. right_chains) ≡ whole
      after-pairs = ap (λ (x : Verdict (Unit {0})). x and_then λ y. left_chains and_then λ y. right_chains) o ∙ after-starts

      pub left-chains-refuse : {a : Answer} → Err a ≡ left_chains → Err a ≡ whole
      left-chains-refuse q = ap (λ (x : Verdict (Unit {0})). x and_then λ y. right_chains) q ∙ after-pairs

      pub right-chains-decide : passed ≡ left_chains → right_chains ≡ whole
      right-chains-decide q = ap (λ (x : Verdict (Unit {0})). x and_then λ y. right_chains) q ∙ after-pairs
