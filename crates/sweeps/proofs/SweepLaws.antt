-- Laws of a sweep: the walk along the links of a state's steps, how many verdicts it can meet, and what becomes of one. Assumes nothing.
use Rattle.outcomes.specs.declared.Outcome.{Outcome}
use Rattle.outcomes.specs.declared.Outcome.TheVariants.{Met, Failed}
use Prim.Native.Nat.{ℕ, ◌+◌, ◌≤◌}
use mathlib.Core.Path.{◌≡◌, sym, ap, ◌∙◌}
use mathlib.Core.List.{List, [], ◌∷◌, map}
use native.Mathlib.Omega.{arith}
use lib.ListN.{length, length-map}
use Rattle.answers.specs.Verdicts.{Verdict, along}
use Rattle.answers.specs.declared.Answer.{Answer}
use Rattle.sides.specs.declared.Side.{Side}
use Rattle.sides.specs.Side.{steps_in}
use Rattle.outcomes.specs.declared.Clause.{Clause}
use Rattle.outcomes.specs.declared.Failure.{Failure}
use Rattle.outcomes.specs.Obligation.{failure_number}
use Rattle.std.specs.Prelude.{Ok, Err}
use Rattle.obligations.specs.declared.Run.{Run}
use Rattle.obligations.specs.Judging.{Finding}
use Rattle.obligations.specs.OnSides.{obligation_in}
use Rattle.obligations.proofs.OnSidesLaws.{steps-few}
use Rattle.sweeps.specs.declared.Tally.{Tally}
use Rattle.obligations.specs.declared.Place.{Place}
use Rattle.obligations.specs.CheckAnswers.{place_answer}
use Rattle.sweeps.specs.Tallies.{add_to, total}
use Rattle.sweeps.specs.SideVerdicts.{progress, step_in, swept}
use Rattle.sweeps.proofs.ProgressLaws.{progress-on, progress-stop, progress-total}

module _ (ours theirs : Side) (certificate : List ℕ) (run : Run) (place : Place) where
  abbrev step : ℕ → Verdict Finding
  step = step_in ours theirs certificate run place

  pub swept-few : length (swept ours theirs certificate run place) ≤ 256
  unfolding swept
  swept-few = omega (arith, length-map (steps_in ours place.own) step, steps-few ours place.own)

  -- the same, of sides and ranks that are known to be these
  pub swept-as : {ours' theirs' : Side} {certificate' : List ℕ} {run' : Run} (y : Tally) → ours' ≡ ours → theirs' ≡ theirs → certificate' ≡ certificate
      → run' ≡ run → progress (swept ours' theirs' certificate' run' place) y ≡ progress (swept ours theirs certificate run place) y
  swept-as y eo et ec er = rw (eo, et, ec, er)

  -- The sweep has these steps left, with the tally y.
  pub record InSweep (start y : Tally) (left : List ℕ) : Type 0 where
    pub left_over : progress (swept ours theirs certificate run place) start ≡ progress (map step left) y
    pub counted : total y + length left ≤ total start + length (steps_in ours place.own)

  pub sweep-start : (start : Tally) {left : List ℕ} → left ≡ steps_in ours place.own → InSweep start start left
  unfolding swept
  sweep-start start e =
      record { left_over = ap (λ (l : List ℕ). progress (map step l) start) (sym e); counted = (let n = ap length e in omega (arith, n)) }

  module _ (start y : Tally) {left : List ℕ} (w : InSweep start y left) where
    pub sweep-small : total y ≤ total start + 256
    sweep-small = omega (arith, w.counted, steps-few ours place.own)

    -- the next step is j
    here : {j : ℕ} {js : List ℕ} → left ≡ j ∷ js → progress (swept ours theirs certificate run place) start ≡ progress (step j ∷ map step js) y
    here e = w.left_over ∙ ap (λ (l : List ℕ). progress (map step l) y) e

    -- it is counted
    pub step-on : {z : Tally} {j : ℕ} {js : List ℕ} → left ≡ j ∷ js → progress (step j ∷ []) y ≡ Ok z → InSweep start z js
    step-on {z} {j} {js} l e =
        let c = progress-total (step j ∷ []) y z e in
        let n = ap length l in
        record { left_over = here l ∙ progress-on (map step js) (step j ∷ []) y z e; counted = omega (arith, c, n, w.counted) }

    -- or refused
    pub step-stop : {a : Answer} {j : ℕ} {js : List ℕ} → left ≡ j ∷ js → progress (step j ∷ []) y ≡ Err a
        → progress (swept ours theirs certificate run place) start ≡ Err a
    step-stop {a} {j} {js} l e = here l ∙ progress-stop (map step js) (step j ∷ []) y a e

    pub sweep-end : left ≡ [] → progress (swept ours theirs certificate run place) start ≡ Ok y
    unfolding progress along
    sweep-end l = w.left_over ∙ ap (λ (l : List ℕ). progress (map step l) y) l

-- ---- one step, by its outcome

module _ (ours theirs : Side) (certificate : List ℕ) (run : Run) (place : Place) (j : ℕ) (y : Tally) {o : Outcome}
    (e : o ≡ obligation_in ours theirs certificate run j place.other) where
  pub met-progress : (clause : Clause) (x : ℕ) {z : Tally} → o ≡ Met clause x → z ≡ add_to y clause
      → Ok z ≡ progress (step_in ours theirs certificate run place j ∷ []) y
  unfolding progress along step_in
  met-progress clause x d g = rw (g) (sym (rw (sym e ∙ d)))

  pub failed-progress : (failure : Failure) {a : Answer} → o ≡ Failed failure → a ≡ place_answer place (failure_number failure) j
      → Err a ≡ progress (step_in ours theirs certificate run place j ∷ []) y
  unfolding progress along step_in
  failed-progress failure d g = rw g (sym (rw (sym e ∙ d)))
