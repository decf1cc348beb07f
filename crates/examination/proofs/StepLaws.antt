-- Laws of the walk along the links of a side, by a verdict on each step: where it goes on, and where it stops. Assumes nothing.
use Rattle.std.specs.Prelude.{Err}
use Prim.Native.Nat.{ℕ}
use mathlib.Core.Path.{◌≡◌, ap, ◌∙◌}
use mathlib.Core.List.{List, [], ◌∷◌}
use Rattle.answers.specs.declared.Answer.{Answer}
use Rattle.answers.specs.Verdicts.{Verdict, ◌and_then◌, passed, along, first_in}

module _ (f : ℕ → Verdict (Unit {0})) {left : List ℕ} where
  pub step-passes : {j : ℕ} {js : List ℕ} → left ≡ j ∷ js → f j ≡ passed → first_in f left ≡ first_in f js
  unfolding along
  step-passes {j} {js} l e = ap (first_in f) l ∙ ap (λ (v : Verdict (Unit {0})). v and_then λ x. first_in f js) e

  pub step-refuses : {j : ℕ} {js : List ℕ} {a : Answer} → left ≡ j ∷ js → f j ≡ Err a → first_in f left ≡ Err a
  unfolding along
  step-refuses {j} {js} l e = ap (first_in f) l ∙ ap (λ (v : Verdict (Unit {0})). v and_then λ x. first_in f js) e

  pub steps-end : left ≡ [] → first_in f left ≡ passed
  unfolding along
  steps-end l = ap (first_in f) l
