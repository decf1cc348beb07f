-- Laws of the judge's progress: over a list and then another, how many are counted, and what it is at the end. Assumes nothing.
use Rattle.std.specs.Prelude.{Ok, Err}
use Prim.Native.Nat.{ℕ, ◌+◌, ◌≤◌}
use mathlib.Core.Path.{◌≡◌, refl, ap, ◌∙◌}
use mathlib.Core.List.{List, [], ◌∷◌, ◌++◌, map}
use native.Mathlib.Omega.{arith}
use lib.ListN.{length}
use Rattle.answers.specs.Verdicts.{Verdict, along, answer_of}
use Rattle.answers.specs.declared.Answer.{Answer}
use Rattle.answers.proofs.VerdictLaws.{along-map}
use Rattle.obligations.specs.Judging.{Finding, nothing, met_by}
use Rattle.outcomes.specs.declared.Clause.{Clause}
use Rattle.outcomes.specs.declared.Clause.TheVariants.{Step, Stutter, Match}
use Rattle.sweeps.specs.declared.Tally.{Tally}
use Rattle.sweeps.specs.Tallies.{add_to, total, tallied, acceptance}
use Rattle.sweeps.specs.SideVerdicts.{progress, end_answer}

module _ (ys : List (Verdict Finding)) where
  pub progress-on : (xs : List (Verdict Finding)) (y z : Tally) → progress xs y ≡ Ok z → progress (xs ++ ys) y ≡ progress ys z
  unfolding progress along
  progress-on [] y z e = ap (progress ys) (cc e)
  progress-on (Ok nothing ∷ xs) y z e = progress-on xs y z e
  progress-on (Ok (met_by clause x) ∷ xs) y z e = progress-on xs (add_to y clause) z e
  progress-on (Err answer ∷ xs) y z e = absurd (cc e)

  pub progress-stop : (xs : List (Verdict Finding)) (y : Tally) (a : Answer) → progress xs y ≡ Err a → progress (xs ++ ys) y ≡ Err a
  unfolding progress along
  progress-stop [] y a e = absurd (cc e)
  progress-stop (Ok nothing ∷ xs) y a e = progress-stop xs y a e
  progress-stop (Ok (met_by clause x) ∷ xs) y a e = progress-stop xs (add_to y clause) a e
  progress-stop (Err answer ∷ xs) y a e = e

-- one more is counted
pub add_total : (y : Tally) (clause : Clause) → total (add_to y clause) ≡ total y + 1
add_total y Step = omega arith
add_total y Stutter = omega arith
add_total y Match = omega arith

-- at most as many are counted as there are checks
pub progress-total : (xs : List (Verdict Finding)) (y z : Tally) → progress xs y ≡ Ok z → total z ≤ total y + length xs
unfolding progress along
progress-total [] y z e = let q : y ≡ z = cc e in rw q (omega arith)
progress-total (Ok nothing ∷ xs) y z e = omega (arith, progress-total xs y z e)
progress-total (Ok (met_by clause x) ∷ xs) y z e = omega (arith, progress-total xs (add_to y clause) z e, add_total y clause)
progress-total (Err answer ∷ xs) y z e = absurd (cc e)

-- the answer at the end is that of the verdict
pub end-answer : {C : Type 0} (f : C → Verdict Finding) (pairs : ℕ) (cs : List C) (y : Tally)
    → end_answer pairs (progress (map f cs) y) ≡ answer_of (acceptance pairs) (along (λ c. tallied (f c)) cs y)
unfolding progress
end-answer f pairs cs y = ap (end_answer pairs) (along-map tallied f cs y) ∙ go (along (λ c. tallied (f c)) cs y)
  where
    go : (v : Verdict Tally) → end_answer pairs v ≡ answer_of (acceptance pairs) v
    go (Ok z) = refl
    go (Err a) = refl
