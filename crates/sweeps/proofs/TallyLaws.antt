-- Laws of the tally: where the judge goes on to the end, it has counted each obligation under the clause that meets it first. Assumes nothing.
use Rattle.std.specs.Prelude.{Ok}
use Prim.Native.Nat.{ℕ, suc, ◌+◌}
use mathlib.Core.Path.{◌≡◌, refl, ap}
use mathlib.Core.Logic.{◌⊎◌, inl, inr, ⊎_elim}
use mathlib.Core.List.{List, [], ◌∷◌}
use native.Mathlib.Omega.{arith}
use Rattle.lists.specs.Lists.{Counts}
use Rattle.bisimulation.specs.Systems.{View, Ranks, flip, swap}
use Rattle.answers.specs.Verdicts.{along}
use Rattle.answers.proofs.VerdictLaws.{then-on, on_none}
use Rattle.outcomes.specs.declared.Clause.{Clause}
use Rattle.outcomes.specs.declared.Clause.TheVariants.{Step, Stutter, Match}
use Rattle.obligations.specs.Judging.{Check, labels_of, left_step, right_step, Finding, nothing, met_by, check_verdict, is_obligation, count_obligations}
use Rattle.obligations.specs.Outcomes.{MetFirstBy}
use Rattle.obligations.specs.CheckCauses.{CheckMetBy}
use Rattle.obligations.proofs.JudgingLaws.{Found, check-decided}
use Rattle.sweeps.specs.declared.Tally.{Tally}
use Rattle.sweeps.specs.Tallies.{count_of, total, add_to, counted, tallied}
use Rattle.sweeps.proofs.ProgressLaws.{add_total}

-- one clause is the first that holds, and the others are not
first-only : (v : View) (r : Ranks) (j t : ℕ) (y : Tally) (k clause : Clause) → MetFirstBy v r j t k
    → (MetFirstBy v r j t clause × (count_of clause (add_to y k) ≡ suc (count_of clause y)))
    ⊎ ((¬ MetFirstBy v r j t clause) × (count_of clause (add_to y k) ≡ count_of clause y))
first-only v r j t y Step Step p = inl (p, omega arith)
first-only v r j t y Step Stutter p = inr (λ q. q.0 p, refl)
first-only v r j t y Step Match p = inr (λ q. q.0 p, refl)
first-only v r j t y Stutter Step p = inr (λ q. p.0 q, refl)
first-only v r j t y Stutter Stutter p = inl (p, omega arith)
first-only v r j t y Stutter Match p = inr (λ q. q.1 p.1, refl)
first-only v r j t y Match Step p = inr (λ q. p.0 q, refl)
first-only v r j t y Match Stutter p = inr (λ q. p.1 q.1, refl)
first-only v r j t y Match Match p = inl (p, omega arith)

module _ (v : View) (r : Ranks) where
  -- what a check that goes on adds to the count of a clause, and to all counts
  found-counts : (clause : Clause) (c : Check) (y : Tally) (f : Finding) → Found v r c f
      → (CheckMetBy v r clause c × (count_of clause (counted y f) ≡ suc (count_of clause y)))
      ⊎ ((¬ CheckMetBy v r clause c) × (count_of clause (counted y f) ≡ count_of clause y))
  found-counts clause (labels_of s t) y nothing e = inr (λ q. q, refl)
  found-counts clause (left_step s t j) y nothing e = absurd (omega (arith, e))
  found-counts clause (right_step s t j) y nothing e = absurd (omega (arith, e))
  found-counts clause (labels_of s t) y (met_by k x) p = absurd p
  found-counts clause (left_step s t j) y (met_by k x) p = first-only v r j t y k clause p.0
  found-counts clause (right_step s t j) y (met_by k x) p = first-only (flip v) (swap r) j s y k clause p.0

  found-total : (c : Check) (y : Tally) (f : Finding) → Found v r c f → total (counted y f) ≡ total y + is_obligation c
  found-total c y nothing e = omega (arith, e)
  found-total (labels_of s t) y (met_by k x) p = absurd p
  found-total (left_step s t j) y (met_by k x) p = add_total y k
  found-total (right_step s t j) y (met_by k x) p = add_total y k

  -- the finding of a check that goes on
  finding : (c : Check) (y z : Tally) → tallied (check_verdict v r c) y ≡ Ok z → (f : Finding) × (counted y f ≡ z) × Found v r c f
  finding c y z e = let q = then-on (check_verdict v r c) e in (q.0, cc q.2, (on_none q.1 (check-decided v r c)).0)

  pub along-counts : (clause : Clause) (cs : List Check) (y z : Tally) → along (λ c. tallied (check_verdict v r c)) cs y ≡ Ok z
      → (n : ℕ) × Counts (CheckMetBy v r clause) cs n × (count_of clause z ≡ count_of clause y + n)
  unfolding along
  along-counts clause [] y z e = let q : y ≡ z = cc e in (0, refl, rw q (omega arith))
  along-counts clause (c ∷ cs) y z e =
      let q = then-on (tallied (check_verdict v r c) y) e in
      let f = finding c y q.0 q.1 in
      let k = along-counts clause cs q.0 z q.2 in
      let g = ap (count_of clause) f.1 in
      ⊎_elim
      (λ p. (suc k.0, inl (p.0, (k.0, refl, k.1)), omega (arith, p.1, g, k.2)))
      (λ p. (k.0, inr (p.0, k.1), omega (arith, p.1, g, k.2)))
      (found-counts clause c y f.0 f.2)

  pub along-total : (cs : List Check) (y z : Tally) → along (λ c. tallied (check_verdict v r c)) cs y ≡ Ok z → total z ≡ total y + count_obligations cs
  unfolding along count_obligations
  along-total [] y z e = let q : y ≡ z = cc e in rw q (omega arith)
  along-total (c ∷ cs) y z e =
      let q = then-on (tallied (check_verdict v r c) y) e in
      let f = finding c y q.0 q.1 in
      let g = ap total f.1 in
      omega (arith, found-total c y f.0 f.2, g, along-total cs q.0 z q.2)
