-- The verdicts that the judge reads off two sides are those on the theory's checks in judging order. Assumes nothing.
use Prim.Native.Nat.{ℕ}
use mathlib.Core.Path.{◌≡◌, refl, ap, ap₂, ◌∙◌}
use mathlib.Core.List.{List, [], ◌∷◌, map}
use Rattle.lists.specs.Lists.{All}
use Rattle.bisimulation.specs.Systems.{Ranks}
use Rattle.sides.specs.declared.Side.{Side}
use Rattle.sides.specs.Views.{view_in}
use Rattle.obligations.specs.declared.Run.{Run}
use Rattle.obligations.specs.Judging.{Check, checks, step_verdict, check_verdict}
use Rattle.obligations.proofs.JudgingLaws.{checks-all}
use Rattle.obligations.proofs.OnSidesLaws.{checks-in, Holding, left-outcome, right-outcome}
use Rattle.sweeps.specs.SideVerdicts.{step_in, verdict_in, all_verdicts}

map-all : {A B : Type 0} (f g : A → B) (xs : List A) → All (λ x. f x ≡ g x) xs → map f xs ≡ map g xs
map-all f g [] a = refl
map-all f g (x ∷ xs) a = ap₂ (λ (y : _) (l : List _). y ∷ l) a.0 (map-all f g xs a.1)

module _ (ours theirs : Side) (certificate : List ℕ) (left right : Run) (r : Ranks) (holding : Holding ours theirs certificate left right r) where
  verdict-is : Check → Type 0
  verdict-is c = verdict_in ours theirs certificate left right c ≡ check_verdict (view_in ours theirs) r c

  pub verdicts-are : all_verdicts ours theirs certificate left right ≡ map (check_verdict (view_in ours theirs) r) (checks (view_in ours theirs))
  unfolding all_verdicts verdict-is verdict_in step_in check_verdict
  verdicts-are =
      ap (map (verdict_in ours theirs certificate left right)) (checks-in holding.linked holding.linked')
      ∙ map-all (verdict_in ours theirs certificate left right) (check_verdict (view_in ours theirs) r) (checks (view_in ours theirs))
      (checks-all (view_in ours theirs) verdict-is (record {
        labels = λ s t h. refl;
        left = λ s t h j l e. ap (step_verdict 0 s t j) (left-outcome ours theirs certificate left right r holding s t h j l);
        right = λ s t h j l e. ap (step_verdict 1 s t j) (right-outcome ours theirs certificate left right r holding s t h j l);
      }))
