-- Where the tables hold the lengths of two linked sides, what is read off them is the theory's examination of their view. A side is a view: one law serves
-- our steps and theirs. Assumes nothing.
use Prim.Native.Nat.{ℕ, ◌<◌}
use mathlib.Core.Path.{◌≡◌, refl, sym, ap, ap₂, ◌∙◌}
use mathlib.Core.Bool.{Bool, ◌&&◌, ◌||◌}
use native.Mathlib.Omega.{arith}
use lib.Dec.{T, ltb, leb}
use Rattle.words.specs.Bits.{has_bit}
use Rattle.bisimulation.specs.Systems.{View, WellFormed, flip, stays}
use Rattle.answers.specs.Verdicts.{pass_if, first_in}
use Rattle.answers.proofs.VerdictLaws.{along-cong, then_same}
use Rattle.sides.specs.declared.Side.{Side}
use Rattle.sides.specs.Side.{system_in, related_to}
use Rattle.sides.specs.Built.{Linked}
use Rattle.sides.specs.Views.{view_in}
use Rattle.starts.specs.StartsNamed.{starts_named_in}
use Rattle.sides.proofs.ViewLaws.{steps-few}
use Rattle.obligations.specs.CheckAnswers.{step_answer}
use Rattle.obligations.specs.Judging.{checks}
use Rattle.obligations.specs.OnSides.{checks_in}
use Rattle.obligations.proofs.JudgingLaws.{checks-all}
use Rattle.obligations.proofs.OnSidesLaws.{checks-in}
use Rattle.starts.proofs.OnSidesLaws.{starts-in}
use Rattle.lengths.specs.Cells.{distance_table, chain_table}
use Rattle.lengths.proofs.DistanceLaws.{matched-test}
use Rattle.lengths.proofs.LengthTableLaws.{table-distance, table-chain}
use Rattle.examination.specs.Examine.{may_keep, verdict_by, maker_verdict, endless_at, endless, examined}
use Rattle.examination.specs.OnSides.{kept_by, long_by, verdict_in, chains_in, examined_in}
use Rattle.examination.proofs.ChainLaws.{chains-cong}

-- ---- one side

module _ (ours theirs : Side) where
  -- a step may be kept by the table of distances where the theory keeps it
  kept-is : (j t : ℕ) → j < (system_in ours).steps → t < 64 → kept_by (view_in ours theirs) (distance_table (view_in ours theirs)) j t
      ≡ may_keep (view_in ours theirs) j t
  unfolding kept_by may_keep
  kept-is j t h l =
      let v = view_in ours theirs in
      ap (λ (b : Bool). b || stays v j t)
      (ap (λ (x : ℕ). ltb x v.other.states) (table-distance v (steps-few ours) j t h l) ∙ sym (matched-test v j t))

-- a chain is too long by the table of chain lengths where it is endless
module _ (ours theirs : Side) (turned : (s t : ℕ) → has_bit (related_to theirs t) s ≡ has_bit (related_to ours s) t) where
  chains-are : (side : ℕ) → chains_in theirs ours side (chain_table (view_in ours theirs)) ≡ endless (view_in ours theirs) side
  unfolding endless long_by endless_at
  chains-are side =
      chains-cong side (system_in theirs).states (system_in ours).states (long_by (view_in theirs ours) (chain_table (view_in ours theirs)))
      (endless_at (view_in ours theirs))
      λ b c hb hc.
      ap₂ ◌&&◌ (turned c b) (ap (leb (system_in ours).states) (table-chain (view_in ours theirs) b c (omega arith) (omega arith)))

-- ---- two sides

module _ (ours theirs : Side) (a : Linked ours) (b : Linked theirs) (formed : WellFormed (view_in ours theirs))
    (flipped : view_in theirs ours ≡ flip (view_in ours theirs)) where
  abbrev v : View
  v = view_in ours theirs

  turned : (s t : ℕ) → has_bit (related_to theirs t) s ≡ has_bit (related_to ours s) t
  turned s t = ap (λ (w : View). w.related t s) flipped

  related-small : (s t : ℕ) → T (v.related s t) → (s < 64) × (t < 64)
  related-small s t h =
      let p = formed.here.related< s t h in
      let q = formed.there.related< t s h in
      (omega arith, omega arith)

  their-kept : (k s : ℕ) → k < (system_in theirs).steps → s < 64 → kept_by (view_in theirs ours) (distance_table (view_in theirs ours)) k s ≡ may_keep (flip v) k s
  their-kept k s h l = kept-is theirs ours k s h l ∙ ap (λ (w : View). may_keep w k s) flipped

  -- 17 and 22
  pairs-are : first_in (verdict_in ours theirs (distance_table (view_in ours theirs)) (distance_table (view_in theirs ours))) (checks_in ours theirs)
      ≡ first_in (maker_verdict v) (checks v)
  unfolding maker_verdict verdict_by
  pairs-are =
      let f = verdict_in ours theirs (distance_table (view_in ours theirs)) (distance_table (view_in theirs ours)) in
      ap (first_in f) (checks-in a b)
      ∙ along-cong (λ c x. f c) (λ c x. maker_verdict v c) (checks v)
      (checks-all v _ (record {
        labels = λ s t h x. refl;
        left = λ s t h j l e x. ap (λ (k : Bool). pass_if k (step_answer 22 0 s t j)) (kept-is ours theirs j t l (related-small s t h).1);
        right = λ s t h j l e x. ap (λ (k : Bool). pass_if k (step_answer 22 1 s t j)) (their-kept j s l (related-small s t h).0);
      })) tt

  -- what is read off the tables of both sides is the theory's examination
  pub examination-is : examined_in ours theirs (distance_table (view_in ours theirs)) (distance_table (view_in theirs ours)) (chain_table (view_in ours theirs))
      (chain_table (view_in theirs ours))
      ≡ examined v (starts_named_in ours theirs)
  unfolding examined_in examined
  examination-is =
      then_same (starts-in ours theirs flipped) (then_same pairs-are (then_same (chains-are ours theirs turned 0)
      (chains-are theirs ours (λ t s. sym (turned s t)) 1 ∙ ap (λ (w : View). endless w 1) flipped)))
