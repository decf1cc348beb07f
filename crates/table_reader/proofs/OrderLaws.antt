-- Laws of the order of steps: rising steps without keys are all different, so that in a table that is read and has no keys no step stands twice, whichever its
-- version. With keys two steps may differ in their key only. Assumes nothing.
use Prim.Native.Nat.{ℕ, zero, suc, ◌<◌}
use mathlib.Core.Path.{◌≡◌, ◌∙◌, subst}
use mathlib.Core.Bool.{false}
use mathlib.Core.Logic.{◌⊎◌, inl, inr, ⊎_elim}
use mathlib.Core.List.{List}
use native.Mathlib.Nat.{not-suc-le-zero}
use native.Mathlib.Omega.{arith}
use native.Mathlib.Decide.{dec_lt}
use Rattle.answers.specs.Numbers.{six_numbers}
use Rattle.answers.specs.Causes.{only, NoCause}
use Rattle.answers.proofs.CauseLaws.{append-none, below_none, none_only}
use Rattle.answers.proofs.DecideLaws.{decides-stable, decides-either, test-decides}
use Rattle.tables.specs.Table.{keyed, format_in, layout_in, steps_of, steps_part, from_in, to_in}
use Rattle.tables.proofs.KindLaws.{plain-key}
use Rattle.table_reader.specs.TableCauses.{Greater, NotGreater, EqualsEarlier, StepsRise, doubled_causes, not_greater_causes, order_causes}
use Rattle.table_reader.proofs.TestLaws.{greater-decides}

module _ (s : List ℕ) where
  greater-trans : (i j k : ℕ) → Greater s j i → Greater s k j → Greater s k i
  greater-trans i j k (inl a) (inl b) = inl (omega arith)
  greater-trans i j k (inl a) (inr b) = inl (omega (arith, b.0))
  greater-trans i j k (inr a) (inl b) = inl (omega (arith, a.0))
  greater-trans i j k (inr (a, inl p)) (inr (b, inl q)) = inr (a ∙ b, inl (omega arith))
  greater-trans i j k (inr (a, inl p)) (inr (b, inr q)) = inr (a ∙ b, inl (omega (arith, q.0)))
  greater-trans i j k (inr (a, inr p)) (inr (b, inl q)) = inr (a ∙ b, inl (omega (arith, p.0)))
  greater-trans i j k (inr (a, inr p)) (inr (b, inr q)) = inr (a ∙ b, inr (p.0 ∙ q.0, omega (arith, p.1, q.1)))

  module _ (m : ℕ) (rising : (j : ℕ) → j < m → ¬ NotGreater s j) where
    -- a step is greater than every earlier one
    pub rising-greater : (i j : ℕ) → i < j → j < m → Greater s j i
    rising-greater i zero a l = absurd (not-suc-le-zero a)
    rising-greater i (suc j) a l =
        let next : Greater s (suc j) j = decides-stable (greater-decides (format_in s) (steps_part s) (suc j) j) (rising (suc j) l) in
        elim (dec_lt i j) [
          | yes b ↦ greater-trans i j (suc j) (rising-greater i j b (omega arith)) next
          | no b ↦ subst (λ (k : ℕ). Greater s (suc j) k) (omega arith) next
        ]

    -- without keys the ends decide
    pub ends-greater : keyed s ≡ false → (i j : ℕ) → i < j → j < m
        → (from_in s i < from_in s j) ⊎ ((from_in s i ≡ from_in s j) × (to_in s i < to_in s j))
    ends-greater plain i j a l = by-ends (rising-greater i j a l)
      where
        by-ends : Greater s j i → (from_in s i < from_in s j) ⊎ ((from_in s i ≡ from_in s j) × (to_in s i < to_in s j))
        by-ends (inl f) = inl f
        by-ends (inr (f, inl g)) = inr (f, g)
        by-ends (inr (f, inr g)) = absurd (let x = plain-key s plain i in let y = plain-key s plain j in omega (arith, g.1))

    -- so rising steps are all different
    pub rising-once : keyed s ≡ false → (j : ℕ) → j < m → ¬ EqualsEarlier s j
    rising-once plain j l (i, a, p, q) = ⊎_elim (λ h. omega arith) (λ h. omega arith) (ends-greater plain i j a l)

  module _ (none : NoCause (order_causes 0 s)) where
    parts : NoCause (only (StepsRise s) (not_greater_causes 0 s)) × NoCause (only (¬ StepsRise s) (doubled_causes 0 s))
    parts = append-none (only (StepsRise s) (not_greater_causes 0 s)) (only (¬ StepsRise s) (doubled_causes 0 s)) none

    -- where the steps rise, each is greater than the one before it
    pub steps-rise : StepsRise s → (j : ℕ) → j < steps_of s → ¬ NotGreater s j
    steps-rise v = below_none (steps_of s) (NotGreater s) (six_numbers 24 0) (none_only (StepsRise s) (not_greater_causes 0 s) v parts.0)

    -- without keys no step stands twice, whichever the version
    pub steps-once : keyed s ≡ false → (j : ℕ) → j < steps_of s → ¬ EqualsEarlier s j
    steps-once plain =
        ⊎_elim
        (λ v. rising-once (steps_of s) (steps-rise v) plain)
        (λ v. below_none (steps_of s) (EqualsEarlier s) (six_numbers 9 0) (none_only (¬ StepsRise s) (doubled_causes 0 s) v parts.1))
        (decides-either (test-decides (layout_in s).rising))
