-- `lengths::lengthen` meets its contract: after some steps each state has the greatest length that they give it. Assumes nothing.
use Prim.Native.Nat.{ℕ, suc, ◌+◌, ◌<◌}
use mathlib.Core.Path.{◌≡◌, ap, ◌∙◌}
use native.Mathlib.Numerals.{add-one}
use native.Mathlib.Omega.{arith}
use lib.ListN.{get_or}
use Rattle.lengths.specs.OpenSteps.{kept_at, kept_system}
use Rattle.lengths.proofs.OpenStepLaws.{longest-start, longest-next}
use Rattle.lengths.proofs.lengthen.Goals as goal

pub loop-step-init : goal.loop-step-init
loop-step-init c = longest-start _ _

pub loop-step-preserved : goal.loop-step-preserved
loop-step-preserved c =
    let kept = c.args.kept.now in
    let j = c.loop-step.step-index in
    let lengths : ℕ → ℕ = λ u. get_or c.args.before u 0 in
    let more-is : lengths c.from.result + 1 ≡ suc (lengths (kept_at kept j).to) =
    add-one _ ∙ ap (λ (u : ℕ). suc (lengths u)) c.from.ensures in
    let small : c.from-x.result < 64 = omega (arith, c.from-x.ensures, c.requires.ends.from< j c.loop-step-test.true) in
    rw c.max.ensures (longest-next (kept_system kept) lengths j c.loop-step.invariant c.from-x.ensures more-is small)
