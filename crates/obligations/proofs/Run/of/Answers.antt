-- `obligations::Run::of` meets its contract: each place is the layout's, and the sizes are so small that it fits. Assumes nothing.
use Prim.Native.Nat.{ℕ}
use mathlib.Core.Path.{ap}
use native.Mathlib.Omega.{arith}
use Rattle.certificates.specs.declared.Runs.{Runs}
use Rattle.obligations.proofs.OnSidesLaws.{runs-low}
use Rattle.obligations.proofs.Run.of.Goals as goal
use Rattle.obligations.proofs.Run.of.Goals.{in-Left, in-Right}

pub overflow_cast-result : goal.overflow_cast-result
overflow_cast-result c =
    let l = runs-low c.args.sizes (omega arith) (omega arith) (omega arith) (omega arith) in
    elim c.match-which.branch [
      | in-Left w ↦ omega (arith, l.al<, ap (λ (r : Runs). r.al) c.runs-runs.ensures, ap (λ (p : ℕ × ℕ × ℕ). p.0) w.stutter-is)
      | in-Right w ↦ omega (arith, l.ar<, ap (λ (r : Runs). r.ar) c.runs-runs.ensures, ap (λ (p : ℕ × ℕ × ℕ). p.0) w.stutter-is)
    ]

pub overflow_cast-result-2 : goal.overflow_cast-result-2
overflow_cast-result-2 c =
    let l = runs-low c.args.sizes (omega arith) (omega arith) (omega arith) (omega arith) in
    elim c.match-which.branch [
      | in-Left w ↦ omega (arith, l.cl<, ap (λ (r : Runs). r.cl) c.runs-runs.ensures, ap (λ (p : ℕ × ℕ × ℕ). p.1) w.stutter-is)
      | in-Right w ↦ omega (arith, l.cr<, ap (λ (r : Runs). r.cr) c.runs-runs.ensures, ap (λ (p : ℕ × ℕ × ℕ). p.1) w.stutter-is)
    ]
