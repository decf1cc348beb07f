-- `certificates::Sizes::length` meets its contract: CR ends m2 times n1 bytes after it begins, and the sizes are one or two bytes, so the sum fits.
-- Assumes nothing.
use mathlib.Core.Path.{◌≡◌, ap}
use native.Mathlib.Omega.{arith}
use Rattle.certificates.specs.declared.Runs.{Runs}
use Rattle.certificates.specs.Layout.{cr_at, certificate_length}
use Rattle.certificates.proofs.LayoutLaws.{ProductsFit, products-fit}
use Rattle.certificates.proofs.Sizes.length.Goals as goal
use Rattle.certificates.proofs.Sizes.length.Goals.{After-runs-runs, After-struct_known-2-1}

fit : (c : After-struct_known-2-1) → ProductsFit 255 65535 c.args.self
fit c = products-fit _ (omega arith) (omega arith) (omega arith) (omega arith)

-- where CR begins
begins : (c : After-runs-runs) → c.runs-runs.result.cr ≡ cr_at c.args.self
begins c = ap (λ (r : Runs). r.cr) c.runs-runs.ensures

pub overflow_mul-result : goal.overflow_mul-result
overflow_mul-result c = let p = fit (goal.at.overflow_mul-result c).After-struct_known-2-1 in omega arith

pub overflow_add-result : goal.overflow_add-result
unfolding cr_at
overflow_add-result c = let p = fit (goal.at.overflow_add-result c).After-struct_known-2-1 in omega (arith, begins (goal.at.overflow_add-result c).After-runs-runs)

pub returns : goal.returns
unfolding cr_at certificate_length
returns c = omega (arith, begins (goal.at.returns c).After-runs-runs)
