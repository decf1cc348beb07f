-- `certificates::Sizes::runs` meets its contract: each run begins where the one before ends, and the sizes are one or two bytes, so the sums fit.
-- Assumes nothing.
use mathlib.Core.Path.{refl}
use native.Mathlib.Omega.{arith}
use Rattle.certificates.specs.Layout.{al_at, ar_at, cl_at, cr_at}
use Rattle.certificates.proofs.LayoutLaws.{ProductsFit, products-fit, runs-are}
use Rattle.certificates.proofs.Sizes.runs.Goals as goal
use Rattle.certificates.proofs.Sizes.runs.Goals.{After-struct_known-2-1}

fit : (c : After-struct_known-2-1) → ProductsFit 255 65535 c.args.self
fit c = products-fit _ (omega arith) (omega arith) (omega arith) (omega arith)

pub overflow_mul-ar : goal.overflow_mul-ar
overflow_mul-ar c = let p = fit (goal.at.overflow_mul-ar c).After-struct_known-2-1 in omega arith

pub overflow_add-ar : goal.overflow_add-ar
overflow_add-ar c = let p = fit (goal.at.overflow_add-ar c).After-struct_known-2-1 in omega arith

pub overflow_mul-cl : goal.overflow_mul-cl
overflow_mul-cl c = let p = fit (goal.at.overflow_mul-cl c).After-struct_known-2-1 in omega arith

pub overflow_add-cl : goal.overflow_add-cl
overflow_add-cl c = let p = fit (goal.at.overflow_add-cl c).After-struct_known-2-1 in omega arith

pub overflow_mul-cr : goal.overflow_mul-cr
overflow_mul-cr c = let p = fit (goal.at.overflow_mul-cr c).After-struct_known-2-1 in omega arith

pub overflow_add-cr : goal.overflow_add-cr
overflow_add-cr c = let p = fit (goal.at.overflow_add-cr c).After-struct_known-2-1 in omega arith

pub returns : goal.returns
unfolding al_at ar_at cl_at cr_at
returns c = runs-are c.args.self refl refl (omega arith) (omega arith)
