-- The proof of the cycle of calls {put_digits}: the digits of the tenth, and then the last digit. The measure is the number. Assumes nothing.
use Prim.Native.Nat.{◌≤◌}
use native.Mathlib.Omega.{arith}
use native.Mathlib.Nat.{div-lt_self}
use Rattle.texts.proofs.DecimalLaws.{decimal-longer}
use Rattle.texts.proofs.PutLaws.{one_end, digits-one, digits-end, digits_more}
use Rattle.texts.proofs.+put_digits.Goals as goal

pub bounds-output-at : goal.bounds-output-at
bounds-output-at t c = one_end c.args.output.now c.if-n-lt10.true c.requires

pub returns-then-n-lt10 : goal.returns-then-n-lt10
returns-then-n-lt10 t c = digits-one c.if-n-lt10.true c.requires

pub put_digits-end-requires : goal.put_digits-end-requires
put_digits-end-requires t c =
    let l : 10 ≤ c.args.n = omega arith in (
      omega (arith, c.decreases, div-lt_self {n = c.args.n} {k = 10} (omega arith) (omega arith)),
      omega (arith, c.requires, decimal-longer c.args.n l c.ranges.n.fits),
    )

pub bounds-output-end : goal.bounds-output-end
bounds-output-end t c = digits-end (omega arith) c.ranges.n.fits c.requires c.put_digits-end.ensures

pub overflow_add-result-2 : goal.overflow_add-result-2
overflow_add-result-2 t c =
    let e = digits-end (omega arith) c.ranges.n.fits c.requires c.put_digits-end.ensures in
    omega arith

pub returns : goal.returns
returns t c = digits_more (omega arith) c.ranges.n.fits c.requires c.put_digits-end.ensures
