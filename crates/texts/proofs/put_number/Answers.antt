-- `texts::put_number` meets its contract: the digits, and a byte after them. Assumes nothing.
use native.Mathlib.Omega.{arith}
use Rattle.texts.proofs.DecimalLaws.{decimal-most}
use Rattle.texts.proofs.PutLaws.{number-end, number_more, number_small}
use Rattle.texts.proofs.put_number.Goals as goal

pub put_digits-end-requires : goal.put_digits-end-requires
put_digits-end-requires c = omega (arith, c.requires, decimal-most c.args.n)

pub bounds-output-end : goal.bounds-output-end
bounds-output-end c = number-end c.args.n c.requires c.put_digits-end.ensures

pub overflow_add-result : goal.overflow_add-result
overflow_add-result c =
    let e = number-end c.args.n c.requires c.put_digits-end.ensures in
    omega arith

pub returns : goal.returns
returns c =
    let w = c.put_digits-end.ensures in
    record { text = number_more c.args.n c.args.after c.requires w; small = number_small c.args.n w }
