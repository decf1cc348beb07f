-- `words::Row::split_first` meets its contract: the set without its smallest state has fewer states. Assumes nothing.
use Prim.Native.Nat.{◌<◌}
use native.Mathlib.Omega.{arith}
use Rattle.words.specs.Bits.{first_bit}
use Rattle.words.proofs.WalkLaws.{walk-shorter}
use Rattle.words.proofs.Row.split_first.Goals as goal

pub returns-clause-fewer : goal.returns-clause-fewer
returns-clause-fewer c =
    let set = c.args.self.0 in
    let e = c.first-t.ensures in
    let h : first_bit set < 64 = rw (← e) c.if-t-ge64.false in
    rw (c.remove.ensures, e) (walk-shorter set (omega arith) h)
