-- `files::put_header` meets its contract: the fields are put one after the other. Assumes nothing.
use Prim.Native.Nat.{◌%◌}
use mathlib.Core.Path.{◌≡◌}
use native.Mathlib.Omega.{arith}
use Rattle.lists.specs.Numbers.{big_bytes}
use Rattle.lists.proofs.FillLaws.{front-none, front-all}
use Rattle.lists.proofs.NumberLaws.{front-number}
use Rattle.files.specs.File.{certificate_header}
use Rattle.files.proofs.put_header.Goals as goal

pub returns : goal.returns
unfolding certificate_header big_bytes
returns c =
    let z = c.args.sizes in
    let room = c.requires in
    let first = front-number 1 0x54 (front-none c.args.header.now) c.put_be.ensures (omega arith) in
    let second = front-number 1 0x50 first c.put_be-2.ensures (omega arith) in
    let third = front-number 1 0x43 second c.put_be-3.ensures (omega arith) in
    let version = front-number 2 1 third c.put_be-4.ensures (omega arith) in
    let left = front-number 1 z.n1 version (rw c.from.ensures at c.put_be-5.ensures) (omega arith) in
    let right = front-number 1 z.n2 left (rw c.from-2.ensures at c.put_be-6.ensures) (omega arith) in
    let left_steps = front-number 2 z.m1 right (rw c.from-3.ensures at c.put_be-7.ensures) (omega arith) in
    let right_steps = front-number 2 z.m2 left_steps (rw c.from-4.ensures at c.put_be-8.ensures) (omega arith) in
    let n1 : z.n1 % 256 ≡ z.n1 = omega arith in
    let n2 : z.n2 % 256 ≡ z.n2 = omega arith in
    rw (n1, n2) at (front-all right_steps (omega arith))
