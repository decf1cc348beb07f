-- `lists::number` meets its contract: after i turns x is the number in the first i bytes, and i bytes never pass 64 bits. Assumes nothing.
use Prim.Native.Nat.{ℕ, ◌≤◌, ◌<◌, ◌+◌, ◌*◌, ◌^◌}
use mathlib.Core.Path.{◌≡◌, refl}
use native.Mathlib.Omega.{arith}
use Rattle.lists.specs.Numbers.{big_endian, byte_at}
use Rattle.lists.proofs.NumberLaws.{big-more, big_lt, big-fits}
use mathlib.Core.List.{List}
use lib.ListN.{get_or}
use mir.Syntax.{w8}
use mir.Val.{Fits}
use Rattle.lists.proofs.number.Goals as goal

pub loop-i-init : goal.loop-i-init
unfolding big_endian
loop-i-init c = refl

-- the bytes read so far and one more fit
next_fits : (s : List ℕ) (at k i : ℕ) → ((j : ℕ) → Fits w8 (get_or s j 0)) → k ≤ 8 → i < k → big_endian s at i * 256 + byte_at s (at + i) < 2 ^ 64
next_fits s at k i bytes h l = rw big-more at (big-fits s at (i + 1) (λ j. (bytes j).fits) (omega arith))

pub overflow_mul-x : goal.overflow_mul-x
overflow_mul-x c =
    let a = c.args in
    omega (arith, next_fits a.s.now a.at a.k c.loop-i.i c.type_inv.s c.requires c.loop-i-test.true)

pub overflow_add-x : goal.overflow_add-x
overflow_add-x c =
    let a = c.args in
    omega (arith, next_fits a.s.now a.at a.k c.loop-i.i c.type_inv.s c.requires c.loop-i-test.true)

pub loop-i-preserved : goal.loop-i-preserved
loop-i-preserved c =
    let a = c.args in
    omega (arith, big-more a.s.now a.at c.loop-i.i)

pub returns-clause-small : goal.returns-clause-small
returns-clause-small c =
    let a = c.args in
    let e : c.loop-i.i ≡ a.k = omega arith in
    rw (c.loop-i.invariant, e) (big_lt a.s.now a.at (λ j. (c.type_inv.s j).fits) a.k)
