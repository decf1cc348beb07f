-- `sides::Side::of` meets its contract: the labels, then the ends and the keys of the steps; then the steps are linked, from the last to the first. Assumes
-- nothing.
use Prim.Native.Nat.{ℕ, suc, ◌-◌, ◌<◌, min}
use mathlib.Core.Path.{◌≡◌, refl, ap}
use native.Mathlib.Omega.{arith}
use Rattle.std.proofs.lemmas.List.{length-replicate}
use Rattle.tables.specs.declared.Layout.{Layout}
use Rattle.sides.proofs.BuildLaws.{same-all, fill_none, filling-label, filling-step, filling-all}
use Rattle.sides.proofs.LinkLaws.{links-start, links-next}
use Rattle.sides.proofs.Side.of.Goals as goal

pub loop-s-init : goal.loop-s-init
loop-s-init c =
    record {
      states-is = refl;
      steps-is = refl;
      initial-is = refl;
      word-is = ap (λ (x : Layout). x.word) c.layout.ensures;
      related-is = refl;
      labels-are = fill_none 64;
      from-are = fill_none 256;
      to-are = fill_none 256;
      keys-are = fill_none 256;
      roomy = record {
        silent-room = length-replicate {A = ℕ} 64 0;
        first-room = length-replicate {A = ℕ} 64 256;
        next-room = length-replicate {A = ℕ} 256 0;
        group-room = length-replicate {A = ℕ} 256 0;
      };
      no-first = λ s. same-all 64 s 256;
      no-silent = λ s. same-all 64 s 0;
      no-group = λ j. same-all 256 j 0;
    }

pub loop-s-preserved : goal.loop-s-preserved
loop-s-preserved c = filling-label c.loop-s.invariant (omega arith) c.label.ensures

pub loop-j-init : goal.loop-j-init
loop-j-init c = let all : c.loop-s.s ≡ 64 = omega arith in rw all at c.loop-s.invariant

pub loop-j-preserved : goal.loop-j-preserved
loop-j-preserved c = filling-step c.loop-j.invariant (omega arith) c.from.ensures.value c.to.ensures.value c.key.ensures.value

pub loop-j-2-init : goal.loop-j-2-init
loop-j-2-init c =
    let m : c.loop-j.j ≡ min c.args.head.steps 256 = omega arith in
    rw c.step_count-j.ensures.value (links-start (filling-all (rw m at c.loop-j.invariant)))

pub loop-j-2-preserved : goal.loop-j-2-preserved
loop-j-2-preserved c =
    let l = c.loop-j-2 in
    let e : l.j ≡ suc (l.j - 1) = omega arith in
    rw c.link.ensures (links-next (rw e at l.invariant))
