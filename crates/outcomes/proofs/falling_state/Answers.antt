-- `outcomes::falling_state` meets its contract: each state of the set is tested and, where the rank does not fall, left out,
-- which keeps the answer. Assumes nothing.
use Prim.Native.Nat.{ℕ, ◌≤◌, ◌<◌}
use mathlib.Core.Path.{sym, ap, ◌∙◌}
use native.Mathlib.Omega.{arith}
use Rattle.lists.specs.Numbers.{byte_at}
use Rattle.words.specs.Bits.{first_bit, remove_bit}
use Rattle.words.proofs.BitLaws.{remove-word}
use Rattle.outcomes.specs.Obligation.{first_falling}
use Rattle.lists.proofs.SomeLaws.{some-i}
use Rattle.outcomes.proofs.ObligationLaws.{falling-none, falling-here, falling-next}
use Rattle.outcomes.proofs.falling_state.Goals as goal

pub returns-then-byte-here : goal.returns-then-byte-here
returns-then-byte-here c =
    let a = c.args in
    let n = c.in-Some.ensures.steps in
    let rest = c.loop-v.v-iterator.rest.0 in
    let f : byte_at a.ranks.now (first_bit rest) < byte_at a.ranks.now a.t = rw (← n.1) (omega arith) in
    let e = c.loop-v.invariant.1 ∙ falling-here a.ranks.now a.t rest (rw (← n.1) n.0) f ∙ sym n.1 in
    rw e (sym (some-i n.0))

pub loop-v-preserved : goal.loop-v-preserved
loop-v-preserved c =
    let a = c.args in
    let i = c.loop-v.invariant in
    let n = c.in-Some.ensures.steps in
    let rest = c.loop-v.v-iterator.rest.0 in
    let q = n.2 ∙ ap (remove_bit rest) n.1 in
    let f : byte_at a.ranks.now a.t ≤ byte_at a.ranks.now (first_bit rest) = rw (← n.1) (omega arith) in
    (rw q (remove-word rest (first_bit rest) i.0), i.1 ∙ falling-next a.ranks.now a.t rest i.0 f ∙ ap (λ (w : ℕ). first_falling w a.ranks.now a.t) (sym q))

pub returns : goal.returns
returns c =
    let a = c.args in
    let e = c.loop-v.invariant.1 ∙ falling-none a.ranks.now a.t c.loop-v.v-iterator.rest.0 c.in-None.ensures.steps in
    rw e
