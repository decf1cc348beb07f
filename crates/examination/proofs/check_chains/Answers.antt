-- `examination::check_chains` meets its contract: no chain is found at a fixed state before b. Assumes nothing.
use Prim.Native.Nat.{ℕ}
use mathlib.Core.Path.{◌≡◌, sym}
use native.Mathlib.Omega.{arith}
use borrow.Author.Count.{below_more}
use Rattle.answers.specs.Numbers.{which_number}
use Rattle.answers.specs.Verdicts.{passed}
use Rattle.sides.specs.Side.{system_in}
use Rattle.sides.specs.Views.{view_in}
use Rattle.examination.specs.OnSides.{long_by}
use Rattle.examination.proofs.ChainLaws.{chains_at, none_found, chain-found, chain-none}
use Rattle.examination.proofs.check_chains.Goals as goal

pub returns-in-Some : goal.returns-in-Some
returns-in-Some c =
    let a = c.args in
    let v = a.view in
    let m = c.states-b-end.ensures.value in
    chain-found (which_number a.side) (system_in v.ours.now).states (system_in v.theirs.now).states (long_by (view_in v.ours.now v.theirs.now) a.chains.now)
    c.loop-b.b c.loop-b.invariant (omega arith) c.from.ensures (sym c.in-Some.ensures)

pub loop-b-preserved : goal.loop-b-preserved
loop-b-preserved c =
    let a = c.args in
    let v = a.view in
    let long = long_by (view_in v.ours.now v.theirs.now) a.chains.now in
    let none = none_found (which_number a.side) (system_in v.ours.now).states (system_in v.theirs.now).states long c.loop-b.b (sym c.in_default.ensures) in
    below_more (λ (i : ℕ). chains_at (which_number a.side) (system_in v.ours.now).states (system_in v.theirs.now).states long i ≡ passed) c.loop-b.b
    c.loop-b.invariant none

pub returns : goal.returns
returns c =
    let a = c.args in
    let v = a.view in
    let m = c.states-b-end.ensures.value in
    chain-none (which_number a.side) (system_in v.ours.now).states (system_in v.theirs.now).states
    (long_by (view_in v.ours.now v.theirs.now) a.chains.now) c.loop-b.invariant (omega arith)
