-- `starts::check_paired` meets its contract: the first state of the word is the first unpaired start. Assumes nothing.
use mathlib.Core.Path.{sym, ◌∙◌}
use Rattle.answers.specs.Numbers.{which_number}
use Rattle.starts.proofs.UnpairingLaws.{unpaired-here, unpaired-past, unpaired-nowhere}
use Rattle.starts.proofs.check_paired.Goals as goal

pub returns-in-Some : goal.returns-in-Some
returns-in-Some c =
    let a = c.args in
    unpaired-here a.view.ours.now a.view.theirs.now (which_number a.side) c.unpaired-alone.ensures c.states.ensures.value
    c.from.ensures (sym c.smallest.ensures ∙ c.in-Some.is) c.if-s-states.true

pub returns-in_default : goal.returns-in_default
returns-in_default c =
    let a = c.args in
    unpaired-past a.view.ours.now a.view.theirs.now (which_number a.side) c.unpaired-alone.ensures c.states.ensures.value
    (sym c.smallest.ensures ∙ c.in-Some.is) c.if-s-states.false

pub returns-in_default-2 : goal.returns-in_default-2
returns-in_default-2 c =
    let a = c.args in
    unpaired-nowhere a.view.ours.now a.view.theirs.now (which_number a.side) c.unpaired-alone.ensures (sym c.smallest.ensures ∙ c.in_default.is)
