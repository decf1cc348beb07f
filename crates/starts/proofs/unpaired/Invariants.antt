-- `starts::unpaired` meets its contract: their starts are met in rising order, and the states related to each are taken out. Assumes nothing.
use Rattle.words.specs.Bits.{first_bit}
use Rattle.words.proofs.WalkLaws.{Walk}
use Rattle.starts.proofs.UnpairingLaws.{Unpairing}
use Rattle.starts.proofs.unpaired.Given as goal

abbrev pub invariant-loop-t : goal.invariant-loop-t
invariant-loop-t l = Walk (l.view.theirs.now.initial.0) l.t-iterator.rest.0 (first_bit l.t-iterator.rest.0)
    × Unpairing l.view.ours.now l.view.theirs.now (first_bit l.t-iterator.rest.0) l.alone.0
