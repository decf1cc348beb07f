-- `lengths::lengthen` meets its contract: after some steps each state has the greatest length that they give it. Assumes nothing.
use mathlib.Core.Path.{◌≡◌}
use lib.ListN.{get_or}
use Rattle.lists.specs.Lists.{tabulate}
use Rattle.lengths.specs.OpenSteps.{kept_system, every, longest}
use Rattle.lengths.proofs.lengthen.Given as goal

abbrev pub invariant-loop-step : goal.invariant-loop-step
invariant-loop-step l = l.next ≡ tabulate 64 (longest (kept_system l.kept) every (λ u. get_or l.before u 0) l.step-index)
