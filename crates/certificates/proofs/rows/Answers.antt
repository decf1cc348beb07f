-- `certificates::rows` meets its contract: the part begins after the header and ends where the first run begins. Assumes nothing.
use mathlib.Core.Path.{ap}
use Rattle.certificates.specs.declared.Runs.{Runs}
use Rattle.certificates.specs.Layout.{rows_part}
use Rattle.certificates.proofs.rows.Goals as goal

pub returns : goal.returns
unfolding rows_part
returns c = rw (← ap (λ (r : Runs). r.al) c.runs-runs.ensures) c.part_of.ensures
