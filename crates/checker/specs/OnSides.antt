-- What the judge reads off two sides and a certificate: the verdict on the starts, and then the first refusal of all checks, or the obligations counted.
use Rattle.std.specs.Prelude.{ℕ, List}
use Rattle.answers.specs.Verdicts.{Verdict, ◌and_then◌}
use Rattle.certificates.specs.declared.Sizes.{Sizes}
use Rattle.starts.specs.StartsVerdict.{starts_in}
use Rattle.obligations.specs.OnSides.{left_run, right_run}
use Rattle.sweeps.specs.declared.Tally.{Tally}
use Rattle.sweeps.specs.Tallies.{none}
use Rattle.sweeps.specs.SideVerdicts.{progress, all_verdicts}
use Rattle.sides.specs.declared.Side.{Side}

unfoldable pub sides_verdict : (ours theirs : Side) (certificate : List ℕ) → Sizes → Verdict Tally
sides_verdict ours theirs certificate sizes =
    starts_in ours theirs and_then λ x. progress (all_verdicts ours theirs certificate (left_run sizes) (right_run sizes)) none
