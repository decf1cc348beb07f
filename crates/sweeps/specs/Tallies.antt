-- What the judge counts: the obligations that each clause meets, and the answer of an acceptance.
use Rattle.std.specs.Prelude.{ℕ, ◌+◌, Ok}
use Rattle.answers.specs.Verdicts.{Verdict, ◌and_then◌}
use Rattle.answers.specs.declared.Answer.{Answer}
use Rattle.obligations.specs.Judging.{Finding, nothing, met_by}
use Rattle.outcomes.specs.declared.Clause.{Clause}
use Rattle.outcomes.specs.declared.Clause.TheVariants.{Step, Stutter, Match}
use Rattle.sweeps.specs.declared.Tally.{Tally}

-- Nothing is counted yet.
abbrev pub none : Tally
none = record { steps = 0; stutters = 0; matches = 0 }

-- How many obligations were counted for a clause, and for all three.
abbrev pub count_of : Clause → Tally → ℕ
count_of Step y = y.steps
count_of Stutter y = y.stutters
count_of Match y = y.matches

abbrev pub total : Tally → ℕ
total y = y.steps + y.stutters + y.matches

-- One obligation more, met by the clause.
abbrev pub add_to : Tally → Clause → Tally
add_to y Step = record { steps = y.steps + 1; stutters = y.stutters; matches = y.matches }
add_to y Stutter = record { steps = y.steps; stutters = y.stutters + 1; matches = y.matches }
add_to y Match = record { steps = y.steps; stutters = y.stutters; matches = y.matches + 1 }

-- What a check has found is counted.
abbrev pub counted : Tally → Finding → Tally
counted y nothing = y
counted y (met_by clause x) = add_to y clause

abbrev pub tallied : Verdict Finding → Tally → Verdict Tally
tallied verdict y = verdict and_then λ found. Ok (counted y found)

-- The answer of an acceptance: the related pairs, and the obligations met by 2a, 2b and 2c.
abbrev pub acceptance : ℕ → Tally → Answer
acceptance pairs y = record { code = 0; file = 0; a = pairs; b = y.steps; c = y.stutters; d = y.matches }
