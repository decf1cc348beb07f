-- The causes 16, worded as document 01's row and as Ask 5 of document 02, and not through the test.
use Rattle.std.specs.Prelude.{ℕ, List, [], ◌∷◌, ◌++◌, T}
use Rattle.lists.specs.Lists.{join_below}
use Rattle.bisimulation.specs.Systems.{View, flip}
use Rattle.answers.specs.Causes.{Cause, ◌gives◌}
use Rattle.starts.specs.StartsNamed.{StartsNamed, both_starts, unpaired_start}
use Rattle.starts.specs.StartsVerdict.{starts_answer, unpaired_answer}

-- s is an own start, and it is related to no start of the other.
abbrev pub Unpaired : View → ℕ → Type 0
Unpaired v s = T (v.own.initial s) × (¬ ((t : ℕ) × T (v.other.initial t) × T (v.related s t)))

-- A start of the own side, which is the side named, is unpaired.
abbrev pub unpaired_causes : View → ℕ → List Cause
unpaired_causes v side = join_below v.own.states (λ s. Unpaired v s gives unpaired_answer side s ∷ [])

-- 16: the starts are unrelated; or, where a table has a start word, a start is unpaired, left side first.
abbrev pub starts_causes : View → StartsNamed → List Cause
starts_causes v (both_starts s t) = (¬ T (v.related s t)) gives starts_answer s t ∷ []
starts_causes v unpaired_start = unpaired_causes v 0 ++ unpaired_causes (flip v) 1
