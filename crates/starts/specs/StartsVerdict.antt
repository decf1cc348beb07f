-- The verdict on the starts (document 02, Ask 5): 16 where the starts rule fails; and the same as it is read off two sides.
use Rattle.std.specs.Prelude.{ℕ, Bool, not, ◌&&◌, cond, Err}
use Rattle.lists.specs.Below.{any_below}
use Rattle.bisimulation.specs.Systems.{View, flip}
use Rattle.answers.specs.declared.Answer.{Answer}
use Rattle.answers.specs.Verdicts.{Verdict, ◌and_then◌, passed, pass_if, first_of}
use Rattle.sides.specs.declared.Side.{Side}
use Rattle.sides.specs.Views.{view_in}
use Rattle.starts.specs.StartsNamed.{StartsNamed, both_starts, unpaired_start, starts_named_in}

-- ---- the six numbers

-- 16: the starts.
abbrev pub starts_answer : ℕ → ℕ → Answer
starts_answer s t = record { code = 16; file = 2; a = s; b = t; c = 0; d = 0 }

-- 16 where a table has a start word: the side, and the unpaired start.
abbrev pub unpaired_answer : ℕ → ℕ → Answer
unpaired_answer side s = record { code = 16; file = 2; a = side; b = s; c = 0; d = 0 }

-- ---- the verdict

-- s is an own start, and it is related to no start of the other.
unfoldable pub unpaired : View → ℕ → Bool
unpaired v s = v.own.initial s && not (any_below v.other.states (λ t. v.other.initial t && v.related s t))

-- The first unpaired start of the own side, which is the side named: 16.
unfoldable pub unpaired_verdict : View → ℕ → Verdict (Unit {0})
unpaired_verdict v side = first_of v.own.states (λ s. cond (unpaired v s) (Err (unpaired_answer side s)) passed)

-- The starts are tested before all checks: 16 where the two are unrelated; or, where a table has a start word, where one is unpaired, left side first.
unfoldable pub starts_verdict : View → StartsNamed → Verdict (Unit {0})
starts_verdict v (both_starts s t) = pass_if (v.related s t) (starts_answer s t)
starts_verdict v unpaired_start = unpaired_verdict v 0 and_then λ x. unpaired_verdict (flip v) 1

-- ---- read off two sides

-- The view of two sides, with the relation that the other side's words hold.
abbrev pub view_by_theirs : (ours theirs : Side) → View
view_by_theirs ours theirs = flip (view_in theirs ours)

-- The verdict on the starts: our words are asked where 16 names both, and the other side's words, for either side, where it names an unpaired one.
abbrev pub starts_as : (ours theirs : Side) → StartsNamed → Verdict (Unit {0})
starts_as ours theirs (both_starts s t) = pass_if ((view_in ours theirs).related s t) (starts_answer s t)
starts_as ours theirs unpaired_start = unpaired_verdict (view_by_theirs ours theirs) 0 and_then λ x. unpaired_verdict (view_by_theirs theirs ours) 1

abbrev pub starts_in : (ours theirs : Side) → Verdict (Unit {0})
starts_in ours theirs = starts_as ours theirs (starts_named_in ours theirs)
