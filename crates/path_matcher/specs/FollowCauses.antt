-- The causes for which a run is not followed, in document 02's order: those of a judge that knows "TPT" alone, so that a table with keys gets 2, then 25, 26
-- and 27.
use Rattle.std.specs.Prelude.{ℕ, ◌+◌, ◌*◌, ◌≤◌, ◌<◌, ◌≡◌, ◌⊎◌, Bool, ◌&&◌, ◌||◌, List, [], ◌∷◌, ◌++◌, T, eqb, length}
use Rattle.lists.specs.Numbers.{byte_at}
use Rattle.bisimulation.specs.Systems.{System, Step, View, Ranks}
use Rattle.answers.specs.Numbers.{six_numbers}
use Rattle.answers.specs.Causes.{Cause, ◌gives◌}
use Rattle.table_reader.specs.declared.Known.TheVariants.{Plain}
use Rattle.checker.specs.JudgeCauses.{known_judge_causes, judge_number}
use Rattle.path_matcher.specs.Following.{matched_along, followed_view, followed_ranks}

-- 25: the side is not 0 or 1; or the path is empty; or it is over 256 states; or it holds a state out of range; or two neighbours that are no step.
abbrev pub WrongPath : (side : ℕ) → System → (path : List ℕ) → Type 0
WrongPath side S path =
    ((¬ (side ≡ 0)) × (¬ (side ≡ 1)))
    ⊎ ((length path ≡ 0)
    ⊎ ((256 < length path)
    ⊎ (((i : ℕ) × (i < length path) × (S.states ≤ byte_at path i))
    ⊎ ((i : ℕ) × (i + 1 < length path) × (¬ Step S (byte_at path i) (byte_at path (i + 1)))))))

-- 26: the path's first state and the given start are not related; or the start is out of range.
abbrev pub WrongStart : View → (path : List ℕ) → (start : ℕ) → Type 0
WrongStart v path start = (¬ T (v.related (byte_at path 0) start)) ⊎ (v.other.states ≤ start)

-- 27: the output for the states is under 3 bytes for each state written; or the one for the block numbers under 2 bytes for each state given.
abbrev pub NoRoom : (written given : ℕ) → (states blocks : List ℕ) → Type 0
NoRoom written given states blocks = (length states < 3 * written) ⊎ (length blocks < 2 * given)

-- Where the judge accepts.
abbrev pub match_causes : View → Ranks → (side start : ℕ) → (path states blocks : List ℕ) → List Cause
match_causes v r side start path states blocks =
    WrongPath side v.own path gives six_numbers 25 4 0
    ∷ WrongStart v path start gives six_numbers 26 4 0
    ∷ NoRoom (length (matched_along v r path start)) (length path) states blocks gives six_numbers 27 3 0
    ∷ []

abbrev pub follow_causes : (left right c : List ℕ) → (side start : ℕ) → (path states blocks : List ℕ) → List Cause
follow_causes left right c side start path states blocks =
    known_judge_causes Plain left right c
    ++ match_causes (followed_view left right c side) (followed_ranks left right c side) side start path states blocks

-- Their numbers and files: the judge's, 25 and 26 with the file 4, and 27 with the file 3.
abbrev pub follow_number : (code file : ℕ) → Bool
follow_number code file = judge_number code file || (((eqb code 25 || eqb code 26) && eqb file 4) || (eqb code 27 && eqb file 3))
