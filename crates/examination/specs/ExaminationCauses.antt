-- The causes 22 and 23, each worded as its row of document 01's table, and not through the maker's tests; and all causes of the examination in its order.
use Rattle.std.specs.Prelude.{ℕ, ◌≡◌, length}
use mathlib.Core.List.{List, [], ◌∷◌, ◌++◌, flat_map}
use Rattle.lists.specs.Lists.{join_below}
use Rattle.bisimulation.specs.Systems.{View, flip, Stays}
use Rattle.bisimulation.specs.Runs.{Matched, StutteringChain}
use Rattle.answers.specs.Causes.{Cause, ◌gives◌}
use Rattle.starts.specs.StartsNamed.{StartsNamed}
use Rattle.obligations.specs.CheckAnswers.{step_answer, chain_answer}
use Rattle.obligations.specs.CheckCauses.{label_causes}
use Rattle.starts.specs.StartsCauses.{starts_causes}
use Rattle.obligations.specs.Judging.{Check, labels_of, left_step, right_step, checks}

-- 22: an unmatched obligation, with u, t unrelated or the step's key not 0.
abbrev pub unmatched_causes : View → ℕ → ℕ → ℕ → ℕ → ℕ → List Cause
unmatched_causes v j t side left right = ((¬ Matched v j t) × (¬ Stays v j t)) gives step_answer 22 side left right j ∷ []

-- The causes of a check of the maker: 17 and 22.
abbrev pub maker_check_causes : View → Check → List Cause
maker_check_causes v (labels_of s t) = label_causes v s t
maker_check_causes v (left_step s t j) = unmatched_causes v j t 0 s t
maker_check_causes v (right_step s t j) = unmatched_causes (flip v) j s 1 s t

-- A chain from c of silent steps unmatched at b, through states related to b, has as many steps as the side has states.
abbrev pub LongChain : View → ℕ → ℕ → Type 0
LongChain v b c = (J : List ℕ) × StutteringChain v b c J × (length J ≡ v.own.states)

-- 23: smallest b first, then smallest c.
abbrev pub chain_causes : View → ℕ → List Cause
chain_causes v side = join_below v.other.states (λ b. join_below v.own.states (λ c. LongChain v b c gives chain_answer side b c ∷ []))

-- 16, then pairs and steps in judging order for 17 and 22, then 23, left side first.
abbrev pub examination_causes : View → StartsNamed → List Cause
examination_causes v named = starts_causes v named ++ (flat_map (maker_check_causes v) (checks v) ++ (chain_causes v 0 ++ chain_causes (flip v) 1))
