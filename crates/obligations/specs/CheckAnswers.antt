-- The six numbers of what is refused after the files are read (document 01, What is turned away): the file is 2, and side is 0 left, 1 right.
use Rattle.std.specs.Prelude.{ℕ, cond, eqb}
use Rattle.answers.specs.declared.Answer.{Answer}
use Rattle.obligations.specs.declared.Place.{Place}

-- 17: the pair.
abbrev pub labels_answer : ℕ → ℕ → Answer
labels_answer s t = record { code = 17; file = 2; a = s; b = t; c = 0; d = 0 }

-- 18, 19 and 22: the side, the pair and the step.
abbrev pub step_answer : ℕ → ℕ → ℕ → ℕ → ℕ → Answer
step_answer code side s t j = record { code = code; file = 2; a = side; b = s; c = t; d = j }

-- A place's left and right state.
abbrev pub left_state : Place → ℕ
left_state p = cond (eqb p.side 0) p.own p.other

abbrev pub right_state : Place → ℕ
right_state p = cond (eqb p.side 0) p.other p.own

-- The same where the pair is a place.
abbrev pub place_answer : Place → ℕ → ℕ → Answer
place_answer p code j = step_answer code p.side (left_state p) (right_state p) j

-- 23: the side, the fixed state and the first state of the chain.
abbrev pub chain_answer : ℕ → ℕ → ℕ → Answer
chain_answer side b c = record { code = 23; file = 2; a = side; b = b; c = c; d = 0 }
