-- Causes for turning input away (document 01, What is turned away), as data: when each applies, and the six numbers that it is answered with. They are
-- looked for in the order of their list, so the first that applies gives the number, its place in the order, and what a to d name.
-- "The first such step" is a cause for each step, in order, each naming its own: `join_below` over the steps.
use Rattle.std.specs.Prelude.{ℕ, ◌<◌, ◌≡◌, ◌⊎◌, Bool, true, ◌&&◌, List, [], ◌∷◌, map, T, length}
use Rattle.lists.specs.Lists.{All}
use Rattle.answers.specs.Numbers.{six_numbers}
use Rattle.answers.specs.declared.Answer.{Answer}

pub record Cause : Type 1 where
  pub condition : Type 0
  pub numbers : Answer

infix 68 ◌gives◌
abbrev pub ◌gives◌ : Type 0 → Answer → Cause
P gives answer = record { condition = P; numbers = answer }

-- The causes of the list, where P holds: a condition, such as a file's version, chooses a family.
abbrev pub only : Type 0 → List Cause → List Cause
only P = map (λ c. (P × c.condition) gives c.numbers)

-- The same causes with other numbers, such as other files'.
abbrev pub renumbered : (Answer → Answer) → List Cause → List Cause
renumbered f = map (λ c. c.condition gives f c.numbers)

-- 21: the output is under the length that is needed, which a names.
abbrev pub room_causes : ℕ → List ℕ → List Cause
room_causes needed output = (length output < needed) gives six_numbers 21 3 needed ∷ []

-- The first cause that applies has these numbers: it is the head, or the head does not apply and it is the first of the rest.
abbrev pub FirstCause : List Cause → Answer → Type 0
FirstCause [] answer = ⊥
FirstCause (c ∷ cs) answer = (c.condition × (answer ≡ c.numbers)) ⊎ ((¬ c.condition) × FirstCause cs answer)

-- No cause applies.
abbrev pub NoCause : List Cause → Type 0
NoCause = All (λ c. ¬ c.condition)

-- Every cause of the list has a number and a file that pass the test.
abbrev pub Numbered : (ℕ → ℕ → Bool) → List Cause → Type 0
Numbered f = All (λ c. T (f c.numbers.code c.numbers.file))

-- The test lets each of these numbers pass with this file.
abbrev pub allows : (ℕ → ℕ → Bool) → ℕ → List ℕ → Bool
allows f file [] = true
allows f file (code ∷ codes) = f code file && allows f file codes

-- The answer is that of the first cause that applies, or none does and it is a success.
abbrev pub Answers : List Cause → (Answer → Type 0) → Answer → Type 0
Answers causes Success answer = FirstCause causes answer ⊎ (NoCause causes × Success answer)
