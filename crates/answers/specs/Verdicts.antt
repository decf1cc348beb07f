-- Verdicts: refused with these six numbers, or go on. A reader's result, a check of the judging order and all of them one after the other are verdicts.
use Rattle.std.specs.Prelude.{ℕ, zero, suc, Bool, cond, List, [], ◌∷◌, ltb, Ok, Err, Result}
use Rattle.lists.specs.Lists.{put_front}
use Rattle.answers.specs.Numbers.{six_numbers, blank}
use Rattle.answers.specs.declared.Answer.{Answer}

-- Go on with what was found, or stop with the answer.
abbrev pub Verdict : Type 0 → Type 0
Verdict A = Result A Answer

-- The one way to continue: what was found is handed on, and a refusal stays.
infixr 20 ◌and_then◌
abbrev pub ◌and_then◌ : {A B : Type 0} → Verdict A → (A → Verdict B) → Verdict B
Ok x and_then next = next x
Err answer and_then next = Err answer

-- Nothing is refused, and nothing found.
abbrev pub passed : Verdict (Unit {0})
passed = Ok tt

-- That, where the test holds, and the refusal where it does not.
abbrev pub pass_if : Bool → Answer → Verdict (Unit {0})
pass_if test answer = cond test passed (Err answer)

-- 21 where an output has fewer bytes than are needed.
unfoldable pub room_verdict : (needed room : ℕ) → Verdict (Unit {0})
room_verdict needed room = cond (ltb room needed) (Err (six_numbers 21 3 needed)) passed

-- The first that refuses along a list; each is handed what the one before it found.
unfoldable pub along : {A C : Type 0} → (C → A → Verdict A) → List C → A → Verdict A
along f [] x = Ok x
along f (c ∷ cs) x = f c x and_then along f cs

-- The first that refuses of those with an index below the bound.
unfoldable pub first_of : ℕ → (ℕ → Verdict (Unit {0})) → Verdict (Unit {0})
first_of zero f = passed
first_of (suc n) f = f 0 and_then λ x. first_of n (λ i. f (suc i))

-- The first that refuses along a list, where nothing is found.
abbrev pub first_in : {C : Type 0} → (C → Verdict (Unit {0})) → List C → Verdict (Unit {0})
first_in f cs = along (λ c x. f c) cs tt

-- The answer at the end: the refusal's, or that of the success.
abbrev pub answer_of : {A : Type 0} → (A → Answer) → Verdict A → Answer
answer_of success (Ok x) = success x
answer_of success (Err answer) = answer

-- The answer of a refusal; six zeros where it goes on.
abbrev pub refusal_of : {A : Type 0} → Verdict A → Answer
refusal_of = answer_of (λ x. blank)

-- The output after a verdict: with the bytes at its front, or as it was where it is a refusal.
abbrev pub output_after : {A : Type 0} → Verdict A → (bytes output : List ℕ) → List ℕ
output_after (Ok x) bytes output = put_front bytes output
output_after (Err answer) bytes output = output
