-- The six numbers of an answer (document 01, The answer): code, file, a, b, c, d.
use Rattle.std.specs.Prelude.{ℕ}
use Rattle.answers.specs.declared.Answer.{Answer}
use Rattle.answers.specs.declared.Which.{Which}
use Rattle.answers.specs.declared.Which.TheVariants.{Left, Right}

-- An answer that names nothing but a: unnamed fields are 0.
abbrev pub six_numbers : ℕ → ℕ → ℕ → Answer
six_numbers code file a = record { code = code; file = file; a = a; b = 0; c = 0; d = 0 }

-- Six zeros.
abbrev pub blank : Answer
blank = record { code = 0; file = 0; a = 0; b = 0; c = 0; d = 0 }

-- The number of a side: 0 left, 1 right.
abbrev pub which_number : Which → ℕ
which_number Left = 0
which_number Right = 1
