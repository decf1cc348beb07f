-- Six numbers as the programs print them (document 01, Program): in decimal, one space between, and a newline; and a text written over a list.
use Rattle.std.specs.Prelude.{ℕ, zero, suc, ◌+◌, ◌*◌, ◌-◌, ◌/◌, ◌%◌, cond, List, [], ◌∷◌, ◌++◌, leb, ltb, length, take, drop}
use Rattle.answers.specs.declared.Answer.{Answer}

-- The byte of a decimal digit.
abbrev pub digit : ℕ → ℕ
digit d = 48 + d

-- The number in at most k + 1 digits: below 10 its one digit, else the number without its last digit and then that digit.
unfoldable pub decimal_within : ℕ → ℕ → List ℕ
decimal_within zero n = digit n ∷ []
decimal_within (suc k) n = cond (ltb n 10) (digit n ∷ []) (decimal_within k (n / 10) ++ (digit (n % 10) ∷ []))

-- The number in decimal. A number of 64 bits has at most 20 digits.
unfoldable pub decimal : ℕ → List ℕ
decimal n = decimal_within 19 n

-- The number that digits say after the number v: each digit makes it ten times as large and adds itself.
unfoldable pub value_after : ℕ → List ℕ → ℕ
value_after v [] = v
value_after v (x ∷ l) = value_after (v * 10 + (x - digit 0)) l

-- The number that digits say.
unfoldable pub value_of : List ℕ → ℕ
value_of l = value_after 0 l

abbrev pub space : ℕ
space = 32

abbrev pub newline : ℕ
newline = 10

-- A number in decimal, and the byte after it.
unfoldable pub number_text : ℕ → ℕ → List ℕ
number_text n after = decimal n ++ (after ∷ [])

-- Six numbers in decimal, one space between, and a newline (document 01, Program).
unfoldable pub six_text : (a b c d e f : ℕ) → List ℕ
six_text a b c d e f =
    number_text a space
    ++ (number_text b space ++ (number_text c space ++ (number_text d space ++ (number_text e space ++ number_text f newline))))

-- The six numbers of an answer.
abbrev pub answer_text : Answer → List ℕ
answer_text r = six_text r.code r.file r.a r.b r.c r.d

-- The most bytes that six numbers of 64 bits take: six times 20 digits and the byte after.
abbrev pub most_text : ℕ
most_text = 126

-- The list with the text written over it from `at` on.
unfoldable pub written : List ℕ → ℕ → List ℕ → List ℕ
written text at l = take at l ++ (text ++ drop (at + length text) l)

-- What is put: the text, where from `at` on there is room for six numbers of any size, and nothing where there is not.
unfoldable pub fitting : List ℕ → ℕ → List ℕ → List ℕ
fitting text at l = cond (leb (at + most_text) (length l)) text []
