-- Numbers in decimal and a line of six, by computation. Assumes nothing.
use mathlib.Core.Path.{◌≡◌, refl}
use mathlib.Core.List.{[], ◌∷◌}
use Rattle.texts.specs.Texts.{decimal_within, decimal, number_text, six_text}

-- "0", "10" and "18446744073709551615"
pub decimal-0 : decimal 0 ≡ 48 ∷ []
unfolding decimal_within decimal
decimal-0 = refl

pub decimal-10 : decimal 10 ≡ 49 ∷ 48 ∷ []
unfolding decimal_within decimal
decimal-10 = refl

pub decimal-greatest : decimal 18446744073709551615
    ≡ 49 ∷ 56 ∷ 52 ∷ 52 ∷ 54 ∷ 55 ∷ 52 ∷ 52 ∷ 48 ∷ 55 ∷ 51 ∷ 55 ∷ 48 ∷ 57 ∷ 53 ∷ 53 ∷ 49 ∷ 54 ∷ 49 ∷ 53 ∷ []
unfolding decimal_within decimal
decimal-greatest = refl

-- "0 0 3 4 1 1" and a newline
pub line-of-six : six_text 0 0 3 4 1 1 ≡ 48 ∷ 32 ∷ 48 ∷ 32 ∷ 51 ∷ 32 ∷ 52 ∷ 32 ∷ 49 ∷ 32 ∷ 49 ∷ 10 ∷ []
unfolding decimal_within decimal number_text six_text
line-of-six = refl
