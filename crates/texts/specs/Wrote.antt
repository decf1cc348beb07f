-- Inner: what a function that writes a text over a list has done, and the most bytes of one number.
use Rattle.std.specs.Prelude.{ℕ, ◌+◌, ◌≡◌, List, length}
use Rattle.texts.specs.Texts.{written}

-- The text was written from `at` on, up to `end`, over the list `before`, and the list is now `after`.
pub record Wrote (text : List ℕ) (at end : ℕ) (before after : List ℕ) : Type 0 where
  pub end_is : end ≡ at + length text
  pub after_is : after ≡ written text at before

-- The most bytes that a number of 64 bits takes with the byte after it.
abbrev pub most_number : ℕ
most_number = 21
