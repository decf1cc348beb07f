-- What a call of `read` answers, as a number: how many bytes it put, and -1 where it failed.
use Rattle.std.specs.Prelude.{ℕ, ℤ, pos, negsuc, Option, Some, None}

abbrev pub answered : Option ℕ → ℤ
answered (Some k) = pos k
answered None = negsuc 0
