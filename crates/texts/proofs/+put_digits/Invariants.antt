-- The measure of the recursion of `put_digits`: the number. Assumes nothing.
use Rattle.texts.proofs.+put_digits.Given as goal

abbrev pub decreases-put_digits : goal.decreases-put_digits
decreases-put_digits l = l.n
