-- `pieces::length_at` meets its contract: after as many turns as pieces stand before a piece, `at` is where its length begins. Assumes nothing.
use Rattle.std.proofs.Common.{◌≡◌, ◌≤◌, ◌*◌}
use Rattle.pieces.specs.Pieces.{length_at}
use Rattle.pieces.proofs.length_at.Given as goal

abbrev pub invariant-loop : goal.invariant-loop
invariant-loop l = (l.at ≡ length_at l.input l.counter) × (l.at ≤ l.counter * 65537)
