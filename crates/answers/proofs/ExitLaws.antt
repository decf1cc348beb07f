-- What the exit of a `?` returns, where a verdict's refusal is handed on as it is. Assumes nothing.
use Rattle.std.specs.Prelude.{Err}
use Rattle.std.specs.Result.{IsErrAnd}
use Rattle.std.proofs.lemmas.Result.{err_from_is_err_and}
use mathlib.Core.Path.{◌≡◌, ap, ◌∙◌}
use Rattle.answers.specs.Verdicts.{Verdict}
use Rattle.answers.specs.declared.Answer.{Answer}

pub handed-on : {A : Type 0} {x : Verdict A} {a : Answer} → IsErrAnd x (λ b. b ≡ a) → x ≡ Err a
handed-on {A} {x} h = let p = err_from_is_err_and x h in p.1 ∙ ap Err p.2
