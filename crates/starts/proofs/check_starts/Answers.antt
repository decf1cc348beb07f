-- `starts::check_starts` meets its contract: where a side has a start word, our starts are looked at, then theirs; otherwise the two. Assumes nothing.
use Rattle.std.proofs.lemmas.Result.{err_from_is_err_and}
use mathlib.Core.Path.{◌≡◌, sym, ap, ap₂, ◌∙◌}
use mathlib.Core.Logic.{inl, inr}
use Rattle.sides.specs.declared.Side.{Side}
use Rattle.starts.specs.StartsNamed.{StartsNamed, unpaired_start, starts_named_in}
use Rattle.starts.specs.StartsVerdict.{unpaired_verdict, view_by_theirs, starts_as}
use Rattle.starts.proofs.OnSidesLaws.{named-unpaired, named-both, left-unpaired, right-decides}
use Rattle.starts.proofs.check_starts.Goals as goal
use Rattle.starts.proofs.check_starts.Goals.{then-has_start_word-via-then-has_start_word, then-has_start_word-via-else-has_start_word+then-has_start_word-2}
use Rattle.starts.proofs.check_starts.Goals.{Joined-then-has_start_word}

-- a side has a start word
either : (c : Joined-then-has_start_word) → let a = c.args in starts_named_in a.view.ours.now a.view.theirs.now ≡ unpaired_start
either c =
    let a = c.args in
    let ours = sym c.has_start_word.ensures in
    named-unpaired a.view.ours.now a.view.theirs.now
    (elim c.then-has_start_word.branch [
      | then-has_start_word-via-then-has_start_word w ↦ inl (ours ∙ w.if-has_start_word.true)
      | then-has_start_word-via-else-has_start_word+then-has_start_word-2 w ↦
          inr (sym w.has_start_word-else-has_start_word.ensures ∙ w.if-has_start_word-2.true)
    ])

pub returns-in_err-check_paired : goal.returns-in_err-check_paired
returns-in_err-check_paired c =
    let a = c.args in
    let p = err_from_is_err_and c.from_residual.result c.from_residual.ensures.1 in
    rw (p.1, p.2)
    (left-unpaired a.view.ours.now a.view.theirs.now (either (goal.at.returns-in_err-check_paired c).Joined-then-has_start_word)
    (sym c.in_err-check_paired.ensures))

pub returns-then-has_start_word : goal.returns-then-has_start_word
returns-then-has_start_word c =
    let a = c.args in
    let turned = c.turned.ensures in
    c.check_paired-then-has_start_word.ensures
    ∙ ap₂ (λ (x y : Side). unpaired_verdict (view_by_theirs x y) 1) turned.ours turned.theirs
    ∙ right-decides a.view.ours.now a.view.theirs.now (either (goal.at.returns-then-has_start_word c).Joined-then-has_start_word)
    (sym c.in_ok-check_paired.ensures)

pub returns : goal.returns
returns c =
    let a = c.args in
    let none = named-both a.view.ours.now a.view.theirs.now (sym c.has_start_word.ensures ∙ c.if-has_start_word.false)
    (sym c.has_start_word-else-has_start_word.ensures ∙ c.if-has_start_word-2.false) in
    c.check_both.ensures ∙ ap (λ (x : StartsNamed). starts_as a.view.ours.now a.view.theirs.now x) (sym none)
