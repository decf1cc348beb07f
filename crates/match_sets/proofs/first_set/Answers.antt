-- `match_sets::first_set` meets its contract: the states from which a step with our key enters the target, and of these the related. Assumes nothing.
use mathlib.Core.Path.{◌∙◌, ap}
use Rattle.sides.specs.Side.{related_to}
use Rattle.match_sets.proofs.GrowingLaws.{first-set}
use Rattle.match_sets.proofs.first_set.Goals as goal

pub returns : goal.returns
returns c =
    let a = c.args in
    let ours = a.view.ours.now in
    first-set ours a.view.theirs.now a.j (c.related-candidates.ensures.value ∙ ap (related_to ours) c.from.ensures)
    c.related-candidates.ensures.small (c.related-target.ensures.value ∙ ap (related_to ours) c.to.ensures) c.key.ensures
    c.entering-near.ensures c.intersect.ensures
