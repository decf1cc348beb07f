-- `sides::Side::steps_from` meets its contract: the walk begins at the first step. Assumes nothing.
use mathlib.Core.Path.{refl, ap, ◌∙◌}
use Rattle.sides.specs.Side.{steps_in, linked_from}
use Rattle.sides.proofs.WalkLaws.{left-first}
use Rattle.sides.proofs.Side.steps_from.Goals as goal

pub returns : goal.returns
unfolding steps_in
returns c = left-first _ refl ∙ ap (linked_from c.args.self.now 256) c.first.ensures
