-- `path_matcher::put_number` meets its contract: there is room for the two bytes. Assumes nothing.
use Prim.Native.Nat.{◌*◌}
use mathlib.Core.Path.{◌∙◌}
use native.Mathlib.Omega.{arith}
use Rattle.lists.specs.Numbers.{big_bytes}
use Rattle.lists.proofs.FillLaws.{put-at-fits}
use Rattle.path_matcher.proofs.put_number.Goals as goal

pub returns : goal.returns
unfolding big_bytes
returns c = let a = c.args in c.put_be.ensures ∙ put-at-fits (2 * a.i) (big_bytes 2 a.block) a.output.now (omega arith)
