-- `path_matcher::put_entry` meets its contract: the state is stored, and there is room for the two bytes after it. Assumes nothing.
use Prim.Native.Nat.{ℕ, ◌+◌, ◌*◌}
use mathlib.Core.Path.{ap, ap₂, ◌∙◌}
use mathlib.Core.List.{List, [], ◌∷◌, ◌++◌, append_assoc}
use native.Mathlib.Omega.{arith}
use lib.ListN.{drop, set, length-set}
use Rattle.std.proofs.lemmas.List.{take_more_set, drop-set-lt}
use Rattle.lists.specs.Numbers.{big_bytes}
use Rattle.lists.proofs.FillLaws.{put-at-fits}
use Rattle.path_matcher.proofs.put_entry.Goals as goal

pub returns : goal.returns
unfolding big_bytes
returns c =
    let a = c.args in
    let at = 3 * a.i in
    let l = a.output.now in
    let bytes = big_bytes 2 a.block in
    c.put_be.ensures
    ∙ put-at-fits (at + 1) bytes (set l at a.state) (simp length-set (omega arith))
    ∙ ap₂ ◌++◌ (ap (λ (p : List ℕ). p ++ bytes) (take_more_set l at a.state (omega arith)) ∙ append_assoc _ (a.state ∷ []) bytes)
    (drop-set-lt _ l at a.state (omega arith) ∙ ap (λ (k : ℕ). drop k l) (omega arith))
