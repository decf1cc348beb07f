-- `examination::examine` meets its contract: the starts, then the pairs, then our chains and theirs. Assumes nothing.
use mathlib.Core.Path.{◌∙◌}
use Rattle.answers.proofs.ExitLaws.{handed-on}
use Rattle.examination.proofs.PairLaws.{starts-refuse, pairs-refuse, left-chains-refuse, right-chains-decide}
use Rattle.examination.proofs.examine.Goals as goal

pub returns-in_err-check_starts : goal.returns-in_err-check_starts
returns-in_err-check_starts c =
    let v = c.args.view in
    let l = c.args.lengths in
    let l2 = c.args.lengths2 in
    handed-on c.from_residual.ensures.1
    ∙ starts-refuse v.ours.now v.theirs.now l.distances.now l2.distances.now l.chains.now l2.chains.now c.in_err-check_starts.ensures

pub returns-in_err-check_pairs : goal.returns-in_err-check_pairs
returns-in_err-check_pairs c =
    let v = c.args.view in
    let l = c.args.lengths in
    let l2 = c.args.lengths2 in
    handed-on c.from_residual-in_err-check_pairs.ensures.1
    ∙ pairs-refuse v.ours.now v.theirs.now l.distances.now l2.distances.now l.chains.now l2.chains.now c.in_ok-check_starts.ensures
    c.in_err-check_pairs.ensures

pub returns-in_err-check_chains : goal.returns-in_err-check_chains
returns-in_err-check_chains c =
    let v = c.args.view in
    let l = c.args.lengths in
    let l2 = c.args.lengths2 in
    let turned = c.turned.ensures in
    handed-on c.from_residual-in_err-check_chains.ensures.1
    ∙ left-chains-refuse v.ours.now v.theirs.now l.distances.now l2.distances.now l.chains.now l2.chains.now c.in_ok-check_starts.ensures
    c.in_ok-check_pairs.ensures (rw (turned.ours, turned.theirs) at c.in_err-check_chains.ensures)

pub returns : goal.returns
returns c =
    let v = c.args.view in
    let l = c.args.lengths in
    let l2 = c.args.lengths2 in
    let turned = c.turned.ensures in
    c.check_chains-2.ensures
    ∙ right-chains-decide v.ours.now v.theirs.now l.distances.now l2.distances.now l.chains.now l2.chains.now c.in_ok-check_starts.ensures
    c.in_ok-check_pairs.ensures (rw (turned.ours, turned.theirs) at c.in_ok-check_chains.ensures)
