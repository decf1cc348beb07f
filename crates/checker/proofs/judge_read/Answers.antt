-- `checker::judge_read` meets its contract: two sides are made of what was read, and the starts and all checks are read off them. Assumes nothing.
use mathlib.Core.Path.{ap, ◌∙◌}
use native.Mathlib.Omega.{arith}
use Rattle.certificates.specs.CertificateModel.{AreBytes}
use Rattle.sweeps.specs.SideVerdicts.{end_answer}
use Rattle.checker.proofs.JudgeReadLaws.{answers}
use Rattle.checker.proofs.judge_read.Goals as goal

pub returns : goal.returns
returns c =
    let a = c.args in
    let bytes : AreBytes a.certificate.now = λ i. omega (arith, c.type_inv.certificate i) in
    c.end_answer.ensures ∙ ap (end_answer _) c.check_sides-end.ensures
    ∙ answers a.left.now a.right.now a.certificate.now c.requires bytes
    (record {
      rows = _;
      columns = _;
      labels = _;
      steps = _;
      labels' = _;
      steps' = _;
      sizes-is = c.of-sizes.ensures;
      rows_is = c.rows.ensures;
      words-is = c.row_words-words.ensures;
      columns-is = c.column_words-columns.ensures;
      labels-is = c.labels.ensures;
      steps-is = c.steps.ensures;
      labels-is' = c.labels-2.ensures;
      steps-is' = c.steps-2.ensures;
      ours-is = c.of-ours.ensures;
      theirs-is = c.of-theirs.ensures;
    })
    c.count_pairs.ensures
