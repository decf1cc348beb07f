-- `texts::put_six` meets its contract: each number is put where the one before it ends, and where there is no room nothing is. Assumes nothing.
use native.Mathlib.Omega.{arith}
use Rattle.texts.proofs.PutLaws.{six-put, none-put}
use Rattle.texts.proofs.put_six.Goals as goal
use Rattle.texts.proofs.put_six.Goals.{then-output-lt-MOST-via-then-output-lt-MOST, then-output-lt-MOST-via-else-output-lt-MOST+then-output-at}

pub returns-then-output-lt-MOST : goal.returns-then-output-lt-MOST
returns-then-output-lt-MOST c =
    none-put _ c.args.at c.args.output.now (elim c.then-output-lt-MOST.branch [
      | then-output-lt-MOST-via-then-output-lt-MOST w ↦ omega arith
      | then-output-lt-MOST-via-else-output-lt-MOST+then-output-at w ↦ omega arith
    ])

pub returns : goal.returns
returns c =
    let n = c.args in
    six-put n.a n.b n.c n.d n.e n.f (omega arith)
    c.put_number-to_b.ensures.text c.put_number-to_c.ensures.text c.put_number-to_d.ensures.text
    c.put_number-to_e.ensures.text c.put_number-to_f.ensures.text c.put_number.ensures.text
