-- The judge's answer, read by read: the first file that is refused, or the verdict on all three. Assumes nothing.
use Rattle.std.specs.Prelude.{Result, Ok, Err}
use Prim.Native.Nat.{ℕ}
use mathlib.Core.Path.{◌≡◌, refl, sym, ap, ◌∙◌}
use mathlib.Core.List.{List}
use Rattle.answers.specs.Verdicts.{Verdict, ◌and_then◌, refusal_of}
use Rattle.answers.specs.declared.Answer.{Answer}
use Rattle.table_reader.specs.declared.Known.{Known}
use Rattle.table_pairs.specs.declared.Heads.{Heads}
use Rattle.table_pairs.specs.TablePairs.{tables_verdict}
use Rattle.table_pairs.proofs.PairLaws.{tables-read}
use Rattle.certificates.specs.Layout.{sizes_of}
use Rattle.certificates.specs.declared.Sizes.{Sizes}
use Rattle.refusals.specs.declared.CertificateRefusal.{CertificateRefusal}
use Rattle.certificate_reader.specs.CertificateReading.{read_certificate}
use Rattle.certificate_reader.specs.CertificateVerdicts.{certificate_verdict}
use Rattle.checker.specs.Judge.{AllRead, files_verdict, judge_verdict, judged_bytes, answer_after, read_answer, judge_known}

module _ (known : Known) (left right c : List ℕ) where
  -- a refusal of a file is the answer
  pub files-refused : {a : Answer} → files_verdict known left right c ≡ Err a → judge_known known left right c ≡ a
  unfolding files_verdict judge_known judge_verdict
  files-refused e = go (tables_verdict known left right) (certificate_verdict 2 (read_certificate (sizes_of left right) c)) e
    where
      go : (t : Verdict Heads) (z : Verdict Sizes) {a : Answer} → (t and_then λ heads. z and_then λ sizes. Ok heads) ≡ Err a
          → answer_after left right c (t and_then λ heads. z and_then λ sizes. judged_bytes left right c) ≡ a
      go (Ok h) (Ok z) q = absurd (cc q)
      go (Ok h) (Err b) q = cc q
      go (Err b) z q = cc q

  -- and where all three are read, the answer is that of what they hold
  pub files-read : {h : Heads} → files_verdict known left right c ≡ Ok h
      → AllRead left right c h.left h.right × (judge_known known left right c ≡ read_answer left right c)
  unfolding files_verdict judge_known judge_verdict
  files-read {h} e =
      let g = go (tables_verdict known left right) (read_certificate (sizes_of left right) c) refl refl e in
      let both = tables-read known left right g.0 in
      (record { sizes = _; left-good = both.left-good; right-good = both.right-good; one-kind = both.one-kind; certificate-good = g.1.1 }, rw (g.0, g.1.1) refl)
    where
      go : (t : Verdict Heads) (z : Result Sizes CertificateRefusal) → tables_verdict known left right ≡ t → read_certificate (sizes_of left right) c ≡ z
          → (t and_then λ heads. certificate_verdict 2 z and_then λ sizes. Ok heads) ≡ Ok h
          → (tables_verdict known left right ≡ Ok h) × ((y : Sizes) × (read_certificate (sizes_of left right) c ≡ Ok y))
      go (Ok k) (Ok y) et ez q = (et ∙ ap Ok (cc q), (y, ez))
      go (Ok k) (Err r) et ez q = absurd (cc q)
      go (Err b) z et ez q = absurd (cc q)

  -- ---- as the code comes to them

  pub tables-refused : {x : Verdict Heads} {a : Answer} → x ≡ tables_verdict known left right → x ≡ Err a → refusal_of x ≡ judge_known known left right c
  unfolding judge_known judge_verdict
  tables-refused e q = ap refusal_of q ∙ sym (rw (sym e ∙ q))

  module _ {h : Heads} (read : tables_verdict known left right ≡ Ok h) where
    pub certificate-refused : {x : Result Sizes CertificateRefusal} {r : CertificateRefusal} → x ≡ read_certificate (sizes_of left right) c → x ≡ Err r
        → refusal_of (certificate_verdict 2 x) ≡ judge_known known left right c
    unfolding judge_known judge_verdict
    certificate-refused e q = rw (read, ← e, q)

    pub all_read : {z : Sizes} → read_certificate (sizes_of left right) c ≡ Ok z → judge_known known left right c ≡ read_answer left right c
    unfolding judge_known judge_verdict
    all_read gc = rw (read, gc)
