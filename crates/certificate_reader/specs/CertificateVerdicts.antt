-- The verdicts on a certificate and on a relation, from what reading them gives. The caller says which file it is.
use Rattle.std.specs.Prelude.{ℕ, Result, Ok, Err}
use Rattle.answers.specs.Verdicts.{Verdict}
use Rattle.refusals.specs.declared.CertificateRefusal.{CertificateRefusal}
use Rattle.refusals.specs.declared.RelationRefusal.{RelationRefusal}
use Rattle.refusals.specs.Refusals.{certificate_answer, relation_answer}
use Rattle.certificates.specs.declared.Sizes.{Sizes}

-- Go on with the sizes, or the refusal.
abbrev pub certificate_verdict : ℕ → Result Sizes CertificateRefusal → Verdict Sizes
certificate_verdict file (Ok sizes) = Ok sizes
certificate_verdict file (Err r) = Err (certificate_answer r file)

abbrev pub relation_verdict : ℕ → Result Sizes RelationRefusal → Verdict Sizes
relation_verdict file (Ok sizes) = Ok sizes
relation_verdict file (Err r) = Err (relation_answer r file)
