-- Where the judge accepts, every obligation is met, and the two sides that are made of the same bytes hold what it judged. Assumes nothing.
use Prim.Native.Nat.{ℕ}
use mathlib.Core.Path.{◌≡◌}
use mathlib.Core.List.{List}
use Rattle.bisimulation.specs.Clauses.{Meets, EveryObligation}
use Rattle.bisimulation.specs.Systems.{flip, swap}
use Rattle.answers.proofs.CauseLaws.{append-none}
use Rattle.table_reader.specs.declared.Known.{Known}
use Rattle.table_reader.specs.declared.Known.TheVariants.{Plain}
use Rattle.sides.specs.Built.{PlainSide}
use Rattle.table_pairs.specs.PairCauses.{tables_causes}
use Rattle.table_pairs.proofs.PairCauseLaws.{plain-none}
use Rattle.certificates.specs.Layout.{sizes_of}
use Rattle.certificates.specs.CertificateModel.{AreBytes, certified_view, certified_ranks}
use Rattle.certificate_reader.specs.CertificateCauses.{certificate_causes}
use Rattle.certified_sides.specs.declared.Sides.{Sides}
use Rattle.certified_sides.specs.Made.{CertifiedSides}
use Rattle.starts.specs.StartsNamed.{starts_named}
use Rattle.starts.specs.StartsCauses.{starts_causes}
use Rattle.obligations.proofs.JudgingLaws.{none-iff}
use Rattle.checker.specs.Judge.{judge_known}
use Rattle.checker.proofs.JudgeCauseLaws.{after_starts, after_certificate, after_tables, zero-none, zero-read}
use Rattle.checker.proofs.SidesReadLaws.{SidesRead, formed, made-sizes, sides-plain, sides-read}

module _ (known : Known) (left right c : List ℕ) (zero : (judge_known known left right c).code ≡ 0) where
  -- every obligation of both tables is met
  pub accepted-met : AreBytes c
      → EveryObligation Meets (certified_view left right c) (certified_ranks left right c)
      × EveryObligation Meets (flip (certified_view left right c)) (swap (certified_ranks left right c))
  accepted-met bytes =
      let a = append-none (tables_causes known left right) (after_tables left right c) (zero-none known left right c zero) in
      let d = append-none (certificate_causes 2 (sizes_of left right) c) (after_certificate left right c) a.1 in
      let e = append-none (starts_causes (certified_view left right c) (starts_named left right)) (after_starts left right c) d.1 in
      let w = formed left right c (zero-read known left right c zero) bytes in
      let m = (none-iff (certified_view left right c) w (certified_ranks left right c)).0 e.1 in
      (m.1, m.2)

  module _ {s : Sides} (certified : CertifiedSides left right c s) where
    pub accepted-sizes : s.sizes ≡ sizes_of left right
    accepted-sizes = made-sizes left right c (zero-read known left right c zero) certified.made

    pub accepted-sides : AreBytes c → SidesRead left right c s.ours s.theirs
    accepted-sides = sides-read left right c (zero-read known left right c zero) certified.made

-- where "TPT" alone is known neither table has keys, and the sides are those of such tables
module _ (left right c : List ℕ) (zero : (judge_known Plain left right c).code ≡ 0) {s : Sides} (certified : CertifiedSides left right c s) where
  pub accepted-plain : PlainSide s.ours × PlainSide s.theirs
  accepted-plain =
      let p = plain-none left right (append-none (tables_causes Plain left right) (after_tables left right c) (zero-none Plain left right c zero)).0 in
      sides-plain left right c (zero-read Plain left right c zero) certified.made p.0 p.1
