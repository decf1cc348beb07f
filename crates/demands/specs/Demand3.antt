-- Demand 3 on bytes, undivided: for any two tables of one kind and any relation that are well formed, and an output that is long enough, whatever it holds.
use Rattle.std.specs.Prelude.{ℕ, ◌≡◌, ◌↔◌, List, length, take, drop}
use Rattle.bisimulation.specs.Systems.{flip}
use Rattle.bisimulation.specs.PathProperty.{PathProperty}
use Rattle.bisimulation.specs.StepPaths.{StepPathProperty}
use Rattle.answers.specs.declared.Answer.{Answer}
use Rattle.certificates.specs.Layout.{sizes_of, certificate_length, rows_part}
use Rattle.certificates.specs.CertificateModel.{AreBytes, view_of, ranks_of}
use Rattle.files.specs.File.{certificate_header}
use Rattle.checker.specs.Judge.{judge_answer}
use Rattle.demands.specs.Demand1.{Made}
use Rattle.demands.specs.Ranks.{MatchRanks, StutterRanks}
use Rattle.demands.specs.Demand2.{HasRows, BothPlain}

-- The file that document 01 defines for the relation: header and rows as given, each C rank of a matched obligation its least number of steps, each A rank
-- of a related pair the most steps of a chain, all other ranks 0, and nothing more.
pub record DefinedFile (left right relation file : List ℕ) : Type 0 where
  pub long : length file ≡ certificate_length (sizes_of left right)
  pub header : take 11 file ≡ certificate_header (sizes_of left right)
  pub rows : rows_part file (sizes_of left right) ≡ relation
  pub al : StutterRanks (view_of left right relation) (ranks_of (sizes_of left right) file).stutter
  pub ar : StutterRanks (flip (view_of left right relation)) (ranks_of (sizes_of left right) file).stutter'
  pub cl : MatchRanks (view_of left right relation) (ranks_of (sizes_of left right) file).match
  pub cr : MatchRanks (flip (view_of left right relation)) (ranks_of (sizes_of left right) file).match'

-- What the maker's answer and output are.
pub record MakerExact (left right relation output : List ℕ) (answer : Answer) (after : List ℕ) : Type 0 where
  -- The maker succeeds exactly when the relation has the path property: as document 02 has it, where a path names its steps, and for tables without keys
  -- in the user's words, over states.
  pub succeeds : (answer.code ≡ 0) ↔ StepPathProperty (view_of left right relation)
  pub plain-succeeds : BothPlain left right → (answer.code ≡ 0) ↔ PathProperty (view_of left right relation)
  -- It succeeds with 0, 0, L.
  pub success : answer.code ≡ 0 → Made left right answer
  -- The certificate so written, the first L bytes of the output, is the file that document 01 defines, and the bytes after L stay.
  pub written : answer.code ≡ 0 → DefinedFile left right relation (take (certificate_length (sizes_of left right)) after)
  pub rest-stays : answer.code ≡ 0 → drop (certificate_length (sizes_of left right)) after ≡ drop (certificate_length (sizes_of left right)) output
  -- The judge accepts it with the same two tables.
  pub judged : answer.code ≡ 0 → (judge_answer left right (take (certificate_length (sizes_of left right)) after)).code ≡ 0
  -- Otherwise the output is as it was.
  pub untouched : ¬ (answer.code ≡ 0) → after ≡ output
  -- A relation without the path property has no accepted certificate at all: whatever file has its rows, if the judge accepts it,
  -- the relation has the property.
  pub no_other : (c : List ℕ) → AreBytes c → HasRows left right relation c → (judge_answer left right c).code ≡ 0
      → StepPathProperty (view_of left right relation)
  pub plain-no-other : BothPlain left right → (c : List ℕ) → AreBytes c → HasRows left right relation c → (judge_answer left right c).code ≡ 0
      → PathProperty (view_of left right relation)
