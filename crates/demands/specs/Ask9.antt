-- Ask 9 of document 02 on bytes: keys that are all silent change nothing. Two tables without keys, of version 3 or 4, get the answers that the two tables
-- with keys get whose marks, starts and steps in their order are the same and whose keys are all 0. (Versions 1 and 2 have one start, which 16 names in
-- another way, and the steps of version 1 may stand in another order.)
use Rattle.std.specs.Prelude.{ℕ, ◌<◌, ◌≡◌, ◌⊎◌, true, false, List}
use Rattle.tables.specs.Table.{keyed, version_of, key_in}
use Rattle.tables.specs.Model.{system_of}
use Rattle.table_reader.specs.TableCauses.{WellFormedTable}
use Rattle.certificates.specs.CertificateModel.{AreBytes}
use Rattle.checker.specs.Judge.{judge_answer}
use Rattle.lister.specs.Listing.{printed}
use Rattle.ranking.specs.Make.{make_answer, make_output}
use Rattle.ranking.specs.Enquire.{enquiry_for, commit_answer, commit_output}

-- The table k has keys, all 0, and otherwise the same marks, starts and steps in the same order as the table s, which has none.
pub record AllSilent (s k : List ℕ) : Type 0 where
  pub formed : WellFormedTable s
  pub plain : keyed s ≡ false
  pub version : (version_of s ≡ 3) ⊎ (version_of s ≡ 4)
  pub keyed-formed : WellFormedTable k
  pub has-keys : keyed k ≡ true
  pub states : (system_of s).states ≡ (system_of k).states
  pub marks : (t : ℕ) → t < (system_of s).states → (system_of s).label t ≡ (system_of k).label t
  pub starts : (t : ℕ) → t < (system_of s).states → (system_of s).initial t ≡ (system_of k).initial t
  pub steps : (system_of s).steps ≡ (system_of k).steps
  pub from-same : (j : ℕ) → j < (system_of s).steps → (system_of s).from j ≡ (system_of k).from j
  pub to_same : (j : ℕ) → j < (system_of s).steps → (system_of s).to j ≡ (system_of k).to j
  pub keys : (j : ℕ) → j < (system_of s).steps → key_in k j ≡ 0

-- Two tables and two others get the same answers, whatever the certificate, the relation and the output.
pub record SameAnswers (left right left' right' : List ℕ) : Type 0 where
  pub judge : (c : List ℕ) → judge_answer left right c ≡ judge_answer left' right' c
  pub listing : (c : List ℕ) → printed left right c ≡ printed left' right' c
  pub make : (relation output : List ℕ) → make_answer left right relation output ≡ make_answer left' right' relation output
  pub made : (relation output : List ℕ) → make_output left right relation output ≡ make_output left' right' relation output
  pub enquiry : (relation : List ℕ) → (enquiry_for left right relation).answer ≡ (enquiry_for left' right' relation).answer
  -- Only a successful slip's first two numbers, the lengths of the tables, differ.
  pub slip-relation : (relation : List ℕ) → (enquiry_for left right relation).slip.relation ≡ (enquiry_for left' right' relation).slip.relation
  pub slip-certificate : (relation : List ℕ) → (enquiry_for left right relation).slip.certificate ≡ (enquiry_for left' right' relation).slip.certificate
  pub slip-refused : (relation : List ℕ) → ¬ ((enquiry_for left right relation).answer.code ≡ 0)
      → (enquiry_for left right relation).slip ≡ (enquiry_for left' right' relation).slip
  -- Commits agree, each with the slip of its own enquiry.
  pub commit : (relation output : List ℕ) → AreBytes relation
      → commit_answer left right relation (enquiry_for left right relation).slip output
      ≡ commit_answer left' right' relation (enquiry_for left' right' relation).slip output
  pub committed : (relation output : List ℕ) → AreBytes relation
      → commit_output left right relation (enquiry_for left right relation).slip output
      ≡ commit_output left' right' relation (enquiry_for left' right' relation).slip output
