-- Demand 2 on bytes: the judge accepts exactly the well-founded bisimulations with starts related. Three statements say it: which certificates are
-- accepted, which relations have an accepted certificate, and how a certificate's ranks and the paper's rank of triples meet. For tables with keys the
-- paper's clauses are read with the keys, and document 01's A and C ranks stand in place of the triple's rank (document 02, Ask 9).
use Rattle.std.specs.Prelude.{ℕ, ◌+◌, ◌*◌, ◌<◌, ◌≡◌, ◌↔◌, false, List, T, length}
use Rattle.lists.specs.Numbers.{byte_at}
use Rattle.bisimulation.specs.Systems.{Ranks, Bytes}
use Rattle.bisimulation.specs.Clauses.{Meets, MeetsLiterally, Certified}
use Rattle.bisimulation.specs.Namjoshi.{Bisimulation, BisimulationWithoutConjunct, InitialStatesRelated, SomeRank}
use Rattle.bisimulation.specs.Triples.{triple_rank, raised}
use Rattle.tables.specs.Table.{states_of, keyed}
use Rattle.answers.specs.Causes.{NoCause}
use Rattle.table_pairs.specs.PairCauses.{WellFormedTables}
use Rattle.answers.specs.declared.Answer.{Answer}
use Rattle.certificates.specs.Layout.{sizes_of, certificate_header_length, al_at, ar_at, cl_at, cr_at}
use Rattle.certificates.specs.CertificateModel.{AreBytes, view_of, certified_view as view, certified_ranks as ranks}
use Rattle.certificate_reader.specs.CertificateCauses.{certificate_causes, relation_causes}
use Rattle.demands.specs.Demand1.{Accepted}

-- Neither table has keys.
abbrev pub BothPlain : (left right : List ℕ) → Type 0
BothPlain left right = (keyed left ≡ false) × (keyed right ≡ false)

-- The three files are well formed and the tables of one kind: none of 1 to 15, 24, 28 and 30 applies.
pub record AllWellFormed (left right c : List ℕ) : Type 0 where
  pub tables : WellFormedTables left right
  pub certificate-formed : NoCause (certificate_causes 2 (sizes_of left right) c)

-- The judge's answer to the certificate c, and the paper's rank of triples: for tables without keys.
pub record TriplesExact (left right c : List ℕ) (answer : Answer) : Type 0 where
  -- It accepts exactly where all three files are well formed, the starts are related, and the paper's clauses without the conjunct (u, t) ∉ B of 2c hold
  -- of the certificate's ranks as one rank of triples.
  pub triples : (answer.code ≡ 0)
      ↔ (AllWellFormed left right c
      × InitialStatesRelated (view left right c)
      × BisimulationWithoutConjunct (view left right c) ◌<◌ (triple_rank (view left right c) (ranks left right c)))
  -- A certificate whose ranks, as one rank of triples, make the relation the paper's well-founded bisimulation, clause by clause, is accepted.
  pub literal-accepted : AllWellFormed left right c
      → InitialStatesRelated (view left right c) → Bisimulation (view left right c) ◌<◌ (triple_rank (view left right c) (ranks left right c))
      → answer.code ≡ 0
  -- The ranks of an accepted certificate do so once the A ranks are raised.
  pub accepted-raised : answer.code ≡ 0
      → InitialStatesRelated (view left right c)
      × Bisimulation (view left right c) ◌<◌ (triple_rank (view left right c) (raised (view left right c) (ranks left right c)))

-- The judge's answer to the certificate c, for tables of either kind.
pub record JudgeExact (left right c : List ℕ) (answer : Answer) : Type 0 where
  -- It accepts exactly where all three files are well formed, the starts are related, labels are equal, and every obligation of both sides meets 2a, 2b or 2c.
  pub certificates : (answer.code ≡ 0) ↔ (AllWellFormed left right c × Certified Meets (view left right c) (ranks left right c))
  -- The counts are those of the related pairs and of the obligations by the clause that meets them.
  pub counted : answer.code ≡ 0 → Accepted left right c answer
  -- A certificate whose ranks meet the paper's clauses, 2c only where 2b is out of the question, is accepted.
  pub literal-accepted : AllWellFormed left right c → Certified MeetsLiterally (view left right c) (ranks left right c) → answer.code ≡ 0
  -- The ranks of an accepted certificate do so once the A ranks are raised.
  pub accepted-raised : answer.code ≡ 0 → Certified MeetsLiterally (view left right c) (raised (view left right c) (ranks left right c))
  -- Without keys all of this is said of the paper's rank of triples.
  pub plain : BothPlain left right → TriplesExact left right c answer

-- The file has the relation's rows, whatever its other bytes.
abbrev pub HasRows : (left right relation c : List ℕ) → Type 0
HasRows left right relation c = (i : ℕ) → i < 8 * states_of left → byte_at c (certificate_header_length + i) ≡ byte_at relation i

-- Some file of bytes with the relation's rows is accepted by the judge that answers so.
abbrev pub SomeAccepted : (left right relation : List ℕ) → (List ℕ → Answer) → Type 0
SomeAccepted left right relation answer_to = (c : List ℕ) × AreBytes c × HasRows left right relation c × ((answer_to c).code ≡ 0)

-- The two tables and the relation are well formed, and the tables of one kind.
pub record WellFormedInputs (left right relation : List ℕ) : Type 0 where
  pub tables : WellFormedTables left right
  pub relation-formed : NoCause (relation_causes 2 (sizes_of left right) relation)
  pub relation-bytes : AreBytes relation

-- Which relations have an accepted certificate, for tables of either kind.
pub record RelationsExact (left right relation : List ℕ) (answer_to : List ℕ → Answer) : Type 1 where
  -- Some file with the relation's rows is accepted exactly where some byte ranks meet the paper's clauses, 2c only where 2b is out of the question.
  pub ranks-exact : SomeAccepted left right relation answer_to ↔ ((r : Ranks) × Bytes r × Certified MeetsLiterally (view_of left right relation) r)
  -- Without keys: exactly where the starts are related and the relation is the paper's well-founded bisimulation, for some well-founded set and rank.
  pub plain : BothPlain left right
      → SomeAccepted left right relation answer_to ↔ (InitialStatesRelated (view_of left right relation) × SomeRank (view_of left right relation))

-- Two certificates that differ only in ranks of unrelated pairs: they have one length, the same header and rows, and the same ranks where s, t are related.
pub record SameWhereRelated (left right c c' : List ℕ) : Type 0 where
  pub long : length c ≡ length c'
  pub head : (i : ℕ) → i < al_at (sizes_of left right) → byte_at c i ≡ byte_at c' i
  pub al : (s t : ℕ) → T ((view left right c).related s t)
      → byte_at c (al_at (sizes_of left right) + (s * states_of right + t)) ≡ byte_at c' (al_at (sizes_of left right) + (s * states_of right + t))
  pub ar : (s t : ℕ) → T ((view left right c).related s t)
      → byte_at c (ar_at (sizes_of left right) + (t * states_of left + s)) ≡ byte_at c' (ar_at (sizes_of left right) + (t * states_of left + s))
  pub cl : (j t : ℕ) → T ((view left right c).related ((view left right c).own.from j) t)
      → byte_at c (cl_at (sizes_of left right) + (j * states_of right + t)) ≡ byte_at c' (cl_at (sizes_of left right) + (j * states_of right + t))
  pub cr : (j s : ℕ) → T ((view left right c).related s ((view left right c).other.from j))
      → byte_at c (cr_at (sizes_of left right) + (j * states_of left + s)) ≡ byte_at c' (cr_at (sizes_of left right) + (j * states_of left + s))
