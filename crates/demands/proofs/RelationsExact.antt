-- Demand 2 on bytes, which relations: some file that has the relation's rows is accepted exactly where some byte ranks meet the paper's clauses, and without
-- keys where the starts are related and the relation is the paper's well-founded bisimulation. The key is that byte ranks make a file, whose rows and ranks
-- are read back. Assumes nothing.
use Prim.Native.Nat.{ℕ, ◌*◌, ◌≤◌, ◌<◌}
use mathlib.Core.Path.{◌≡◌, sym, ap, ◌∙◌, subst}
use mathlib.Core.Logic.{◌↔◌}
use mathlib.Core.List.{List}
use native.Mathlib.Omega.{arith}
use lib.Dec.{T}
use lib.ListN.{length}
use lib.Seq.{ext_get_or}
use Rattle.lists.specs.Numbers.{byte_at}
use Rattle.bisimulation.specs.Systems.{View, Ranks, Bytes, WellFormed, flip, swap}
use Rattle.bisimulation.specs.Judge.{accepts}
use Rattle.bisimulation.proofs.Literal.{accepted-iff-literal}
use Rattle.bisimulation.proofs.NamjoshiTheorems.{accepted-iff-bisimulation}
use Rattle.table_reader.specs.TableReading.{head_of}
use Rattle.tables.specs.Model.{system_of}
use Rattle.table_reader.proofs.TableLaws.{table-ok}
use Rattle.table_pairs.proofs.PairLaws.{BothRead}
use Rattle.table_pairs.proofs.PairCauseLaws.{formed-read}
use Rattle.certificates.specs.declared.Sizes.{Sizes}
use Rattle.certificates.specs.Layout.{sizes_of, rows_part}
use Rattle.certificates.specs.CertificateModel.{AreBytes, view_of, ranks_of}
use Rattle.certificate_reader.proofs.CertificateCauseLaws.{certificate-good-none, certificate-none-good, relation-none-good}
use Rattle.certificates.proofs.ModelLaws.{rows-length, rows-byte, ranks-bytes, view-plain}
use Rattle.certificate_reader.proofs.CertificateLaws.{certificate-ok, relation-ok, view-formed}
use Rattle.files.specs.File.{certificate_file}
use Rattle.files.proofs.FileLaws.{FitsHeader, file-rows, file-ranks, file-good, file-bytes}
use Rattle.checker.specs.Judge.{judge_answer}
use Rattle.inputs.specs.Inputs.{InputsRead}
use Rattle.demands.specs.Demand2.{AllWellFormed, HasRows, SomeAccepted, WellFormedInputs, RelationsExact}
use Rattle.demands.proofs.AgreeLaws.{AgreeInside, accepts-agree}
use Rattle.demands.proofs.JudgeExact.{accepts-code, code-accepts}

module _ (left right relation : List ℕ) (given : WellFormedInputs left right relation) where
  abbrev z : Sizes
  z = sizes_of left right

  read : BothRead left right (record { left = head_of left; right = head_of right })
  read = formed-read left right given.tables

  abbrev pub given_view : View
  given_view = view_of left right relation

  pub given-formed : WellFormed given_view
  unfolding sizes_of
  given-formed =
      view-formed left right relation read.left-good read.right-good given.relation-bytes
      (relation-ok z relation (relation-none-good 2 z relation given.relation-formed)).1.narrow

  pub given-read : InputsRead left right relation
  given-read =
      record {
        head = head_of left;
        head' = head_of right;
        sizes = sizes_of left right;
        left-good = read.left-good;
        right-good = read.right-good;
        one-kind = read.one-kind;
        relation-good = relation-none-good 2 (sizes_of left right) relation given.relation-formed;
      }

  pub given-length : length relation ≡ 8 * z.n1
  given-length = (relation-ok z relation (relation-none-good 2 z relation given.relation-formed)).1.long

  pub given-sizes : FitsHeader z
  unfolding sizes_of
  given-sizes =
      let a = table-ok left read.left-good in
      let b = table-ok right read.right-good in
      let n1 = a.states-le in
      let n2 = b.states-le in
      let m1 = a.steps-le in
      let m2 = b.steps-le in
      record { n1< = omega arith; n2< = omega arith; m1< = omega arith; m2< = omega arith }

  pub given-few : (given_view.own.states ≤ 64) × (given_view.other.states ≤ 64)
  unfolding view_of system_of
  given-few = ((table-ok left read.left-good).states-le, (table-ok right read.right-good).states-le)

  -- ---- a file that has the rows gives the given view

  pub rows_are : (c : List ℕ) → AllWellFormed left right c → HasRows left right relation c → rows_part c z ≡ relation
  unfolding sizes_of
  rows_are c w h =
      let long = (certificate-ok z c (certificate-none-good 2 z c w.certificate-formed)).1.long in
      let a = rows-length z c long in
      ext_get_or 0 (rows_part c z) relation (a ∙ sym given-length) (λ i l. let k : i < 8 * z.n1 = rw a at l in rows-byte z c i k ∙ h i k)

  -- an accepted file's ranks are accepted with the given view
  pub accepted-file : (c : List ℕ) → AreBytes c → HasRows left right relation c → (judge_answer left right c).code ≡ 0 → T (accepts given_view (ranks_of z c))
  accepted-file c bytes h e =
      let q = code-accepts left right c bytes e in
      subst (λ (rows : List ℕ). T (accepts (view_of left right rows) (ranks_of z c))) (rows_are c q.0 h) q.1

  -- ---- and accepted byte ranks give an accepted file

  module _ (r : Ranks) (rb : Bytes r) where
    abbrev file : List ℕ
    file = certificate_file z relation r

    pub file-formed : AllWellFormed left right file
    file-formed =
        record {
          tables = given.tables;
          certificate-formed =
              (certificate-good-none 2 z file
              (file-good z relation r given-length given-sizes
              (relation-ok z relation (relation-none-good 2 z relation given.relation-formed)).1.narrow)).1;
        }

    pub file-are-bytes : AreBytes file
    file-are-bytes = file-bytes z relation r given-sizes given.relation-bytes rb

    pub file-has-rows : HasRows left right relation file
    unfolding sizes_of
    file-has-rows i l = sym (rows-byte z file i l) ∙ ap (λ (rows : List ℕ). byte_at rows i) (file-rows z relation r given-length)

    inside : AgreeInside given_view r (ranks_of z file)
    unfolding view_of system_of sizes_of
    inside =
        let a = file-ranks z relation r given-length in
        record { stutter = λ s t hs ht. sym (a.stutter s t hs ht); match = λ j t hj ht. sym (a.match j t hj ht) }

    inside' : AgreeInside (flip given_view) (swap r) (swap (ranks_of z file))
    unfolding view_of system_of sizes_of
    inside' =
        let a = file-ranks z relation r given-length in
        record { stutter = λ t s ht hs. sym (a.stutter' t s ht hs); match = λ j s hj hs. sym (a.match' j s hj hs) }

    pub file-accepted : T (accepts given_view r) → (judge_answer left right file).code ≡ 0
    file-accepted h =
        accepts-code left right file file-are-bytes file-formed
        (subst (λ (rows : List ℕ). T (accepts (view_of left right rows) (ranks_of z file)))
        (sym (file-rows z relation r given-length))
        (accepts-agree given_view given-formed r (ranks_of z file) inside inside' h))

  -- some file with the relation's rows is accepted exactly where some byte ranks are
  some-accepted : SomeAccepted left right relation (judge_answer left right) ↔ ((r : Ranks) × Bytes r × T (accepts given_view r))
  some-accepted = (
    λ p. (ranks_of z p.0, ranks-bytes z p.0 p.1, accepted-file p.0 p.1 p.2 p.3),
    λ q. (certificate_file z relation q.0, file-are-bytes q.0 q.1, file-has-rows q.0 q.1, file-accepted q.0 q.1 q.2),
  )

  pub relations-exact : RelationsExact left right relation (judge_answer left right)
  relations-exact =
      let few = given-few in
      let l = accepted-iff-literal given_view given-formed few.0 few.1 in
      record {
        ranks-exact = (λ p. l.0 (some-accepted.0 p), λ q. some-accepted.1 (l.1 q));
        plain = λ p.
            let b = accepted-iff-bisimulation given_view given-formed (view-plain left right relation p.0 p.1) few.0 few.1 in
            (λ x. b.0 (some-accepted.0 x), λ x. some-accepted.1 (b.1 x));
      }
