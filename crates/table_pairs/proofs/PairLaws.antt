-- Laws of what was read of two tables: the verdict that the code gives, and that both were read and are of one kind where the reading goes on. Assumes
-- nothing.
use Rattle.std.proofs.Common.{Result, Ok, Err}
use Prim.Native.Nat.{ℕ}
use mathlib.Core.Path.{◌≡◌, refl, ap, ◌∙◌}
use mathlib.Core.Bool.{Bool, true, false, not, cond}
use mathlib.Core.List.{List}
use lib.Dec.{T}
use Rattle.lists.proofs.BoolLaws.{T_true}
use Rattle.answers.specs.Numbers.{six_numbers}
use Rattle.answers.specs.Verdicts.{Verdict, pass_if, refusal_of}
use Rattle.answers.specs.declared.Answer.{Answer}
use Rattle.answers.proofs.DecideLaws.{Decides}
use Rattle.answers.proofs.VerdictLaws.{then-on}
use Rattle.refusals.specs.declared.TableRefusal.{TableRefusal}
use Rattle.tables.specs.declared.Head.{Head}
use Rattle.tables.specs.Table.{keyed}
use Rattle.table_reader.specs.declared.Known.{Known}
use Rattle.table_reader.specs.declared.Known.TheVariants.{Both, Plain}
use Rattle.table_reader.specs.TableReading.{read_known, read_table}
use Rattle.table_reader.specs.TableVerdicts.{table_verdict}
use Rattle.table_reader.proofs.TableCauseLaws.{on-good}
use Rattle.table_reader.proofs.PlainLaws.{plain-good, known-good}
use Rattle.table_pairs.specs.declared.Heads.{Heads}
use Rattle.table_pairs.specs.TablePairs.{same_kind, tables_verdict}
use Rattle.table_pairs.specs.PairCauses.{OneKind}

-- ---- the kind

kinds-decide : (a b : Bool) → Decides (cond a b (not b)) (a ≡ b)
kinds-decide true true = record { sound = λ h. refl; complete = λ e. tt }
kinds-decide true false = record { sound = λ h. absurd h; complete = λ e. cc e }
kinds-decide false true = record { sound = λ h. absurd h; complete = λ e. cc e }
kinds-decide false false = record { sound = λ h. refl; complete = λ e. tt }

pub kind-decides : (left right : List ℕ) → Decides (same_kind left right) (OneKind left right)
unfolding same_kind
kind-decides left right = kinds-decide (keyed left) (keyed right)

-- ---- both are read

-- Both tables are read with these headers, and are of one kind.
pub record BothRead (left right : List ℕ) (heads : Heads) : Type 0 where
  pub left-good : read_table left ≡ Ok heads.left
  pub right-good : read_table right ≡ Ok heads.right
  pub one-kind : OneKind left right

passed-test : (b : Bool) (a : Answer) {x : Unit {0}} → pass_if b a ≡ Ok x → T b
passed-test true a e = tt
passed-test false a e = cc e

module _ (known : Known) (left right : List ℕ) where
  -- where the reading goes on, both were read, and the headers are theirs
  tables-good : {h : Heads} → tables_verdict known left right ≡ Ok h
      → (read_known known left ≡ Ok h.left) × (read_known known right ≡ Ok h.right) × OneKind left right
  unfolding tables_verdict
  tables-good {h} e =
      let p = then-on (table_verdict 0 (read_known known left)) e in
      let q = then-on (table_verdict 1 (read_known known right)) p.2 in
      let r = then-on (pass_if (same_kind left right) (six_numbers 30 1 0)) q.2 in
      let same : ◌≡◌ {A = Heads} (record { left = p.0; right = q.0 }) h = cc r.2 in (
        on-good 0 (read_known known left) p.1 ∙ ap (λ (x : Heads). Ok x.left) same,
        on-good 1 (read_known known right) q.1 ∙ ap (λ (x : Heads). Ok x.right) same,
        (kind-decides left right).sound (passed-test (same_kind left right) (six_numbers 30 1 0) r.1),
      )

  pub tables-read : {h : Heads} → tables_verdict known left right ≡ Ok h → BothRead left right h
  tables-read e =
      let g = tables-good e in
      record { left-good = known-good known left g.0; right-good = known-good known right g.1; one-kind = g.2 }

  -- ---- as the code comes to them

  pub left-refuses : {x : Result Head TableRefusal} {r : TableRefusal} → x ≡ read_known known left → x ≡ Err r
      → ◌≡◌ {A = Verdict Heads} (Err (refusal_of (table_verdict 0 x))) (tables_verdict known left right)
  unfolding tables_verdict
  left-refuses e q = rw (← e, q)

  module _ {h : Head} (gl : read_known known left ≡ Ok h) where
    pub right-refuses : {x : Result Head TableRefusal} {r : TableRefusal} → x ≡ read_known known right → x ≡ Err r
        → ◌≡◌ {A = Verdict Heads} (Err (refusal_of (table_verdict 1 x))) (tables_verdict known left right)
    unfolding tables_verdict
    right-refuses e q = rw (gl, ← e, q)

    module _ {k : Head} (gr : read_known known right ≡ Ok k) where
      pub by_kind : (b : Bool) → b ≡ same_kind left right
          → tables_verdict known left right ≡ cond b (Ok (record { left = h; right = k })) (Err (six_numbers 30 1 0))
      unfolding tables_verdict
      by_kind true e = rw (gl, gr, ← e)
      by_kind false e = rw (gl, gr, ← e)

module _ (left right : List ℕ) where
  -- two tables that are read, the other way round
  pub read-tables : {h : Heads} → BothRead left right h → tables_verdict Both left right ≡ Ok h
  unfolding tables_verdict
  read-tables b = rw (b.left-good, b.right-good, T_true (same_kind left right) ((kind-decides left right).complete b.one-kind))

  -- where "TPT" alone is known neither has keys
  pub plain-read : {h : Heads} → tables_verdict Plain left right ≡ Ok h → (keyed left ≡ false) × (keyed right ≡ false)
  plain-read e = let g = tables-good Plain left right e in (plain-good left g.0, plain-good right g.1)
