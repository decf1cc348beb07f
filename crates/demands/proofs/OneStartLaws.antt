-- Where neither table has a start word, each has one start, and the two are what 16 names; and for tables with one start each the starts rule says that the
-- two are related. Assumes nothing.
use Rattle.std.specs.Prelude.{Ok}
use Prim.Native.Nat.{ℕ}
use mathlib.Core.Path.{◌≡◌, refl, ap}
use mathlib.Core.Bool.{Bool, true, false, cond, ◌||◌}
use mathlib.Core.List.{List}
use lib.Dec.{eqb, eqb→eq}
use Rattle.lists.proofs.BoolLaws.{same-T, eq→eqb}
use Rattle.bisimulation.proofs.Equivalences.{one-initial}
use Rattle.tables.specs.declared.Head.{Head}
use Rattle.tables.specs.Table.{start_word, start_of}
use Rattle.tables.specs.Model.{system_of}
use Rattle.table_reader.specs.TableReading.{read_table}
use Rattle.table_reader.proofs.TableLaws.{table-formed}
use Rattle.table_reader.proofs.TableCauseLaws.{formed-good}
use Rattle.certificates.specs.CertificateModel.{view_of}
use Rattle.starts.specs.StartsNamed.{both_starts, unpaired_start, starts_named}
use Rattle.starts.specs.StartsCauses.{starts_causes}
use Rattle.starts.proofs.StartsLaws.{NamesStarts}
use Rattle.demands.specs.OneStart.{HasOneStart, OneStart}

-- 16 names the starts of two tables that are read
pub names-starts : (left right rows : List ℕ) {h k : Head} → read_table left ≡ Ok h → read_table right ≡ Ok k
    → NamesStarts (view_of left right rows) (starts_named left right)
unfolding starts_named view_of
names-starts left right rows gl gr = go (start_word left) (start_word right) refl refl
  where
    go : (x y : Bool) → start_word left ≡ x → start_word right ≡ y
        → NamesStarts (view_of left right rows) (cond (x || y) unpaired_start (both_starts (start_of left) (start_of right)))
    go true y p q = tt
    go false true p q = tt
    go false false p q = ((table-formed left gl).one-initial p, (table-formed right gr).one-initial q)

-- the same said as a test
one-test : (s : List ℕ) {a : ℕ} → HasOneStart s a → (t : ℕ) → (system_of s).initial t ≡ eqb t a
one-test s {a} h t = same-T ((system_of s).initial t) (eqb t a) (λ i. eq→eqb t a ((h t).0 i)) (λ i. (h t).1 (eqb→eq t a i))

module _ (left right rows : List ℕ) where
  named-both : start_word left ≡ false → start_word right ≡ false → starts_named left right ≡ both_starts (start_of left) (start_of right)
  unfolding starts_named
  named-both p q = rw (p, q)

  pub one-start-each : OneStart left right rows
  unfolding view_of
  one-start-each =
      record {
        no_word = λ p q. record {
          causes = ap (starts_causes (view_of left right rows)) (named-both p q);
          rule = λ l r.
              one-initial (view_of left right rows) (start_of left) (start_of right) ((table-formed left (formed-good left l)).one-initial p)
              ((table-formed right (formed-good right r)).one-initial q);
        };
        one_each = λ a b f g. one-initial (view_of left right rows) a b (one-test left f) (one-test right g);
      }
