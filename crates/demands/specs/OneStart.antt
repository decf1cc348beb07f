-- Ask 5 of document 02 for tables with one start: nothing has changed. A table of an older version has one start.
use Rattle.std.specs.Prelude.{ℕ, ◌≡◌, ◌↔◌, false, List, [], ◌∷◌, T}
use Rattle.bisimulation.specs.Systems.{StartsRule}
use Rattle.answers.specs.Causes.{◌gives◌}
use Rattle.tables.specs.Table.{start_word, start_of}
use Rattle.tables.specs.Model.{system_of}
use Rattle.table_reader.specs.TableCauses.{WellFormedTable}
use Rattle.certificates.specs.CertificateModel.{view_of}
use Rattle.starts.specs.StartsNamed.{starts_named}
use Rattle.starts.specs.StartsVerdict.{starts_answer}
use Rattle.starts.specs.StartsCauses.{starts_causes}

-- The table has just the start a.
abbrev pub HasOneStart : List ℕ → ℕ → Type 0
HasOneStart s a = (t : ℕ) → T ((system_of s).initial t) ↔ (t ≡ a)

-- Two tables without a start word, with any rows.
pub record AsBefore (left right rows : List ℕ) : Type 1 where
  -- The causes 16 are the one of document 01: the starts are unrelated, a left start, b right start.
  pub causes : starts_causes (view_of left right rows) (starts_named left right)
      ≡ (¬ T ((view_of left right rows).related (start_of left) (start_of right))) gives starts_answer (start_of left) (start_of right) ∷ []
  -- The starts rule says that the two starts are related.
  pub rule : WellFormedTable left → WellFormedTable right
      → StartsRule (view_of left right rows) ↔ T ((view_of left right rows).related (start_of left) (start_of right))

pub record OneStart (left right rows : List ℕ) : Type 1 where
  pub no_word : start_word left ≡ false → start_word right ≡ false → AsBefore left right rows
  -- So it does for any two tables with one start each, whatever their versions.
  pub one_each : (a b : ℕ) → HasOneStart left a → HasOneStart right b → StartsRule (view_of left right rows) ↔ T ((view_of left right rows).related a b)
