-- Laws of the reader that knows "TPT" alone: what it reads has no keys, and is what the other reader reads. Assumes nothing.
use Rattle.std.specs.Prelude.{Ok}
use Prim.Native.Nat.{ℕ}
use mathlib.Core.Path.{◌≡◌, sym, ap, ◌∙◌}
use mathlib.Core.Bool.{false}
use mathlib.Core.List.{List}
use native.Mathlib.Omega.{arith}
use borrow.Author.Tests.{ne_eqb}
use Rattle.lists.specs.Numbers.{byte_at}
use Rattle.answers.proofs.CauseLaws.{none-at}
use Rattle.answers.proofs.DecideLaws.{decides-stable}
use Rattle.tables.specs.declared.Head.{Head}
use Rattle.tables.specs.Table.{keyed}
use Rattle.table_reader.specs.declared.Known.{Known}
use Rattle.table_reader.specs.declared.Known.TheVariants.{Plain}
use Rattle.table_reader.specs.TableReading.{read_known, read_table}
use Rattle.table_reader.specs.TableCauses.{known_causes, MagicFits}
use Rattle.table_reader.proofs.TestLaws.{magic-decides}
use Rattle.table_reader.proofs.TableCauseLaws.{good_none, good-formed, formed-good}

-- "TPT" has no keys
pub magic-plain : (s : List ℕ) → MagicFits 0x54 s → keyed s ≡ false
unfolding keyed
magic-plain s m = ne_eqb (byte_at s 2) 0x4B (λ e. omega (arith, m.2))

pub plain-good : (s : List ℕ) {h : Head} → read_known Plain s ≡ Ok h → keyed s ≡ false
plain-good s e = magic-plain s (decides-stable (magic-decides 0x54 s) (none-at (known_causes Plain 0 s) (good_none Plain 0 s e).1 1))

-- what is read is read where both kinds are known, with the same header
pub known-good : (known : Known) (s : List ℕ) {h : Head} → read_known known s ≡ Ok h → read_table s ≡ Ok h
known-good known s e = formed-good s (good-formed known s e) ∙ ap Ok (sym (good_none known 0 s e).0)
