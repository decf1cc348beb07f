-- The six numbers of each refusal of a file (document 01, What is turned away; document 02, Asks 1 and 5): code, file, and a the first such step for 8, 9
-- and 24 or the first such row for 15.
use Rattle.std.specs.Prelude.{ℕ}
use Rattle.answers.specs.declared.Answer.{Answer}
use Rattle.answers.specs.Numbers.{six_numbers}
use Rattle.refusals.specs.declared.TableRefusal.{TableRefusal}
use Rattle.refusals.specs.declared.TableRefusal.TheVariants as table
use Rattle.refusals.specs.declared.CertificateRefusal.{CertificateRefusal}
use Rattle.refusals.specs.declared.CertificateRefusal.TheVariants as certificate
use Rattle.refusals.specs.declared.RelationRefusal.{RelationRefusal}
use Rattle.refusals.specs.declared.RelationRefusal.TheVariants as relation

abbrev pub table_answer : TableRefusal → ℕ → Answer
table_answer table.Short file = six_numbers 1 file 0
table_answer table.Magic file = six_numbers 2 file 0
table_answer table.Version file = six_numbers 3 file 0
table_answer table.States file = six_numbers 4 file 0
table_answer table.Start file = six_numbers 5 file 0
table_answer table.Starts file = six_numbers 28 file 0
table_answer table.Steps file = six_numbers 6 file 0
table_answer table.Length file = six_numbers 7 file 0
table_answer (table.StepEnd j) file = six_numbers 8 file j
table_answer (table.Doubled j) file = six_numbers 9 file j
table_answer (table.NotGreater j) file = six_numbers 24 file j

abbrev pub certificate_answer : CertificateRefusal → ℕ → Answer
certificate_answer certificate.Short file = six_numbers 10 file 0
certificate_answer certificate.Magic file = six_numbers 11 file 0
certificate_answer certificate.Version file = six_numbers 12 file 0
certificate_answer certificate.Sizes file = six_numbers 13 file 0
certificate_answer certificate.Length file = six_numbers 14 file 0
certificate_answer (certificate.RowBit s) file = six_numbers 15 file s

abbrev pub relation_answer : RelationRefusal → ℕ → Answer
relation_answer relation.Length file = six_numbers 20 file 0
relation_answer (relation.RowBit s) file = six_numbers 15 file s
