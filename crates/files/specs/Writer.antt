-- The ranks that the writer's grids hold, and the output that the writer leaves.
use Rattle.std.specs.Prelude.{ℕ, ◌+◌, ◌*◌, cond, List, eqb, length}
use Rattle.lists.specs.Lists.{put_front}
use Rattle.lists.specs.Numbers.{byte_at}
use Rattle.bisimulation.specs.Systems.{Ranks}
use Rattle.tables.specs.Table.{max_states}
use Rattle.certificates.specs.Layout.{row_length}
use Rattle.certificates.specs.declared.Sizes.{Sizes}
use Rattle.files.specs.File.{certificate_file}

-- The rank at t in row i of a grid with rows of 64; past the end stand zeros.
unfoldable pub cell_in : List ℕ → ℕ → ℕ → ℕ
cell_in ranks i t = byte_at ranks (i * max_states + t)

-- The ranks that four grids hold: the left A rank of s at t stands in `al` in row s, the right A rank of t at s in `ar` in row t, the left C rank of step j
-- at t in `cl` in row j, and the right C rank of step k at s in `cr` in row k.
abbrev pub ranks_in : (al ar cl cr : List ℕ) → Ranks
ranks_in al ar cl cr = record { stutter = cell_in al; match = cell_in cl; stutter' = cell_in ar; match' = cell_in cr }

-- The output after writing: the file stands at its front. Where the rows are not 8 n1 bytes, or the output is shorter than the file, it stays as it was.
unfoldable pub file_written : Sizes → List ℕ → Ranks → List ℕ → List ℕ
file_written z rows r output = cond (eqb (length rows) (row_length * z.n1)) (put_front (certificate_file z rows r) output) output
