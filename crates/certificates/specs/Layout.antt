-- The layout of a certificate (document 01, Certificate), for left n1, m1 and right n2, m2.
use Rattle.std.specs.Prelude.{ℕ, ◌+◌, ◌*◌, ◌%◌, List}
use Rattle.lists.specs.Lists.{part}
use Rattle.lists.specs.Numbers.{big_endian}
use Rattle.tables.specs.Table.{states_of, steps_of}
use Rattle.tables.specs.declared.Head.{Head}
use Rattle.certificates.specs.declared.Runs.{Runs}
use Rattle.certificates.specs.declared.Sizes.{Sizes}

-- The bytes of the header and of a row.
abbrev pub certificate_header_length : ℕ
certificate_header_length = 11

abbrev pub row_length : ℕ
row_length = 8

-- The sizes that two headers give, in the widths of a certificate's header: one byte for states, two for steps.
abbrev pub sizes_for : Head → Head → Sizes
sizes_for h k = record { n1 = h.states % 256; n2 = k.states % 256; m1 = h.steps % 65536; m2 = k.steps % 65536 }

-- The sizes that the bytes of two tables give.
unfoldable pub sizes_of : List ℕ → List ℕ → Sizes
sizes_of left right = record { n1 = states_of left; n2 = states_of right; m1 = steps_of left; m2 = steps_of right }

-- Length L = 11 + 8 n1 + 2 n1 n2 + m1 n2 + m2 n1.
unfoldable pub certificate_length : Sizes → ℕ
certificate_length z = certificate_header_length + row_length * z.n1 + 2 * (z.n1 * z.n2) + z.m1 * z.n2 + z.m2 * z.n1

-- Where the runs AL, AR, CL and CR begin, after the header and the rows: n1 rows of 8 bytes; n1 times n2 bytes; n2 times n1; m1 times n2; m2 times n1.
unfoldable pub al_at : Sizes → ℕ
al_at z = certificate_header_length + row_length * z.n1

unfoldable pub ar_at : Sizes → ℕ
ar_at z = certificate_header_length + row_length * z.n1 + z.n1 * z.n2

unfoldable pub cl_at : Sizes → ℕ
cl_at z = certificate_header_length + row_length * z.n1 + 2 * (z.n1 * z.n2)

unfoldable pub cr_at : Sizes → ℕ
cr_at z = certificate_header_length + row_length * z.n1 + 2 * (z.n1 * z.n2) + z.m1 * z.n2

-- The four together.
abbrev pub runs_of : Sizes → Runs
runs_of z = record { al = al_at z; ar = ar_at z; cl = cl_at z; cr = cr_at z }

-- The rows, as the part of the certificate that holds them.
unfoldable pub rows_part : List ℕ → Sizes → List ℕ
rows_part c z = part c certificate_header_length (al_at z)

-- Row s, a word of 64 bits, of the part that holds the rows.
unfoldable pub row_of : List ℕ → ℕ → ℕ
row_of rows s = big_endian rows (s * row_length) row_length
