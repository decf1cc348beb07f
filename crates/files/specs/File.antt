-- The file of a certificate (document 01, Certificate): the bytes for given sizes, rows and ranks.
use Rattle.std.specs.Prelude.{ℕ, List, [], ◌∷◌, ◌++◌, take}
use Rattle.lists.specs.Lists.{grid}
use Rattle.lists.specs.Numbers.{big_bytes}
use Rattle.bisimulation.specs.Systems.{Ranks}
use Rattle.certificates.specs.Layout.{certificate_length}
use Rattle.certificates.specs.declared.Sizes.{Sizes}

-- "TPC", version 1 in two bytes, n1 and n2 in one byte each, m1 and m2 in two.
unfoldable pub certificate_header : Sizes → List ℕ
certificate_header z = (0x54 ∷ 0x50 ∷ 0x43 ∷ []) ++ big_bytes 2 1 ++ (z.n1 ∷ z.n2 ∷ []) ++ big_bytes 2 z.m1 ++ big_bytes 2 z.m2

-- The header, the rows, and the runs AL, AR, CL and CR.
unfoldable pub certificate_file : Sizes → List ℕ → Ranks → List ℕ
certificate_file z rows r =
    certificate_header z ++ rows ++ grid z.n1 z.n2 r.stutter ++ grid z.n2 z.n1 r.stutter' ++ grid z.m1 z.n2 r.match
    ++ grid z.m2 z.n1 r.match'

-- The certificate that stands in an output: its first L bytes.
abbrev pub certificate_in : Sizes → List ℕ → List ℕ
certificate_in z output = take (certificate_length z) output
