-- The theory's view and ranks that the bytes of two tables, of rows and of a certificate give.
use Rattle.std.specs.Prelude.{ℕ, ◌+◌, ◌*◌, ◌<◌, Bool, ◌&&◌, List, ltb, eqb}
use Rattle.lists.specs.Numbers.{byte_at}
use Rattle.words.specs.Bits.{has_bit}
use Rattle.bisimulation.specs.Systems.{View, Ranks}
use Rattle.tables.specs.Table.{states_of, key_in}
use Rattle.tables.specs.Model.{system_of}
use Rattle.certificates.specs.Layout.{sizes_of, al_at, ar_at, cl_at, cr_at, rows_part, row_of}
use Rattle.certificates.specs.declared.Sizes.{Sizes}

-- Each number is a byte.
abbrev pub AreBytes : List ℕ → Type 0
AreBytes s = (i : ℕ) → byte_at s i < 256

-- s and t are related when row s has the bit of weight 2 to the power t; there are n1 rows.
unfoldable pub related_in : List ℕ → ℕ → ℕ → ℕ → Bool
related_in rows n1 s t = ltb s n1 && has_bit (row_of rows s) t

-- Two tables and the relation that the rows give. A step serves another where their keys are equal, so in tables without keys every other.
unfoldable pub view_of : List ℕ → List ℕ → List ℕ → View
view_of left right rows =
    record {
      own = system_of left;
      other = system_of right;
      related = related_in rows (states_of left);
      serves = λ j k. eqb (key_in left j) (key_in right k);
    }

-- The ranks: AL at s times n2 + t, AR at t times n1 + s, CL at j times n2 + t for left step j, CR at j times n1 + s for right step j.
unfoldable pub ranks_of : Sizes → List ℕ → Ranks
ranks_of z c =
    record {
      stutter = λ s t. byte_at c (al_at z + (s * z.n2 + t));
      match = λ j t. byte_at c (cl_at z + (j * z.n2 + t));
      stutter' = λ t s. byte_at c (ar_at z + (t * z.n1 + s));
      match' = λ j s. byte_at c (cr_at z + (j * z.n1 + s));
    }

-- The view and the ranks that two tables and a certificate give.
abbrev pub certified_view : List ℕ → List ℕ → List ℕ → View
certified_view left right c = view_of left right (rows_part c (sizes_of left right))

abbrev pub certified_ranks : List ℕ → List ℕ → List ℕ → Ranks
certified_ranks left right c = ranks_of (sizes_of left right) c
