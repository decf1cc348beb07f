-- Laws of a certificate's layout: its products are bounded by the limits of the sizes, the rows and the runs lie one after the other and end at L,
-- and each rank lies inside its run. Assumes nothing.
use Prim.Native.Nat.{ℕ, ◌+◌, ◌*◌, ◌≤◌, ◌<◌}
use mathlib.Core.Path.{◌≡◌}
use native.Mathlib.Nat.{mul-le-mul, mul_comm}
use native.Mathlib.Omega.{arith}
use lib.Arith.{digits_lt}
use Rattle.certificates.specs.declared.Runs.{Runs}
use Rattle.certificates.specs.declared.Sizes.{Sizes}
use Rattle.certificates.specs.Layout.{certificate_length, certificate_header_length, al_at, ar_at, cl_at, cr_at, runs_of}

-- ---- the products of the sizes

pub record ProductsFit (n m : ℕ) (z : Sizes) : Type 0 where
  pub n1-n2 : z.n1 * z.n2 ≤ n * n
  pub m1-n2 : z.m1 * z.n2 ≤ m * n
  pub m2-n1 : z.m2 * z.n1 ≤ m * n

-- at most n states and m steps on each side
pub products-fit : {n m : ℕ} (z : Sizes) → z.n1 ≤ n → z.n2 ≤ n → z.m1 ≤ m → z.m2 ≤ m → ProductsFit n m z
products-fit z a b c d = record { n1-n2 = mul-le-mul a b; m1-n2 = mul-le-mul c b; m2-n1 = mul-le-mul d a }

-- at the limits of a table L is at most 41,483
pub length-limit : (z : Sizes) → z.n1 ≤ 64 → z.n2 ≤ 64 → z.m1 ≤ 256 → z.m2 ≤ 256 → certificate_length z ≤ 41483
unfolding certificate_length
length-limit z a b c d = let p = products-fit z a b c d in omega arith

-- ---- the rows and the runs lie one after the other

pub record RunsFollow (z : Sizes) : Type 0 where
  pub rows_end : certificate_header_length + 8 * z.n1 ≡ al_at z
  pub al-end : al_at z + z.n1 * z.n2 ≡ ar_at z
  pub ar-end : ar_at z + z.n2 * z.n1 ≡ cl_at z
  pub cl-end : cl_at z + z.m1 * z.n2 ≡ cr_at z
  pub cr-end : cr_at z + z.m2 * z.n1 ≡ certificate_length z

pub runs-follow : (z : Sizes) → RunsFollow z
unfolding al_at ar_at cl_at cr_at certificate_length
runs-follow z =
    let e = mul_comm z.n2 z.n1 in
    record { rows_end = omega arith; al-end = omega arith; ar-end = omega arith; cl-end = omega arith; cr-end = omega arith }

-- four numbers that are where the runs begin
pub runs-are : (z : Sizes) {al ar cl cr : ℕ} → al ≡ al_at z → ar ≡ ar_at z → cl ≡ cl_at z → cr ≡ cr_at z
    → ◌≡◌ {A = Runs} (record { al = al; ar = ar; cl = cl; cr = cr }) (runs_of z)
runs-are z a b c d = rw (a, b, c, d)

-- ---- a rank lies inside its run

-- Index i lies in the run that begins at a and ends before e.
pub record InRun (a e i : ℕ) : Type 0 where
  pub from : a ≤ i
  pub below : i < e

-- a run of n rows of m: cell s, t stands at s times m + t
pub cell-inside : (a n m : ℕ) {e s t : ℕ} → a + n * m ≡ e → s < n → t < m → InRun a e (a + (s * m + t))
cell-inside a n m {e} {s} {t} end h k = let l : s * m + t < n * m = digits_lt h k in record { from = omega arith; below = omega arith }

module _ (z : Sizes) where
  pub al-inside : {s t : ℕ} → s < z.n1 → t < z.n2 → InRun (al_at z) (ar_at z) (al_at z + (s * z.n2 + t))
  al-inside = cell-inside (al_at z) z.n1 z.n2 (runs-follow z).al-end

  pub ar-inside : {s t : ℕ} → t < z.n2 → s < z.n1 → InRun (ar_at z) (cl_at z) (ar_at z + (t * z.n1 + s))
  ar-inside = cell-inside (ar_at z) z.n2 z.n1 (runs-follow z).ar-end

  pub cl-inside : {j t : ℕ} → j < z.m1 → t < z.n2 → InRun (cl_at z) (cr_at z) (cl_at z + (j * z.n2 + t))
  cl-inside = cell-inside (cl_at z) z.m1 z.n2 (runs-follow z).cl-end

  pub cr-inside : {j s : ℕ} → j < z.m2 → s < z.n1 → InRun (cr_at z) (certificate_length z) (cr_at z + (j * z.n1 + s))
  cr-inside = cell-inside (cr_at z) z.m2 z.n1 (runs-follow z).cr-end
