-- The same steps have the same numbers: two tables without keys whose steps rise, and of which each has the other's steps, have each step at the same place.
-- Assumes nothing.
use Rattle.std.specs.Prelude.{Ok}
use Prim.Native.Nat.{ℕ, ◌+◌, ◌*◌, ◌<◌}
use mathlib.Core.Path.{◌≡◌, refl, ap₂}
use mathlib.Core.Logic.{◌↔◌, ⊎_elim}
use mathlib.Core.Bool.{false}
use mathlib.Core.List.{List}
use native.Mathlib.Omega.{arith}
use Rattle.lists.proofs.RisingLaws.{Rise, Within, rising-same}
use Rattle.bisimulation.specs.Systems.{Step}
use Rattle.tables.specs.declared.Head.{Head}
use Rattle.tables.specs.Table.{keyed, steps_of, from_in, to_in}
use Rattle.tables.specs.Model.{system_of}
use Rattle.table_reader.specs.TableReading.{read_table}
use Rattle.table_reader.specs.TableCauses.{StepsRise}
use Rattle.table_reader.proofs.OrderLaws.{ends-greater, steps-rise}
use Rattle.table_reader.proofs.TableLaws.{table-ok, table-formed, steps-none}

-- Step j as one number, by which steps compare as they do by from, then by to.
as_number : List ℕ → ℕ → ℕ
as_number s j = from_in s j * 64 + to_in s j

-- an end is below 64
to-small : (s : List ℕ) {h : Head} → read_table s ≡ Ok h → (j : ℕ) → j < steps_of s → to_in s j < 64
unfolding system_of
to-small s e j l = let a = (table-formed s e).to< j l in let b = (table-ok s e).states-le in omega arith

-- rising steps are rising numbers
numbers-rise : (s : List ℕ) {h : Head} → read_table s ≡ Ok h → keyed s ≡ false → StepsRise s → Rise (as_number s) (steps_of s)
unfolding as_number
numbers-rise s e plain v i j a l =
    let b = to-small s e i (omega arith) in
    let c = to-small s e j l in
    ⊎_elim (λ g. omega arith) (λ g. omega arith) (ends-greater s (steps_of s) (steps-rise s (steps-none s e).1 v) plain i j a l)

-- steps of the other are numbers of the other
numbers-within : (s r : List ℕ) → ((a b : ℕ) → Step (system_of s) a b → Step (system_of r) a b)
    → Within (as_number s) (steps_of s) (as_number r) (steps_of r)
unfolding as_number system_of
numbers-within s r f j l =
    let p = f (from_in s j) (to_in s j) (j, l, refl, refl) in
    (p.0, p.1, ap₂ (λ (x y : ℕ). x * 64 + y) p.2 p.3)

module _ (s r : List ℕ) {h k : Head} (e : read_table s ≡ Ok h) (d : read_table r ≡ Ok k) (p : keyed s ≡ false) (q : keyed r ≡ false)
    (v : StepsRise s) (w : StepsRise r) (same : (a b : ℕ) → Step (system_of s) a b ↔ Step (system_of r) a b) where
  both : (steps_of s ≡ steps_of r) × ((j : ℕ) → j < steps_of s → as_number s j ≡ as_number r j)
  both =
      rising-same (as_number s) (as_number r) (steps_of s) (steps_of r) (numbers-rise s e p v) (numbers-rise r d q w)
      (numbers-within s r (λ a b. (same a b).0)) (numbers-within r s (λ a b. (same a b).1))

  -- they have equally many steps
  pub same_count : steps_of s ≡ steps_of r
  same_count = both.0

  -- and step j of the one is step j of the other
  pub same_numbers : (j : ℕ) → j < steps_of s
      → (from_in s j ≡ from_in r j) × (to_in s j ≡ to_in r j)
  unfolding as_number
  same_numbers j l =
      let n = both.1 j l in
      let c = both.0 in
      let a = to-small s e j l in
      let b = to-small r d j (omega arith) in
      (omega arith, omega arith)
