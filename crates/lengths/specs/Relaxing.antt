-- Inner: what a row of lengths keeps while it is relaxed towards the match distances of the own step j, one length for each state of the other side.
use Rattle.std.specs.Prelude.{ℕ, ◌+◌, ◌≤◌, ◌<◌, ◌≡◌, Bool, true, false, ◌&&◌, List, T, ltb, eqb, length, get_or}
use Rattle.lists.specs.Below.{sum_below}
use Rattle.words.specs.Bits.{has_bit}
use Rattle.bisimulation.specs.Systems.{View}
use Rattle.bisimulation.specs.Maker.{matches_within}
use Rattle.sides.specs.declared.Side.{Side}
use Rattle.sides.specs.Side.{system_in, key_at}

-- The sum of the lengths.
unfoldable pub total : List ℕ → ℕ
total row = sum_below 64 (λ t. get_or row t 0)

-- The other's step e meets the obligation by 2a, by the words of the states related to the ends of the own step and by its key.
unfoldable pub met_by : (theirs : Side) → (from to key e : ℕ) → Bool
met_by theirs from to key e = has_bit from ((system_in theirs).from e) && (has_bit to ((system_in theirs).to e) && eqb (key_at theirs e) key)

-- A step from x to y shortens the length at x, where x is in the word and the step is silent.
unfoldable pub shortens : ℕ → List ℕ → ℕ → ℕ → Bool → Bool
shortens word row x y quiet = ltb x 64 && ltb y 64 && ltb (get_or row y 0 + 1) (get_or row x 0) && has_bit word x && quiet

-- No length is above the number of states; one below it is the number of steps inside some matching run; and it is 0 where one of the other's first
-- e steps meets the obligation by 2a.
pub record Bounds (v : View) (j e : ℕ) (row : List ℕ) : Type 0 where
  pub len : length row ≡ 64
  pub most : (t : ℕ) → t < 64 → get_or row t 0 ≤ v.other.states
  pub within : (t : ℕ) → t < 64 → get_or row t 0 < v.other.states → T (matches_within v j (get_or row t 0) t)
  pub none_inside : (k : ℕ) → k < e → T (v.serves j k) → T (v.related (v.own.from j) (v.other.from k)) → T (v.related (v.own.to j) (v.other.to k))
      → get_or row (v.other.from k) 0 ≡ 0

-- None of the other's first e steps shortens a length; only silent ones can.
pub record Settled (v : View) (j e : ℕ) (row : List ℕ) : Type 0 where
  pub short : (k : ℕ) → k < e → T (v.other.silent k) → T (v.related (v.own.from j) (v.other.from k)) → v.other.to k < 64
      → get_or row (v.other.from k) 0 ≤ get_or row (v.other.to k) 0 + 1

-- A round over the other's first e steps made `row` of `before`: where it changed nothing the row is settled, else the sum of the lengths fell.
pub record Round (v : View) (j e : ℕ) (before row : List ℕ) (changed : Bool) : Type 0 where
  pub bounds : Bounds v j v.other.steps row
  pub settled : changed ≡ false → Settled v j e row
  pub same : changed ≡ false → total row ≡ total before
  pub fell : changed ≡ true → total row < total before

-- The length is 0 at each state of the word.
pub record Zeroed (word : ℕ) (row : List ℕ) : Type 0 where
  pub zeros : (x : ℕ) → T (has_bit word x) → get_or row x 0 ≡ 0
