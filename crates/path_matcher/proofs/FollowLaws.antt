-- Laws of the loop that follows a path: where it stands, and what it has written, after each move. Assumes nothing.
use Prim.Native.Nat.{ℕ, suc, ◌+◌, ◌*◌, ◌≤◌, ◌<◌}
use mathlib.Core.Path.{◌≡◌, refl, sym, ap, ap₂, ◌∙◌, subst}
use mathlib.Core.Logic.{inl, inr, ⊎_elim}
use mathlib.Core.List.{List, [], ◌∷◌, ◌++◌, flat_map, append-nil}
use native.Mathlib.Nat.{mul-suc, mul-le-mul}
use native.Mathlib.Numerals.{add-one}
use native.Mathlib.Omega.{arith}
use lib.Dec.{T}
use lib.ListN.{length, take, drop, length-append, length-drop}
use lib.Seq.{length-take-le, take_at, take_all}
use Rattle.std.specs.Prelude.{Option}
use Rattle.lists.specs.Below.{some_below}
use Rattle.lists.specs.Numbers.{byte_at, big_bytes}
use Rattle.lists.proofs.FlatLaws.{flat_append}
use Rattle.bisimulation.specs.Clauses.{Meets}
use Rattle.bisimulation.specs.PathMatching.{Entry}
use Rattle.bisimulation.specs.Systems.{View, Ranks}
use Rattle.bisimulation.specs.Triples.{step_of}
use Rattle.bisimulation.proofs.ClauseLaws.{is2a-i, is2b-i, is2c-i}
use Rattle.bisimulation.proofs.PathMatchingLaws.{Matched, given-length, matching-most, path-e}
use Rattle.bisimulation.proofs.StandingLaws.{
  At,
  Standing,
  standing-start,
  standing-step,
  standing-2a,
  standing-2b,
  standing-2c,
  standing_on,
  standing-stop,
  path-matched,
}
use Rattle.sides.specs.declared.Side.{Side}
use Rattle.sides.specs.Views.{view_in}
use Rattle.sides.proofs.ViewLaws.{states-few}
use Rattle.obligations.specs.declared.Run.{Run}
use Rattle.path_matcher.specs.declared.Move.{Move}
use Rattle.path_matcher.specs.declared.Move.TheVariants.{Enter, Stay, Push, End}
use Rattle.path_matcher.specs.Following.{entry_bytes, block_bytes}
use Rattle.path_matcher.specs.OnSides.{ranks_in, given_in, matched_in, step_between, next_move, AllMet, StartsAt, StandsAt}
use Rattle.path_matcher.proofs.MoveLaws.{Told, told}

-- ---- what is written

-- bytes are stored after the first a
stored : (a k : ℕ) (bytes l : List ℕ) {l' : List ℕ} → length bytes ≡ k → a + k ≤ length l → l' ≡ take a l ++ bytes ++ drop (a + k) l
    → (take (a + k) l' ≡ take a l ++ bytes) × (length l' ≡ length l)
stored a k bytes l n h e =
    let b : length (take a l ++ bytes) ≡ a + k = length-append (take a l) bytes ∙ ap₂ ◌+◌ (length-take-le a l (omega arith)) n in (
      ap (take (a + k)) e ∙ take_at (take a l ++ bytes) (drop (a + k) l) (a + k) b,
      ap length e ∙ length-append (take a l ++ bytes) (drop (a + k) l) ∙ rw (b, length-drop) (omega arith),
    )

module _ (k : ℕ) (bytes : Entry → List ℕ) (each : (e : Entry) → length (bytes e) ≡ k) (entries : List Entry) where
  -- one entry more, of k bytes
  written-more : {m : ℕ} {e : Entry} (l : List ℕ) {l' : List ℕ} → At entries m e
      → take (k * m) l ≡ flat_map bytes (take m entries) → k * m + k ≤ length l
      → l' ≡ take (k * m) l ++ bytes e ++ drop (k * m + k) l
      → (take (k * (m + 1)) l' ≡ flat_map bytes (take (m + 1) entries)) × (length l' ≡ length l)
  unfolding flat_map
  written-more {m} {e} l {l'} at w h q =
      let s = stored (k * m) k (bytes e) l (each e) h q in
      let n : k * (m + 1) ≡ k * m + k = rw (add-one, mul-suc) in (
        ap (λ (x : ℕ). take x l') n ∙ s.0 ∙ ap (λ (x : List ℕ). x ++ bytes e) w
            ∙ ap (λ (x : List ℕ). flat_map bytes (take m entries) ++ x) (sym (append-nil (bytes e)))
            ∙ sym (flat_append bytes (take m entries) (e ∷ [])) ∙ ap (flat_map bytes) (sym at.more),
        s.1,
      )

entry_length : (e : Entry) → length (entry_bytes e) ≡ 3
unfolding big_bytes
entry_length e = refl

number-length : (e : Entry) → length (block_bytes e) ≡ 2
unfolding big_bytes
number-length e = refl

-- ---- the loop

module _ (ours theirs : Side) (certificate : List ℕ) (run : Run) (path : List ℕ) (start : ℕ) where
  abbrev v : View
  v = view_in ours theirs

  abbrev r : Ranks
  r = ranks_in certificate run

  -- The states of the path, and those that match it.
  abbrev given : List Entry
  given = given_in ours theirs certificate run path start

  abbrev matched : List Entry
  matched = matched_in ours theirs certificate run path start

  -- The loop stands beside state `place` of the path, at `state`, in the block `block`: so many states and block numbers are written.
  pub record Going (found numbers : List ℕ) (place state block count : ℕ) : Type 0 where
    pub standing : Standing v r path start place block state count
    pub found-are : take (3 * count) found ≡ flat_map entry_bytes (take count matched)
    pub numbers-are : take (2 * (place + 1)) numbers ≡ flat_map block_bytes (take (place + 1) given)
    pub found-long : length found ≡ 49152
    pub numbers-long : length numbers ≡ 512

  module _ (all : AllMet ours theirs certificate run) (from : StartsAt ours theirs path start) where
    whole : Matched v r (byte_at path 0) (drop 1 path) start
    whole = path-matched v r all.formed path from.path-is start all.ranks' all.met all.met' from.related

    pub path-some : 0 < length path
    path-some = (path-e v.own path from.path-is).0

    pub given-count : length given ≡ length path
    given-count = given-length whole ∙ omega (arith, length-drop 1 path, path-some)

    pub matched-few : length matched ≤ 16384
    matched-few =
        let h : suc (length (drop 1 path)) ≤ 256 = omega (arith, length-drop 1 path, path-some, from.few) in
        let k : suc (length (drop 1 path)) * v.other.states ≤ 256 * 64 = mul-le-mul h (states-few theirs) in
        omega (arith, matching-most whole)

    state-small : (s x : ℕ) → T (v.related s x) → x < 256
    state-small s x h = omega (arith, all.formed.there.related< x s h, states-few theirs)

    pub start_small : start < 256
    start_small = state-small (byte_at path 0) start from.related

    -- ---- at the start one state of each is written

    pub going_start : (found numbers : List ℕ) {found' numbers' : List ℕ} → length found ≡ 49152 → length numbers ≡ 512
        → found' ≡ take (3 * 0) found ++ entry_bytes (record { state = start; block = 0 }) ++ drop (3 * 0 + 3) found
        → numbers' ≡ take (2 * 0) numbers ++ big_bytes 2 0 ++ drop (2 * 0 + 2) numbers
        → Going found' numbers' 0 start 0 1
    unfolding flat_map
    going_start found numbers f n p q =
        let g = standing-start v r all.formed path from.path-is start all.ranks' all.met' from.related in
        let x = written-more 3 entry_bytes entry_length matched found g.2 refl (omega arith) p in
        let y = written-more 2 block_bytes number-length given numbers g.1 refl (omega arith) q in
        record { standing = g.0; found-are = x.0; numbers-are = y.0; found-long = x.1 ∙ f; numbers-long = y.1 ∙ n }

    -- ---- after each move

    module _ {found numbers : List ℕ} {place state block count : ℕ} (g : Going found numbers place state block count) where
      -- what the next move asks
      pub going-stands : {step : Option ℕ} → step ≡ some_below 256 (step_between ours (byte_at path place) (byte_at path (place + 1)))
          → StandsAt ours theirs path place state step
      going-stands e = record { path-is = from.path-is; inside = g.standing.inside; related = g.standing.related; step_is = e }

      -- It goes on into a new block, at x.
      pub record Entering (x : ℕ) : Type 0 where
        pub more : place + 1 < length path
        pub low : block < 256
        pub small : x < 256
        pub fewer : count < length matched
        pub entry-room : 3 * count + 3 ≤ length found
        pub number-room : 2 * (place + 1) + 2 ≤ length numbers
        pub next : {found' numbers' : List ℕ}
            → numbers' ≡ take (2 * (place + 1)) numbers ++ big_bytes 2 (block + 1) ++ drop (2 * (place + 1) + 2) numbers
            → found' ≡ take (3 * count) found ++ entry_bytes (record { state = x; block = block + 1 }) ++ drop (3 * count + 3) found
            → Going found' numbers' (place + 1) x (block + 1) (count + 1)

      -- The given path goes on inside the block.
      pub record Staying : Type 0 where
        pub more : place + 1 < length path
        pub number-room : 2 * (place + 1) + 2 ≤ length numbers
        pub next : {numbers' : List ℕ} → numbers' ≡ take (2 * (place + 1)) numbers ++ big_bytes 2 block ++ drop (2 * (place + 1) + 2) numbers
            → Going found numbers' (place + 1) state block count

      -- It goes on inside the block, to x, and the given path does not.
      pub record Pushing (x : ℕ) : Type 0 where
        pub small : x < 256
        pub fewer : count < length matched
        pub entry-room : 3 * count + 3 ≤ length found
        pub next : {found' : List ℕ}
            → found' ≡ take (3 * count) found ++ entry_bytes (record { state = x; block = block }) ++ drop (3 * count + 3) found
            → Going found' numbers place x block (count + 1)

      -- It has ended, and all is written.
      pub record Ending : Type 0 where
        pub count-is : count ≡ length matched
        pub few : count ≤ 16384
        pub found_all : take (3 * count) found ≡ flat_map entry_bytes matched
        pub numbers-all : take (2 * length path) numbers ≡ flat_map block_bytes given

      entry_has : {e : Entry} → At matched count e → 3 * count + 3 ≤ length found
      entry_has at = omega (arith, at.below, matched-few, g.found-long)

      number-has : {e : Entry} → At given (place + 1) e → 2 * (place + 1) + 2 ≤ length numbers
      number-has at = omega (arith, at.below, given-count, from.few, g.numbers-long)

      numbered : (n : ℕ) {numbers' : List ℕ} (at : At given (place + 1) (record { state = byte_at path (place + 1); block = n }))
          → numbers' ≡ take (2 * (place + 1)) numbers ++ big_bytes 2 n ++ drop (2 * (place + 1) + 2) numbers
          → (take (2 * (place + 1 + 1)) numbers' ≡ flat_map block_bytes (take (place + 1 + 1) given)) × (length numbers' ≡ length numbers)
      numbered n at p = written-more 2 block_bytes number-length given numbers at g.numbers-are (number-has at) p

      entering : {x : ℕ} → place + 1 < length path
          → Standing v r path start (place + 1) (block + 1) x (count + 1)
          × At given (place + 1) (record { state = byte_at path (place + 1); block = block + 1 })
          × At matched count (record { state = x; block = block + 1 })
          → Entering x
      entering {x} more q =
          record {
            more = more;
            low = omega (arith, g.standing.low, from.few);
            small = state-small _ x q.0.related;
            fewer = q.2.below;
            entry-room = entry_has q.2;
            number-room = number-has q.1;
            next = λ n p.
                let w = written-more 3 entry_bytes entry_length matched found q.2 g.found-are (entry_has q.2) p in
                let y = numbered (block + 1) q.1 n in
                record {
                  standing = q.0;
                  found-are = w.0;
                  numbers-are = y.0;
                  found-long = w.1 ∙ g.found-long;
                  numbers-long = y.1 ∙ g.numbers-long;
                };
          }

      staying : place + 1 < length path
          → Standing v r path start (place + 1) block state count × At given (place + 1) (record { state = byte_at path (place + 1); block = block })
          → Staying
      staying more q =
          record {
            more = more;
            number-room = number-has q.1;
            next = λ n.
                let y = numbered block q.1 n in
                record {
                  standing = q.0;
                  found-are = g.found-are;
                  numbers-are = y.0;
                  found-long = g.found-long;
                  numbers-long = y.1 ∙ g.numbers-long;
                };
          }

      pushing : {x : ℕ} → Standing v r path start place block x (count + 1) × At matched count (record { state = x; block = block }) → Pushing x
      pushing q =
          record {
            small = state-small _ _ q.0.related;
            fewer = q.1.below;
            entry-room = entry_has q.1;
            next = λ p.
                let w = written-more 3 entry_bytes entry_length matched found q.1 g.found-are (entry_has q.1) p in
                record {
                  standing = q.0;
                  found-are = w.0;
                  numbers-are = g.numbers-are;
                  found-long = w.1 ∙ g.found-long;
                  numbers-long = g.numbers-long;
                };
          }

      -- What a move leads to.
      abbrev pub After : Move → Type 0
      After (Enter x) = Entering x
      After Stay = Staying
      After (Push x) = Pushing x
      After End = Ending

      ending : (count ≡ length matched) × (place + 1 ≡ length given) → Ending
      ending q =
          let e : 2 * length path ≡ 2 * (place + 1) = ap (λ (x : ℕ). 2 * x) (sym (q.1 ∙ given-count)) in
          record {
            count-is = q.0;
            few = omega (arith, matched-few, q.0);
            found_all = g.found-are ∙ ap (flat_map entry_bytes) (take_all count matched (omega (arith, q.0)));
            numbers-all = ap (λ (x : ℕ). take x numbers) e ∙ g.numbers-are ∙ ap (flat_map block_bytes) (take_all (place + 1) given (omega (arith, q.1)));
          }

      -- the step to the next state is answered
      met-here : place + 1 < length path → Meets v r (step_of v.own (byte_at path place) (byte_at path (place + 1))) state
      met-here more =
          let q = standing-step v r all.formed path from.path-is start g.standing more in
          all.met _ state q.0 (rw q.1 g.standing.related)

      after-told : (m : Move) → Told v r path place state m → After m
      after-told (Enter x) h =
          rw h.2 (entering h.0 (standing-2a v r all.formed path from.path-is start g.standing h.0 h.1))
      after-told Stay h = staying h.0 (standing-2b v r all.formed path from.path-is start g.standing h.0 h.1 h.2)
      after-told (Push x) (inl h) =
          rw h.4 (pushing (standing-2c v r all.formed path from.path-is start g.standing h.0 h.1 h.2 h.3))
      after-told (Push x) (inr h) = rw h.3 (pushing (standing_on v r all.formed path from.path-is start g.standing h.0 h.1 h.2))
      after-told End (inl h) =
          absurd (⊎_elim (λ a. h.1 (is2a-i v _ state a)) (⊎_elim (λ b. h.2 (is2b-i v r _ state b)) (λ c. h.3 (is2c-i v r _ state c)))
          (met-here h.0))
      after-told End (inr h) = ending (standing-stop v r all.formed path from.path-is start g.standing h.0 h.1)

      -- the move that was read leads there
      pub going-after : {m : Move} (m' : Move) → m ≡ next_move v r path place state → m ≡ m' → After m'
      going-after m' e q = after-told m' (subst (Told v r path place state) (sym e ∙ q) (told v r path place state))
