-- What is written in the follower's outputs is read back: states and block numbers in parts of three bytes, block numbers in parts of two; and the blocks
-- are those that their numbers tell. Assumes nothing.
use Prim.Native.Nat.{ℕ, zero, suc, ◌+◌, ◌*◌, ◌<◌}
use mathlib.Core.Path.{◌≡◌, refl, ap, ap₂, ◌∙◌, subst}
use mathlib.Core.Logic.{◌≢◌}
use mathlib.Core.Bool.{Bool, true, false, cond}
use mathlib.Core.List.{List, [], ◌∷◌, ◌++◌, map, flatten, flat_map, append-nil, nil≢cons}
use native.Mathlib.Omega.{arith}
use borrow.Author.Tests.{eq-eqb, ne_eqb}
use lib.Dec.{eqb}
use lib.ListN.{length, get_or, length-map, get_or-map}
use Rattle.lists.specs.Lists.{All, join_below}
use Rattle.lists.specs.Numbers.{byte_at, big_endian, big_bytes}
use Rattle.lists.proofs.JoinLaws.{join-cong, join-of}
use Rattle.lists.proofs.FlatLaws.{flat-at}
use Rattle.lists.proofs.NumberLaws.{flat-number, length-bytes, bytes_back}
use Rattle.bisimulation.specs.PathMatching.{Entry, in_block, numbered_from}
use Rattle.path_matcher.specs.Following.{entry_bytes, block_bytes}
use Rattle.demands.specs.Ask3.{entries_in, given_in, states_numbered, last_number, blocks_of, numbered}

-- ---- reading back

-- The block's number fits two bytes.
abbrev pub Fits : Entry → Type 0
Fits e = e.block < 65_536

abbrev none : Entry
none = record { state = 0; block = 0 }

each : (es : List Entry) → All Fits es → (i : ℕ) → Fits (get_or es i none)
each [] a i = omega arith
each (e ∷ es) a zero = a.0
each (e ∷ es) a (suc i) = each es a.1 i

pub entry_length : (e : Entry) → length (entry_bytes e) ≡ 3
entry_length e = ap suc (length-bytes 2 e.block)

pub block-length : (e : Entry) → length (block_bytes e) ≡ 2
block-length e = length-bytes 2 e.block

block_back : (e : Entry) → Fits e → big_endian (block_bytes e) 0 2 ≡ e.block
unfolding big_bytes
block_back e h = bytes_back 2 e.block [] h

entry-back : (e : Entry) → Fits e → big_endian (entry_bytes e) 1 2 ≡ e.block
unfolding big_endian
entry-back e h = block_back e h

pub entries-back : (es : List Entry) (l : List ℕ) → All Fits es → entries_in (flat_map entry_bytes es ++ l) (length es) ≡ es
unfolding entries_in
entries-back es l a =
    join-cong (length es) _ (λ i. get_or es i none ∷ []) (λ i h. ap₂ (λ (x y : ℕ). record { state = x; block = y } ∷ [])
    (ap (byte_at (flat_map entry_bytes es ++ l)) (omega arith) ∙ flat-at 3 entry_bytes entry_length none 0 es l i 0 h (omega arith))
    (flat-number 3 entry_bytes entry_length none es l i 1 2 h (omega arith) ∙ entry-back (get_or es i none) (each es a i)))
    ∙ join-of none es

pub given_back : (path : List ℕ) (es : List Entry) (l : List ℕ) → map (λ e. e.state) es ≡ path → All Fits es
    → given_in path (flat_map block_bytes es ++ l) ≡ es
unfolding given_in
given_back path es l e a =
    subst
    (λ (p : List ℕ). join_below (length p) (λ i. record { state = byte_at p i; block = big_endian (flat_map block_bytes es ++ l) (2 * i) 2 } ∷ []) ≡ es) e
    (rw (length-map es (λ (e : Entry). e.state))
    (join-cong (length es) _ (λ i. get_or es i none ∷ []) (λ i h. ap₂ (λ (x y : ℕ). record { state = x; block = y } ∷ [])
    (get_or-map (λ (e : Entry). e.state) es i none)
    (ap (λ (k : ℕ). big_endian (flat_map block_bytes es ++ l) k 2) (omega arith)
    ∙ flat-number 2 block_bytes block-length none es l i 0 2 h (omega arith) ∙ block_back (get_or es i none) (each es a i)))
    ∙ join-of none es))

-- ---- the states with a number

numbered-append : (n : ℕ) (xs ys : List Entry) → states_numbered n (xs ++ ys) ≡ states_numbered n xs ++ states_numbered n ys
unfolding states_numbered
numbered-append n [] ys = refl
numbered-append n (x ∷ xs) ys = go (eqb x.block n) (numbered-append n xs ys)
  where
    go : (b : Bool) → states_numbered n (xs ++ ys) ≡ states_numbered n xs ++ states_numbered n ys
        → cond b (x.state ∷ states_numbered n (xs ++ ys)) (states_numbered n (xs ++ ys))
        ≡ cond b (x.state ∷ states_numbered n xs) (states_numbered n xs) ++ states_numbered n ys
    go true e = ap (λ (l : List ℕ). x.state ∷ l) e
    go false e = e

-- none of a block with another number, and all of a block with this one
numbered-other : (n m : ℕ) (b : List ℕ) → (m ≡ n → ⊥) → states_numbered n (in_block m b) ≡ []
unfolding states_numbered
numbered-other n m [] h = refl
numbered-other n m (x ∷ b) h = rw (ne_eqb m n h) (numbered-other n m b h)

numbered-same : (n m : ℕ) (b : List ℕ) → m ≡ n → states_numbered n (in_block m b) ≡ b
unfolding states_numbered
numbered-same n m [] h = refl
numbered-same n m (x ∷ b) h = rw (eq-eqb m n h) (ap (λ (l : List ℕ). x ∷ l) (numbered-same n m b h))

numbered-before : (n m : ℕ) (bs : List (List ℕ)) → n < m → states_numbered n (numbered_from m bs) ≡ []
unfolding numbered_from states_numbered
numbered-before n m [] h = refl
numbered-before n m (b ∷ bs) h =
    numbered-append n (in_block m b) (numbered_from (suc m) bs)
    ∙ ap₂ ◌++◌ (numbered-other n m b (λ e. omega arith)) (numbered-before n (suc m) bs (omega arith))

numbered-block : (n m i : ℕ) (bs : List (List ℕ)) → n ≡ m + i → states_numbered n (numbered_from m bs) ≡ get_or bs i []
unfolding numbered_from states_numbered
numbered-block n m i [] e = refl
numbered-block n m zero (b ∷ bs) e =
    numbered-append n (in_block m b) (numbered_from (suc m) bs)
    ∙ ap₂ ◌++◌ (numbered-same n m b (omega arith)) (numbered-before n (suc m) bs (omega arith)) ∙ append-nil b
numbered-block n m (suc i) (b ∷ bs) e =
    numbered-append n (in_block m b) (numbered_from (suc m) bs)
    ∙ ap₂ ◌++◌ (numbered-other n m b (λ x. omega arith)) (numbered-block n (suc m) i bs (omega arith))

-- ---- the blocks that the numbers tell

-- before anything else, a block tells as much as any one of its states
last_block : (n k : ℕ) (l : List Entry) → ((x : ℕ) → last_number (numbered x n ∷ l) ≡ k)
    → (x : ℕ) (b : List ℕ) → last_number (in_block n (x ∷ b) ++ l) ≡ k
unfolding last_number
last_block n k l h x [] = h x
last_block n k l h x (y ∷ b) = last_block n k l h y b

-- each block counts one on
last-number : (n x : ℕ) (b : List ℕ) (bs : List (List ℕ)) → All (λ b. b ≢ []) bs → last_number (numbered_from n ((x ∷ b) ∷ bs)) ≡ n + length bs
unfolding numbered_from last_number
last-number n x b [] a = last_block n (n + 0) [] (λ x. omega arith) x b
last-number n x b ([] ∷ bs) a = absurd (a.0 refl)
last-number n x b ((y ∷ c) ∷ bs) a = last_block n (n + suc (length bs)) _ (λ x. last-number (suc n) y c bs a.1 ∙ omega arith) x b

-- there is a state, and no block is empty, so the last state is one of the last block
pub blocks-back : {s : ℕ} {p : List ℕ} (bs : List (List ℕ)) → flatten bs ≡ s ∷ p → All (λ b. b ≢ []) bs → blocks_of (numbered_from 0 bs) ≡ bs
unfolding flatten blocks_of
blocks-back [] e a = absurd (nil≢cons e)
blocks-back ([] ∷ bs) e a = absurd (a.0 refl)
blocks-back ((x ∷ b) ∷ bs) e a =
    let l : List (List ℕ) = (x ∷ b) ∷ bs in
    let n : suc (last_number (numbered_from 0 l)) ≡ length l = omega (arith, last-number 0 x b bs a.1) in
    rw n (join-cong (length l) _ _ (λ i h. ap (λ (b : List ℕ). b ∷ []) (numbered-block i 0 i l (omega arith))) ∙ join-of [] l)
