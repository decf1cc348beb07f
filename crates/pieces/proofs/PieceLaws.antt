-- How the input is cut says what document 01 says of it, and reading stops in time. The key idea: a length whose bytes are not all there counts as
-- less than it will be, so the bytes wanted so far never pass the end of the third piece; and where they are all there, every length is
-- whole, so nothing that follows changes them. Assumes nothing.
use Prim.Native.Nat.{ℕ, zero, suc, ◌+◌, ◌*◌, ◌-◌, ◌≤◌, ◌<◌, zero-le}
use mathlib.Core.Path.{◌≡◌, refl, ap, ap₂, ◌∙◌}
use mathlib.Core.Bool.{false, true≢false}
use mathlib.Core.List.{List, [], ◌++◌, append_assoc}
use native.Mathlib.Decide.{dec_lt}
use native.Mathlib.Nat.{le_refl, zero-add, add_assoc}
use native.Mathlib.Numerals.{add-one}
use native.Mathlib.Omega.{arith}
use lib.Dec.{T}
use lib.IntN.{ℤ, pos, negsuc, nat_abs}
use lib.ListN.{length, take, drop, length-append, length-drop, get_or-append}
use lib.Seq.{length-take-le, take-append-add, take-append-le, drop-append-le, take_at, drop_at, get_or-append-add, drop-append-add}
use lib.Signed.{le_z, non_neg}
use borrow.Author.Tests.{leb-false}
use Rattle.lists.specs.Lists.{part}
use Rattle.lists.specs.Numbers.{byte_at, big_endian, big_bytes}
use Rattle.lists.proofs.FillLaws.{get_or-past, part-past, part-rest}
use Rattle.lists.proofs.NumberLaws.{big-cong, big_lt, length-bytes, bytes_back}
use Rattle.pieces.specs.Pieces.{length_at, piece_start, piece_end, piece_of, wanted, missing_of, ReadCall, Reading, ReadOut, sent}
use Rattle.pieces.specs.Pieces.ReadCall.{call}
use Rattle.pieces.specs.Pieces.Reading.{nothing, more}
use Rattle.pieces.specs.Pieces.ReadOut.{whole, ended}

-- ---- where the lengths begin

pub length-at-more : (s : List ℕ) (i : ℕ) → length_at s (i + 1) ≡ length_at s i + 2 + big_endian s (length_at s i) 2
unfolding length_at
length-at-more s i = rw add-one

-- a piece and its length have at most 65,537 bytes
pub length-at-most : (s : List ℕ) → ((i : ℕ) → byte_at s i < 256) → (i : ℕ) → length_at s i ≤ i * 65537
unfolding length_at
length-at-most s h zero = le_refl 0
length-at-most s h (suc i) = let b = length-at-most s h i in let n : big_endian s (length_at s i) 2 < 65536 = big_lt s (length_at s i) h 2 in omega arith

-- three pieces and their lengths have at most 196,611 bytes
pub wanted-most : (s : List ℕ) → ((i : ℕ) → byte_at s i < 256) → wanted s ≤ 196611
unfolding wanted
wanted-most s h = length-at-most s h 3

-- each piece lies after the one before
pub length-at-rises : (s : List ℕ) (i k : ℕ) → length_at s i ≤ length_at s (k + i)
unfolding length_at
length-at-rises s i zero = rw zero-add (le_refl _)
length-at-rises s i (suc k) = let b = length-at-rises s i k in let e : suc k + i ≡ suc (k + i) = omega arith in rw e (omega arith)

-- ---- bytes that follow

-- where the lengths read so far are whole, what follows does not move them
pub length-at-stays : (s t : List ℕ) (i : ℕ) → length_at s i ≤ length s → length_at (s ++ t) i ≡ length_at s i
unfolding length_at
length-at-stays s t zero h = refl
length-at-stays s t (suc i) h =
    let e = length-at-stays s t i (omega arith) in
    ap (λ (a : ℕ). a + 2 + big_endian (s ++ t) a 2) e
    ∙ ap (λ (n : ℕ). length_at s i + 2 + n)
    (big-cong (s ++ t) s (length_at s i) (length_at s i) 2 (λ k l. get_or-append s t 0 (length_at s i + k) (omega arith)))

byte-rises : (s t : List ℕ) (i : ℕ) → byte_at s i ≤ byte_at (s ++ t) i
byte-rises s t i = elim (dec_lt i (length s)) [
  | yes h ↦ omega (arith, get_or-append s t 0 i h)
  | no h ↦ omega (arith, get_or-past s i (omega arith))
]

big-rises : (s t : List ℕ) (at k : ℕ) → big_endian s at k ≤ big_endian (s ++ t) at k
unfolding big_endian
big-rises s t at zero = le_refl 0
big-rises s t at (suc k) = let b = big-rises s t at k in let e = byte-rises s t (at + k) in omega arith

-- no length is past the end
big-past : (s : List ℕ) (at k : ℕ) → length s ≤ at → big_endian s at k ≡ 0
unfolding big_endian
big-past s at zero h = refl
big-past s at (suc k) h = let b = big-past s at k h in let e = get_or-past s (at + k) (omega arith) in omega arith

-- what follows moves no length to the front
pub length-at-grows : (s t : List ℕ) (i : ℕ) → length_at s i ≤ length_at (s ++ t) i
unfolding length_at
length-at-grows s t zero = le_refl 0
length-at-grows s t (suc i) = elim (dec_lt (length s) (length_at s i)) [
  | yes h ↦ let b = length-at-grows s t i in let z = big-past s (length_at s i) 2 (omega arith) in omega arith
  | no h ↦
      let e = length-at-stays s t i (omega arith) in
      let b = big-rises s t (length_at s i) 2 in
      rw e (omega arith)
]

-- ---- the document's words

-- a piece cut short is what is there
pub piece-cut-short : (s : List ℕ) (i : ℕ) → length s ≤ piece_end s i → piece_of s i ≡ drop (piece_start s i) s
unfolding piece_of
piece-cut-short s i h = part-rest s (piece_start s i) (piece_end s i) h

-- a missing or half length is an empty piece, and so are the pieces after it
pub piece-no-length : (s : List ℕ) (i : ℕ) → length s < piece_start s i → (k : ℕ) → piece_of s (k + i) ≡ []
unfolding piece_of piece_start
piece-no-length s i h k = let b = length-at-rises s i k in part-past s (length_at s (k + i) + 2) (piece_end s (k + i)) (omega arith)

-- a piece that is there is not changed by what follows
pub piece-stays : (s t : List ℕ) (i : ℕ) → piece_end s i ≤ length s → piece_of (s ++ t) i ≡ piece_of s i
unfolding piece_of piece_start piece_end length_at
piece-stays s t i h =
    let e = length-at-stays s t i (omega arith) in
    let f = length-at-stays s t (suc i) h in
    let a = length_at s i + 2 in
    let d : drop a (s ++ t) ≡ drop a s ++ t = drop-append-le a s t (omega arith) in
    let l : length_at s (suc i) - a ≤ length (drop a s) = rw length-drop (omega arith) in
    ap₂ (part (s ++ t)) (ap (λ (n : ℕ). n + 2) e) f ∙ ap (take (length_at s (suc i) - a)) d ∙ take-append-le (length_at s (suc i) - a) (drop a s) t l

-- ---- reading

-- what is wanted so far is wanted of the whole input, however it goes on
pub wanted-grows : (s t : List ℕ) → wanted s ≤ wanted (s ++ t)
unfolding wanted
wanted-grows s t = length-at-grows s t 3

-- a call puts at most as many bytes as it is lent places
call-within : {n k : ℕ} {t : List ℕ} → ReadCall n (pos k) t → k ≤ n
call-within (call h l) = h

-- after it as many places hold something as were lent
call_length : {n : ℕ} {r : ℤ} {t : List ℕ} → ReadCall n r t → length t ≡ n
call_length (call h l) = l

reading-wanted : {s : List ℕ} → Reading s → length s ≤ wanted s
unfolding missing_of
reading-wanted nothing = zero-le
reading-wanted (more s t k r a) =
    let w = call-within a in
    let e = length-take-le k t (let l = call_length a in omega arith) in
    let b = wanted-grows s (take k t) in
    let h = reading-wanted r in
    rw length-append (omega arith)

-- no byte past the third piece is read, however the input goes on
pub reading-within : {s : List ℕ} → Reading s → (t : List ℕ) → length s ≤ wanted (s ++ t)
reading-within {s} r t = let b = wanted-grows s t in let a = reading-wanted r in omega arith

-- and no more is asked for than is still missing, however the input goes on
pub asked-within : {s : List ℕ} → Reading s → (t : List ℕ) → length s + missing_of s ≤ wanted (s ++ t)
unfolding missing_of
asked-within {s} r t = let b = wanted-grows s t in let a = reading-wanted r in omega arith

-- a call that answered more than 0 answered how many bytes it put: some, and no more than it was lent places
pub record Came (n : ℕ) (r : ℤ) (t : List ℕ) : Type 0 where
  pub call : ReadCall n (pos (nat_abs r)) t
  pub not_negative : T (non_neg r)
  pub some : 0 < nat_abs r
  pub within : nat_abs r ≤ n

pub call-came : {n : ℕ} {r : ℤ} {t : List ℕ} → ReadCall n r t → le_z r (pos 0) ≡ false → Came n r t
call-came {r = pos k} a e = record { call = a; not_negative = tt; some = leb-false k 0 e; within = call-within a }
call-came {r = negsuc k} a e = absurd (true≢false e)

-- one call of `read`: what it put follows what had been read, in a list where both have their places
pub reading-more : {s t : List ℕ} {r : ℕ} (n : ℕ) (later : List ℕ)
    → length s ≡ n → Reading s → ReadCall (missing_of s) (pos r) t → Reading (take (n + r) (s ++ (t ++ later)))
reading-more {s} {t} {r} n later e w a =
    let h = call-within a in
    let l = call_length a in
    rw (← e, take-append-add, take-append-le r t later (omega arith)) (more s t r w a)

-- where reading stops, what was read is what has been read call by call, so all that is said of a `Reading` holds of it
pub read-out-reading : {s : List ℕ} → ReadOut s → Reading s
read-out-reading (whole r h) = r
read-out-reading (ended r t w a h) = w

-- where nothing is missing any more, what was read is what the three pieces ask for, no more and no less, however the input goes on
pub reading-done : {s : List ℕ} → Reading s → missing_of s ≡ 0 → (t : List ℕ) → wanted (s ++ t) ≡ length s
unfolding missing_of wanted
reading-done {s} r h t = let e = length-at-stays s t 3 (omega arith) in let w = reading-within r [] in let n = reading-within r t in omega arith

-- and the pieces are those of the whole input
pub done-pieces : (s t : List ℕ) (i : ℕ) → missing_of s ≡ 0 → i < 3 → piece_of (s ++ t) i ≡ piece_of s i
unfolding missing_of wanted piece_end length_at
done-pieces s t i h l = piece-stays s t i (let b = length-at-rises s (suc i) (2 - i) in let e : 2 - i + suc i ≡ 3 = omega arith in omega (arith, rw e at b))

-- ---- three pieces, each after its length

length-sent : (a : List ℕ) → length (sent a) ≡ length a + 2
unfolding sent
length-sent a = length-append (big_bytes 2 (length a)) a ∙ ap (λ (n : ℕ). n + length a) (length-bytes 2 (length a)) ∙ omega arith

-- after a piece the next one's length begins
length-at-sent : (a s : List ℕ) → length a < 65536 → (i : ℕ) → length_at (sent a ++ s) (suc i) ≡ length (sent a) + length_at s i
unfolding length_at sent
length-at-sent a s h zero =
    let e = length-sent a in
    let n : big_endian ((big_bytes 2 (length a) ++ a) ++ s) 0 2 ≡ length a = rw append_assoc (bytes_back 2 (length a) (a ++ s) h) in
    omega arith
length-at-sent a s h (suc i) =
    let e = length-at-sent a s h i in
    let n : big_endian (sent a ++ s) (length (sent a) + length_at s i) 2 ≡ big_endian s (length_at s i) 2 =
    big-cong (sent a ++ s) s (length (sent a) + length_at s i) (length_at s i) 2
    (λ k l. rw add_assoc (get_or-append-add (sent a) s (length_at s i + k) 0)) in
    ap (λ (x : ℕ). x + 2 + big_endian (sent a ++ s) x 2) e ∙ omega arith

-- the first piece is the one sent first, and the others are those of what follows it
pub piece-sent-first : (a s : List ℕ) → length a < 65536 → piece_of (sent a ++ s) 0 ≡ a
unfolding piece_of piece_start piece_end length_at sent
piece-sent-first a s h =
    let front = big_bytes 2 (length a) in
    let l = length-sent a in
    let e : length_at ((front ++ a) ++ s) 1 ≡ length a + 2 = length-at-sent a s h 0 ∙ omega arith in
    let d : drop 2 ((front ++ a) ++ s) ≡ a ++ s = rw append_assoc (drop_at front (a ++ s) 2 (length-bytes 2 (length a))) in
    ap (part ((front ++ a) ++ s) 2) e ∙ ap (take (length a + 2 - 2)) d ∙ take_at a s (length a + 2 - 2) (omega arith)

pub piece-sent-next : (a s : List ℕ) → length a < 65536 → (i : ℕ) → piece_of (sent a ++ s) (suc i) ≡ piece_of s i
unfolding piece_of piece_start piece_end
piece-sent-next a s h i =
    let l = length (sent a) in
    let d : drop (l + length_at s i + 2) (sent a ++ s) ≡ drop (length_at s i + 2) s = rw add_assoc (drop-append-add (sent a) s (length_at s i + 2)) in
    ap₂ (part (sent a ++ s)) (ap (λ (n : ℕ). n + 2) (length-at-sent a s h i)) (length-at-sent a s h (suc i))
    ∙ ap₂ take (let n : l + length_at s (suc i) - (l + length_at s i + 2) ≡ length_at s (suc i) - (length_at s i + 2) = omega arith in n) d

-- Three pieces that are sent one after the other are the three pieces of the input, whatever follows.
pub record Received (a b c s : List ℕ) : Type 0 where
  pub left : piece_of s 0 ≡ a
  pub right : piece_of s 1 ≡ b
  pub certificate : piece_of s 2 ≡ c

pub sent-received : (a b c later : List ℕ) → length a < 65536 → length b < 65536 → length c < 65536 → Received a b c (sent a ++ (sent b ++ (sent c ++ later)))
sent-received a b c later ha hb hc =
    let s = sent c ++ later in
    record {
      left = piece-sent-first a (sent b ++ s) ha;
      right = piece-sent-next a (sent b ++ s) ha 0 ∙ piece-sent-first b s hb;
      certificate = piece-sent-next a (sent b ++ s) ha 1 ∙ piece-sent-next b s hb 0 ∙ piece-sent-first c later hc;
    }

-- Of such an input exactly the three pieces and their lengths are wanted.
pub sent-wanted : (a b c later : List ℕ) → length a < 65536 → length b < 65536 → length c < 65536
    → wanted (sent a ++ (sent b ++ (sent c ++ later))) ≡ length a + length b + length c + 6
unfolding wanted length_at
sent-wanted a b c later ha hb hc =
    let s = sent c ++ later in
    let x = length-at-sent a (sent b ++ s) ha 2 in
    let y = length-at-sent b s hb 1 in
    let z = length-at-sent c later hc 0 in
    let p = length-sent a in
    let q = length-sent b in
    let r = length-sent c in
    omega arith
