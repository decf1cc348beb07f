-- Laws of numbers in bytes: one byte more, how large they are, that what is written is read back, and loops that put numbers one after the other.
-- Assumes nothing.
use Prim.Native.Nat.{ℕ, zero, suc, ◌+◌, ◌*◌, ◌^◌, ◌/◌, ◌%◌, ◌≤◌, ◌<◌}
use mathlib.Core.Path.{◌≡◌, refl, sym, ap, ap₂, ◌∙◌}
use mathlib.Core.List.{List, [], ◌∷◌, ◌++◌, flat_map, append_assoc, append-nil}
use native.Mathlib.Nat.{pow-suc, pow-le-pow_right, lt_of_lt_of_le, zero-lt-suc, div-add-mod', div-lt_iff_lt-mul, add_assoc, zero-add}
use native.Mathlib.Numerals.{add-one}
use native.Mathlib.Omega.{arith}
use lib.Arith.{digits_lt, lt-one}
use lib.ListN.{length, take, drop, get_or, length-append, get_or-append}
use lib.Seq.{length-take-le, get_or_at, get_or-append-add}
use Rattle.lists.specs.Lists.{put_at}
use Rattle.lists.specs.Numbers.{byte_at, big_endian, big_bytes}
use Rattle.lists.proofs.FillLaws.{Front, get_or-past, front-from, front_at, front-put-at, put-at-fits}
use Rattle.lists.proofs.FlatLaws.{flat_append, flat-length, flat-at}

pub big-more : (s : List ℕ) (at i : ℕ) → big_endian s at (i + 1) ≡ big_endian s at i * 256 + byte_at s (at + i)
unfolding big_endian
big-more s at i = rw add-one

-- k bytes are below 256 to the k
pub big_lt : (s : List ℕ) (at : ℕ) → ((i : ℕ) → byte_at s i < 256) → (k : ℕ) → big_endian s at k < 256 ^ k
unfolding big_endian
big_lt s at h zero = zero-lt-suc 0
big_lt s at h (suc k) = rw pow-suc (digits_lt (big_lt s at h k) (h (at + k)))

-- at most 8 bytes fit 64 bits
pub big-fits : (s : List ℕ) (at k : ℕ) → ((i : ℕ) → byte_at s i < 256) → k ≤ 8 → big_endian s at k < 2 ^ 64
big-fits s at k h l = lt_of_lt_of_le (big_lt s at h k) (pow-le-pow_right (zero-lt-suc 255) l)

-- the number depends on its own bytes alone
pub big-cong : (s t : List ℕ) (a b : ℕ) (k : ℕ) → ((i : ℕ) → i < k → byte_at s (a + i) ≡ byte_at t (b + i)) → big_endian s a k ≡ big_endian t b k
unfolding big_endian
big-cong s t a b zero h = refl
big-cong s t a b (suc k) h = ap₂ (λ (x y : ℕ). x * 256 + y) (big-cong s t a b k (λ i l. h i (omega arith))) (h k (omega arith))

-- past the end stand zeros
pub big-past : (s : List ℕ) (at k : ℕ) → length s ≤ at → big_endian s at k ≡ 0
unfolding big_endian
big-past s at zero h = refl
big-past s at (suc k) h = rw (big-past s at k h, get_or-past s (at + k) (omega arith))

-- the number in m bytes of part i of equally long parts
pub flat-number : {A : Type 0} (k : ℕ) (g : A → List ℕ) → ((x : A) → length (g x) ≡ k) → (a : A) (xs : List A) (l : List ℕ) (i o m : ℕ)
    → i < length xs → o + m ≤ k → big_endian (flat_map g xs ++ l) (k * i + o) m ≡ big_endian (g (get_or xs i a)) o m
flat-number k g long a xs l i o m h b =
    big-cong (flat_map g xs ++ l) (g (get_or xs i a)) (k * i + o) o m (λ j n. rw add_assoc (flat-at k g long a 0 xs l i (o + j) h (omega arith)))

pub length-bytes : (k x : ℕ) → length (big_bytes k x) ≡ k
unfolding big_bytes
length-bytes zero x = refl
length-bytes (suc k) x = length-append (big_bytes k (x / 256)) _ ∙ ap (λ (n : ℕ). n + 1) (length-bytes k (x / 256)) ∙ add-one k

-- the bytes of a number read back, with whatever stands after them
pub bytes_back : (k x : ℕ) (l : List ℕ) → x < 256 ^ k → big_endian (big_bytes k x ++ l) 0 k ≡ x
unfolding big_endian big_bytes
bytes_back k x l h =
    big-cong (big_bytes k x ++ l) (big_bytes k x) 0 0 k (λ i b. get_or-append (big_bytes k x) l 0 (0 + i) (rw (length-bytes k x) (omega arith)))
    ∙ alone k x h
  where
    alone : (k x : ℕ) → x < 256 ^ k → big_endian (big_bytes k x) 0 k ≡ x
    alone zero x h = sym (lt-one h)
    alone (suc k) x h =
        ap₂ (λ (a b : ℕ). a * 256 + b)
        (big-cong (big_bytes k (x / 256) ++ (x % 256 ∷ [])) (big_bytes k (x / 256)) 0 0 k
        (λ i b. get_or-append (big_bytes k (x / 256)) _ 0 (0 + i) (rw (length-bytes k (x / 256)) (omega arith)))
        ∙ alone k (x / 256) ((div-lt_iff_lt-mul (zero-lt-suc 255)).1 (rw pow-suc at h)))
        (get_or_at (big_bytes k (x / 256)) (x % 256) [] 0 (0 + k) (length-bytes k (x / 256) ∙ omega arith))
        ∙ div-add-mod' x 256

-- a number that is put over some bytes is read back from there
pub put_back : (at k x : ℕ) (l : List ℕ) → at + k ≤ length l → x < 256 ^ k → big_endian (put_at at (big_bytes k x) l) at k ≡ x
put_back at k x l h b =
    let rest = drop (at + length (big_bytes k x)) l in
    let front : length (take at l) ≡ at = length-take-le at l (omega arith) in
    let whole : put_at at (big_bytes k x) l ≡ take at l ++ (big_bytes k x ++ rest) =
    put-at-fits at (big_bytes k x) l (rw (length-bytes k x) h) ∙ append_assoc (take at l) (big_bytes k x) rest in
    big-cong (put_at at (big_bytes k x) l) (big_bytes k x ++ rest) at 0 k
    (λ i c. rw (whole, zero-add) (ap (λ (n : ℕ). byte_at (take at l ++ (big_bytes k x ++ rest)) (n + i)) (sym front)
    ∙ get_or-append-add (take at l) (big_bytes k x ++ rest) i 0))
    ∙ bytes_back k x rest b

-- put where a front ends, it makes the front longer by k bytes
pub front-number : {p d l l' : List ℕ} {a : ℕ} (k x : ℕ) → Front p d l a → l' ≡ put_at a (big_bytes k x) l → a + k ≤ length d
    → Front (p ++ big_bytes k x) d l' (a + k)
front-number k x w q h = front_at k (big_bytes k x) w q (length-bytes k x) h

-- ---- a loop that puts numbers, k bytes each, over d from `at` on: after xs, up to `place`, the list is l

pub record Numbers (k : ℕ) (xs d l : List ℕ) (at place : ℕ) : Type 0 where
  pub front : Front (take at d ++ flat_map (big_bytes k) xs) d l place
  pub inside : at ≤ length d

pub numbers-none : (k : ℕ) (d : List ℕ) (at : ℕ) → at ≤ length d → Numbers k [] d d at at
unfolding flat_map
numbers-none k d at h = record { front = rw (append-nil (take at d)) (front-from d at h); inside = h }

module _ {k : ℕ} {xs d l : List ℕ} {at place : ℕ} (w : Numbers k xs d l at place) where
  pub numbers-place : place ≡ at + k * length xs
  numbers-place =
      sym w.front.front ∙ length-append (take at d) (flat_map (big_bytes k) xs)
      ∙ ap₂ ◌+◌ (length-take-le at d w.inside) (flat-length k (big_bytes k) (length-bytes k) xs)

  -- more of them are put where these end
  pub numbers-join : {e : ℕ} {l' : List ℕ} (ys : List ℕ) → l' ≡ put_at place (flat_map (big_bytes k) ys) l → e ≡ place + k * length ys → e ≤ length d
      → Numbers k (xs ++ ys) d l' at e
  numbers-join {e} {l'} ys q n room =
      let bytes = flat_map (big_bytes k) ys in
      let more : Front (take at d ++ flat_map (big_bytes k) xs ++ bytes) d l' (place + k * length ys) =
      front_at (k * length ys) bytes w.front q (flat-length k (big_bytes k) (length-bytes k) ys) (omega arith) in
      record {
        front = rw (n, flat_append (big_bytes k) xs ys, ← append_assoc (take at d) (flat_map (big_bytes k) xs) bytes) more;
        inside = w.inside;
      }

  -- one more
  pub numbers_more : (x : ℕ) → place + k ≤ length d → Numbers k (xs ++ (x ∷ [])) d (put_at place (big_bytes k x) l) at (place + k)
  unfolding flat_map
  numbers_more x room =
      numbers-join (x ∷ []) (ap (λ (r : List ℕ). put_at place r l) (sym (append-nil (big_bytes k x)))) (omega arith) room

  -- they are put
  pub numbers-put : l ≡ put_at at (flat_map (big_bytes k) xs) d
  numbers-put = front-put-at at (flat_map (big_bytes k) xs) w.inside w.front

  pub numbers-length : length l ≡ length d
  numbers-length = w.front.len
