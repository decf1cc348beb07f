-- Laws of lists filled by index, and of loops that fill a list: by index (`Filled`), part after part (`Front`) and row after row (`Rows`). Each loop has a
-- law for its start, for one turn and for its end. Assumes nothing.
use mathlib.Core.Path.{◌≡◌, refl, sym, ap, ap₂, ◌∙◌, subst}
use mathlib.Core.List.{List, [], ◌∷◌, ◌++◌, append_assoc, append-nil}
use mathlib.Core.Logic.{⊎_elim}
use Prim.Native.Nat.{ℕ, zero, suc, ◌+◌, ◌*◌, ◌-◌, ◌/◌, ◌%◌, ◌<◌, ◌≤◌, zero-le}
use native.Mathlib.Nat.{not-suc-le-zero, le_of_suc-le-suc, eq-or-lt_of_le, zero-add}
use native.Mathlib.Nat.{mul-le-mul_right, suc-mul, zero-mul, div-add-mod', div-lt_iff_lt-mul, mod-lt}
use native.Mathlib.Numerals.{add-one}
use native.Mathlib.Omega.{arith}
use native.Mathlib.Decide.{ℕ_discrete, dec_le}
use lib.Arith.{digits_lt}
use lib.ListN.{
  length,
  take,
  drop,
  get_or,
  set,
  length-append,
  length-drop,
  length-set,
  take-append-drop,
  drop_of_length-le,
  get_or-append,
  get_or-eq_default,
}
use lib.Seq.{
  get_or-set_same,
  get_or-set_other,
  get_or_at,
  get_or-append-add,
  ext_get_or,
  set_at,
  drop-cons,
  length-take-le,
  take_at,
  drop_at,
  drop-drop,
  drop-length,
  take-nil,
  take_all,
  get_or-take,
  get_or-drop,
}
use borrow.Author.Tests.{le-leb, lt-leb}
use borrow.Rule.Slice.PartMut.{put_mid, mid_of, Post-is, mid_len}
use Rattle.lists.specs.Lists.{tabulate, grid, part, put_front, put_at}

-- ---- a list by index

pub length-tabulate : (n : ℕ) (f : ℕ → ℕ) → length (tabulate n f) ≡ n
unfolding tabulate
length-tabulate zero f = refl
length-tabulate (suc n) f = length-append (tabulate n f) (f n ∷ []) ∙ ap (λ (k : ℕ). k + 1) (length-tabulate n f) ∙ add-one n

pub tabulate-more : (n : ℕ) (f : ℕ → ℕ) → tabulate (n + 1) f ≡ tabulate n f ++ (f n ∷ [])
unfolding tabulate
tabulate-more n f = rw add-one

pub get_or-tabulate : (n i : ℕ) (f : ℕ → ℕ) → i < n → get_or (tabulate n f) i 0 ≡ f i
unfolding tabulate
get_or-tabulate zero i f h = absurd (not-suc-le-zero h)
get_or-tabulate (suc n) i f h =
    ⊎_elim
    (λ e. ap (λ (k : ℕ). get_or (tabulate n f ++ (f n ∷ [])) k 0) e ∙ get_or_at (tabulate n f) (f n) [] 0 n (length-tabulate n f) ∙ ap f (sym e))
    (λ l. get_or-append (tabulate n f) (f n ∷ []) 0 i (rw length-tabulate l) ∙ get_or-tabulate n i f l)
    (eq-or-lt_of_le (le_of_suc-le-suc h))

-- past the end stand zeros
pub get_or-past : (l : List ℕ) (i : ℕ) → length l ≤ i → get_or l i 0 ≡ 0
get_or-past l i h = get_or-eq_default l 0 {n = i} h

-- a list is the table of its elements
pub tabulate-of : (l : List ℕ) (n : ℕ) → n ≡ length l → tabulate n (λ (k : ℕ). get_or l k 0) ≡ l
tabulate-of l n e =
    ext_get_or 0 (tabulate n (λ (k : ℕ). get_or l k 0)) l (length-tabulate n (λ (k : ℕ). get_or l k 0) ∙ e)
    (λ i h. get_or-tabulate n i (λ (k : ℕ). get_or l k 0) (rw length-tabulate at h))

pub tabulate-cong : (n : ℕ) (f g : ℕ → ℕ) → ((s : ℕ) → s < n → f s ≡ g s) → tabulate n f ≡ tabulate n g
tabulate-cong n f g h =
    ext_get_or 0 (tabulate n f) (tabulate n g) (length-tabulate n f ∙ sym (length-tabulate n g))
    (λ i l. let k : i < n = rw length-tabulate at l in get_or-tabulate n i f k ∙ h i k ∙ sym (get_or-tabulate n i g k))

-- a store at i gives the table of a function that differs at i alone
pub tabulate-set : (n i v : ℕ) (f g : ℕ → ℕ) → i < n → v ≡ g i → ((s : ℕ) → s < n → (s ≡ i → ⊥) → f s ≡ g s) → set (tabulate n f) i v ≡ tabulate n g
tabulate-set n i v f g h e other =
    ext_get_or 0 (set (tabulate n f) i v) (tabulate n g) (length-set (tabulate n f) i v ∙ length-tabulate n f ∙ sym (length-tabulate n g))
    λ s l.
    let k : s < n = rw (length-set, length-tabulate) at l in
    elim (ℕ_discrete s i) [
      | yes q ↦
          ap (λ (x : ℕ). get_or (set (tabulate n f) i v) x 0) q
          ∙ get_or-set_same (tabulate n f) i v 0 (rw length-tabulate h)
          ∙ e ∙ ap g (sym q)
          ∙ sym (get_or-tabulate n s g k)
      | no q ↦ get_or-set_other (tabulate n f) i s v 0 q ∙ get_or-tabulate n s f k ∙ other s k q ∙ sym (get_or-tabulate n s g k)
    ]

-- ---- a loop that fills a list d from the front by a function f of the index: after n stores it is l

pub record Filled (n : ℕ) (f : ℕ → ℕ) (d l : List ℕ) : Type 0 where
  pub eq : l ≡ tabulate n f ++ drop n d
  pub le : n ≤ length d
  pub len : length l ≡ length d

pub filled_none : (f : ℕ → ℕ) (d : List ℕ) → Filled 0 f d d
unfolding tabulate
filled_none f d = record { eq = refl; le = zero-le; len = refl }

pub filled_more : {n : ℕ} {f : ℕ → ℕ} {d l : List ℕ} {v : ℕ} → Filled n f d l → n < length l → v ≡ f n → Filled (n + 1) f d (set l n v)
filled_more {n} {f} {d} {l} {v} w h q =
    record {
      eq = ap (λ (x : List ℕ). set x n v) w.eq ∙ ap (λ (y : ℕ). set (tabulate n f ++ drop n d) n y) q ∙ stored;
      le = omega arith;
      len = length-set l n v ∙ w.len;
    }
  where
    stored : set (tabulate n f ++ drop n d) n (f n) ≡ tabulate (n + 1) f ++ drop (n + 1) d
    stored =
        ap (λ (x : List ℕ). set (tabulate n f ++ x) n (f n)) (drop-cons d n 0 (omega arith))
        ∙ set_at (tabulate n f) (get_or d n 0) (drop (suc n) d) (f n) n (length-tabulate n f)
        ∙ rw (tabulate-more, append_assoc, add-one)

pub filled-all : {n : ℕ} {f : ℕ → ℕ} {d l : List ℕ} → Filled n f d l → length l ≤ n → l ≡ tabulate (length d) f
filled-all {n} {f} {d} {l} w h =
    let k : n ≡ length d = omega arith in
    w.eq ∙ ap (λ (k : ℕ). tabulate k f ++ drop k d) k ∙ ap (λ (x : List ℕ). tabulate (length d) f ++ x) (drop-length d) ∙ append-nil (tabulate (length d) f)

-- ---- a front p, up to a, written over d: the list is l

pub record Front (p d l : List ℕ) (a : ℕ) : Type 0 where
  pub eq : l ≡ p ++ drop a d
  pub front : length p ≡ a
  pub le : a ≤ length d
  pub len : length l ≡ length d

pub front-none : (d : List ℕ) → Front [] d d 0
front-none d = record { eq = refl; front = refl; le = zero-le; len = refl }

-- a part from a to e is lent, and comes back as r: the front is longer by r
pub front-part : {p d l ys : List ℕ} {a : ℕ} (e : ℕ) (r : List ℕ) → Front p d l a → a ≤ e → e ≤ length l → ys ≡ r → length r ≡ e - a
    → Front (p ++ r) d (put_mid a (e - a) l ys) e
front-part {p} {d} {l} {ys} {a} e r w k b q h =
    let i : take a l ≡ p = ap (take a) w.eq ∙ take_at p (drop a d) a w.front in
    let j : drop a l ≡ drop a d = ap (drop a) w.eq ∙ drop_at p (drop a d) a w.front in
    let g : put_mid a (e - a) l ys ≡ (p ++ r) ++ drop e d = rw (i, j, q, Post-is a e d k, append_assoc) in
    let n : length (p ++ r) ≡ e = length-append p r ∙ omega arith in
    record {
      eq = g;
      front = n;
      le = omega arith;
      len = ap length g ∙ length-append (p ++ r) (drop e d) ∙ rw (n, length-drop) (omega arith);
    }

-- everything is written
pub front-all : {p d l : List ℕ} {a : ℕ} → Front p d l a → length l ≤ a → l ≡ p
front-all {p} {d} {l} {a} w h =
    let k : length d ≤ a = omega arith in
    w.eq ∙ ap (λ (x : List ℕ). p ++ x) (drop_of_length-le d k) ∙ append-nil p

-- a list that has room takes what is put from a on, and one that has none stays
pub put-at-fits : (a : ℕ) (r d : List ℕ) → a + length r ≤ length d → put_at a r d ≡ take a d ++ r ++ drop (a + length r) d
unfolding put_at
put-at-fits a r d h = simp (le-leb (a + length r) (length d) h)

pub put-at-short : (a : ℕ) (r d : List ℕ) → length d < a + length r → put_at a r d ≡ d
unfolding put_at
put-at-short a r d h = simp (lt-leb (a + length r) (length d) h)

-- so it is with a front
pub put-front-fits : (p d : List ℕ) → length p ≤ length d → put_front p d ≡ p ++ drop (length p) d
unfolding put_front
put-front-fits p d h = put-at-fits 0 p d (rw zero-add h) ∙ ap (λ (k : ℕ). p ++ drop k d) (zero-add (length p))

pub put-front-short : (p d : List ℕ) → length d < length p → put_front p d ≡ d
unfolding put_front
put-front-short p d h = put-at-short 0 p d (rw zero-add h)

pub put-front-length : (p d : List ℕ) → length (put_front p d) ≡ length d
put-front-length p d = elim (dec_le (length p) (length d)) [
  | yes h ↦ ap length (put-front-fits p d h) ∙ length-append p (drop (length p) d) ∙ rw length-drop (omega arith)
  | no h ↦ ap length (put-front-short p d (omega arith))
]

-- all of the list is taken
pub put-front-whole : (p d : List ℕ) → length d ≡ length p → put_front p d ≡ p
put-front-whole p d e =
    let h : length d ≤ length p = omega arith in
    put-front-fits p d (omega arith) ∙ ap (λ (x : List ℕ). p ++ x) (drop_of_length-le d h) ∙ append-nil p

-- what stands before a is a front
pub front-from : (d : List ℕ) (a : ℕ) → a ≤ length d → Front (take a d) d d a
front-from d a h = record { eq = sym (take-append-drop a d); front = length-take-le a d h; le = h; len = refl }

-- put where a front ends, it makes the front longer
pub front_at : {p d l l' : List ℕ} {a : ℕ} (k : ℕ) (r : List ℕ) → Front p d l a → l' ≡ put_at a r l → length r ≡ k → a + k ≤ length d
    → Front (p ++ r) d l' (a + k)
front_at {p} {d} {l} {l'} {a} k r w q h b =
    let i : take a l ≡ p = ap (take a) w.eq ∙ take_at p (drop a d) a w.front in
    let j : drop (a + k) l ≡ drop (a + k) d =
    sym (drop-drop k a l) ∙ ap (drop k) (ap (drop a) w.eq ∙ drop_at p (drop a d) a w.front) ∙ drop-drop k a d in
    let g : l' ≡ (p ++ r) ++ drop (a + k) d = q ∙ put-at-fits a r l (omega arith) ∙ rw (h, i, j) in
    let n : length (p ++ r) ≡ a + k = length-append p r ∙ omega arith in
    record {
      eq = g;
      front = n;
      le = b;
      len = ap length g ∙ length-append (p ++ r) (drop (a + k) d) ∙ rw (n, length-drop) (omega arith);
    }

-- what is written after it from a on is put
pub front-put-at : {d l : List ℕ} {e : ℕ} (a : ℕ) (p : List ℕ) → a ≤ length d → Front (take a d ++ p) d l e → l ≡ put_at a p d
front-put-at {d} {l} {e} a p h w =
    let n : a + length p ≡ e = sym (length-append (take a d) p ∙ ap (λ (k : ℕ). k + length p) (length-take-le a d h)) ∙ w.front in
    w.eq ∙ ap (λ (k : ℕ). take a d ++ p ++ drop k d) (sym n) ∙ sym (put-at-fits a p d (omega arith))

-- a front that is written, part after part or by index, is put
pub front-put : {p d l : List ℕ} {a : ℕ} → Front p d l a → l ≡ put_front p d
front-put {p} {d} {l} {a} w = w.eq ∙ ap (λ (k : ℕ). p ++ drop k d) (sym w.front) ∙ sym (put-front-fits p d (omega arith))

pub filled_put : {n : ℕ} (p : List ℕ) {d l : List ℕ} → Filled n (λ (k : ℕ). get_or p k 0) d l → n ≡ length p → l ≡ put_front p d
filled_put {n} p {d} {l} w e =
    w.eq ∙ ap₂ ◌++◌ (tabulate-of p n e) (ap (λ (k : ℕ). drop k d) e) ∙ sym (put-front-fits p d (omega (arith, w.le)))

-- ---- rows of m

pub length-grid : (n m : ℕ) (f : ℕ → ℕ → ℕ) → length (grid n m f) ≡ n * m
unfolding grid
length-grid zero m f = sym (zero-mul m)
length-grid (suc n) m f = length-append (grid n m f) (tabulate m (f n)) ∙ rw (length-grid n m f, length-tabulate, suc-mul)

-- row s of n rows of m lies in them
pub row_fits : (s n m : ℕ) → s < n → s * m + m ≤ n * m
row_fits s n m h = rw suc-mul at (mul-le-mul_right m h)

-- a loop that fills d by rows of m, each lent as a part: after s rows, up to a, it is l
pub record Rows (s a m : ℕ) (f : ℕ → ℕ → ℕ) (d l : List ℕ) : Type 0 where
  pub rows : Front (grid s m f) d l a
  pub at : a ≡ s * m

pub rows_none : (m : ℕ) (f : ℕ → ℕ → ℕ) (d : List ℕ) → Rows 0 0 m f d d
unfolding grid
rows_none m f d = record { rows = front-none d; at = sym (zero-mul m) }

-- row s is lent and comes back filled, of n rows that have room
pub rows_more : {s a m : ℕ} {f : ℕ → ℕ → ℕ} {d l ys : List ℕ} (n : ℕ) → Rows s a m f d l → s < n → length d ≡ n * m
    → ys ≡ tabulate (length (mid_of a (a + m - a) l)) (f s) → Rows (s + 1) (a + m) m f d (put_mid a (a + m - a) l ys)
unfolding grid
rows_more {s} {a} {m} {f} {d} {l} {ys} n w h k q =
    let fits : s * m + m ≤ n * m = row_fits s n m h in
    let end : a + m ≤ length l = omega arith in
    let k : length (mid_of a (a + m - a) l) ≡ m = mid_len a (a + m) l end ∙ omega arith in
    let len : length (tabulate m (f s)) ≡ a + m - a = length-tabulate m (f s) ∙ omega arith in
    record {
      rows = rw add-one (front-part (a + m) (tabulate m (f s)) w.rows (omega arith) end (q ∙ ap (λ (x : ℕ). tabulate x (f s)) k) len);
      at = rw (add-one, suc-mul) (omega arith);
    }

pub rows_all : {s a m : ℕ} {f : ℕ → ℕ → ℕ} {d l : List ℕ} (n : ℕ) → Rows s a m f d l → s ≡ n → length d ≡ n * m → l ≡ grid n m f
rows_all {s} {a} {m} {f} {d} {l} n w e k =
    let q : a ≡ n * m = w.at ∙ ap (λ (x : ℕ). x * m) e in
    front-all w.rows (omega arith) ∙ ap (λ (x : ℕ). grid x m f) e

-- ---- the cells of rows of m: cell s, t stands at s * m + t

pub get_or-grid : (n m : ℕ) (f : ℕ → ℕ → ℕ) (s t : ℕ) → s < n → t < m → get_or (grid n m f) (s * m + t) 0 ≡ f s t
unfolding grid
get_or-grid zero m f s t h k = absurd (not-suc-le-zero h)
get_or-grid (suc n) m f s t h k =
    ⊎_elim
    (λ e. ap (λ (r : ℕ). get_or (grid n m f ++ tabulate m (f n)) (r * m + t) 0) e
    ∙ ap (λ (i : ℕ). get_or (grid n m f ++ tabulate m (f n)) (i + t) 0) (sym (length-grid n m f))
    ∙ get_or-append-add (grid n m f) (tabulate m (f n)) t 0 ∙ get_or-tabulate m t (f n) k ∙ ap (λ (r : ℕ). f r t) (sym e))
    (λ l. get_or-append (grid n m f) (tabulate m (f n)) 0 (s * m + t) (rw length-grid (digits_lt l k)) ∙ get_or-grid n m f s t l k)
    (eq-or-lt_of_le (le_of_suc-le-suc h))

-- a list that has the cells of a grid is the grid
pub grid-cells : (n m : ℕ) (f : ℕ → ℕ → ℕ) (l : List ℕ) → 0 < m → length l ≡ n * m → ((s t : ℕ) → s < n → t < m → get_or l (s * m + t) 0 ≡ f s t) → l ≡ grid n m f
grid-cells n m f l p e h =
    ext_get_or 0 l (grid n m f) (e ∙ sym (length-grid n m f))
    (λ i b.
    let q : i / m < n = (div-lt_iff_lt-mul p).1 (rw e at b) in
    let r : i % m < m = mod-lt i p in
    let z : i / m * m + i % m ≡ i = div-add-mod' i m in
    subst (λ (j : ℕ). get_or l j 0 ≡ get_or (grid n m f) j 0) z (h (i / m) (i % m) q r ∙ sym (get_or-grid n m f (i / m) (i % m) q r)))

-- ---- parts

pub part_length : (l : List ℕ) (a m : ℕ) → a + m ≤ length l → length (part l a (a + m)) ≡ m
part_length l a m h = mid_len a (a + m) l h ∙ omega arith

-- a part that begins past the end, or that ends where it begins, is empty, and one that ends past the end is the rest
pub part-past : (l : List ℕ) (a e : ℕ) → length l ≤ a → part l a e ≡ []
part-past l a e h = ap (take (e - a)) (drop_of_length-le l h) ∙ take-nil (e - a)

pub part_none : (l : List ℕ) (a e : ℕ) → e ≤ a → part l a e ≡ []
part_none l a e h = ap (λ (k : ℕ). take k (drop a l)) (let z : e - a ≡ 0 = omega arith in z)

pub part-rest : (l : List ℕ) (a e : ℕ) → length l ≤ e → part l a e ≡ drop a l
part-rest l a e h = take_all (e - a) (drop a l) (rw length-drop (omega arith))

-- a part from the start is a front
pub part-front : (l : List ℕ) (e : ℕ) → part l 0 e ≡ take e l
part-front l e = ap (λ (k : ℕ). take k l) (let z : e - 0 ≡ e = omega arith in z)

-- what stands in a part
pub get_or-part : (l : List ℕ) (a e i : ℕ) → a + i < e → get_or (part l a e) i 0 ≡ get_or l (a + i) 0
get_or-part l a e i h = get_or-take (e - a) (drop a l) i 0 (omega arith) ∙ get_or-drop a l i 0

-- what stands between two lists
pub part-between : (p q r : List ℕ) {a e : ℕ} → a ≡ length p → e ≡ a + length q → part (p ++ q ++ r) a e ≡ q
part-between p q r {a} {e} h k =
    let rest : drop a (p ++ q ++ r) ≡ q ++ r = ap (drop a) (append_assoc p q r) ∙ drop_at p (q ++ r) a (sym h) in
    ap (take (e - a)) rest ∙ take_at q r (e - a) (omega arith)
