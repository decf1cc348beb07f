-- Laws of what stands in a list, and of the numbers below a bound that pass a test: they rise, just these stand there, and how many they are.
-- Assumes nothing.
use Prim.Native.Nat.{ℕ, zero, suc, ◌+◌, ◌-◌, ◌≤◌, ◌<◌}
use mathlib.Core.Path.{◌≡◌, refl, sym, ap, ap₂, ◌∙◌, subst}
use mathlib.Core.Logic.{⊎_elim}
use mathlib.Core.Bool.{Bool, true, false, cond, ◌||◌, or-false}
use mathlib.Core.List.{List, [], ◌∷◌, ◌++◌, map, append_assoc, append-nil}
use native.Mathlib.Nat.{not-suc-le-zero, add-zero, add-suc}
use native.Mathlib.Numerals.{add-one}
use native.Mathlib.Omega.{arith}
use native.Mathlib.Decide.{dec_lt}
use lib.Dec.{T, eqb, eqb→eq, eqb_refl}
use lib.ListN.{length, get_or, length-append, get_or-append}
use lib.Seq.{get_or_at}
use Rattle.lists.specs.Below.{any_below, sum_below, count_below}
use Rattle.lists.specs.Lists.{stands_in, StandsIn, kept_below}
use Rattle.lists.proofs.BoolLaws.{T-dec, T_true, not-T-false, eq→eqb}
use Rattle.lists.proofs.BelowLaws.{any-e, any-i, any-more, any-start, sum_more, count-cong, count_less}
use Rattle.lists.proofs.JoinLaws.{map-append, map-when}
use Rattle.lists.proofs.RisingLaws.{Rise}

-- ---- what stands in a list

pub stands-e : (l : List ℕ) (x : ℕ) → T (stands_in l x) → StandsIn l x
unfolding stands_in
stands-e l x h = let p = any-e (length l) (λ i. eqb (get_or l i 0) x) h in (p.0, p.1, eqb→eq (get_or l p.0 0) x p.2)

pub stands-i : (l : List ℕ) (x : ℕ) → StandsIn l x → T (stands_in l x)
unfolding stands_in
stands-i l x p = any-i (length l) (λ i. eqb (get_or l i 0) x) p.0 p.1 (eq→eqb (get_or l p.0 0) x p.2)

-- ---- one number more

pub kept_more : (n : ℕ) (f : ℕ → Bool) → kept_below (n + 1) f ≡ kept_below n f ++ cond (f n) (n ∷ []) []
unfolding kept_below
kept_more n f = rw add-one

pub kept-hit : (n : ℕ) (f : ℕ → Bool) → f n ≡ true → kept_below (n + 1) f ≡ kept_below n f ++ (n ∷ [])
kept-hit n f h = kept_more n f ∙ ap (λ (b : Bool). kept_below n f ++ cond b (n ∷ []) []) h

kept-miss : (n : ℕ) (f : ℕ → Bool) → f n ≡ false → kept_below (suc n) f ≡ kept_below n f
unfolding kept_below
kept-miss n f h = ap (λ (b : Bool). kept_below n f ++ cond b (n ∷ []) []) h ∙ append-nil (kept_below n f)

-- none is kept from a on
pub kept-skip : (a b : ℕ) (f : ℕ → Bool) → a ≤ b → ((i : ℕ) → a ≤ i → i < b → f i ≡ false) → kept_below b f ≡ kept_below a f
kept-skip a zero f l h = ap (λ (n : ℕ). kept_below n f) (omega arith)
kept-skip a (suc b) f l h = elim (dec_lt a (suc b)) [
  | yes q ↦ kept-miss b f (h b (omega arith) (omega arith)) ∙ kept-skip a b f (omega arith) (λ i p r. h i p (omega arith))
  | no q ↦ ap (λ (n : ℕ). kept_below n f) (omega arith)
]

-- the numbers below a, then those from a on
pub kept-split : (a b : ℕ) (f : ℕ → Bool) → kept_below (a + b) f ≡ kept_below a f ++ map (λ i. a + i) (kept_below b (λ i. f (a + i)))
unfolding kept_below
kept-split a zero f = ap (λ (k : ℕ). kept_below k f) (add-zero a) ∙ sym (append-nil (kept_below a f))
kept-split a (suc b) f =
    let g : ℕ → Bool = λ i. f (a + i) in
    ap (λ (k : ℕ). kept_below k f) (add-suc a b)
    ∙ ap (λ (l : List ℕ). l ++ cond (g b) ((a + b) ∷ []) []) (kept-split a b f)
    ∙ append_assoc (kept_below a f) (map (λ i. a + i) (kept_below b g)) (cond (g b) ((a + b) ∷ []) [])
    ∙ ap (λ (l : List ℕ). kept_below a f ++ l)
    (ap (λ (l : List ℕ). map (λ i. a + i) (kept_below b g) ++ l) (sym (map-when (λ i. a + i) (g b) (b ∷ [])))
    ∙ sym (map-append (λ i. a + i) (kept_below b g) (cond (g b) (b ∷ []) [])))

pub kept-cong : (n : ℕ) (f g : ℕ → Bool) → ((i : ℕ) → i < n → f i ≡ g i) → kept_below n f ≡ kept_below n g
unfolding kept_below
kept-cong zero f g h = refl
kept-cong (suc n) f g h =
    ap₂ (λ (l : List ℕ) (b : Bool). l ++ cond b (n ∷ []) []) (kept-cong n f g (λ i l. h i (omega arith))) (h n (omega arith))

-- ---- how many they are

length-when : (b : Bool) (n : ℕ) → length (cond b (n ∷ []) []) ≡ cond b 1 0
length-when true n = refl
length-when false n = refl

pub kept-length : (n : ℕ) (f : ℕ → Bool) → length (kept_below n f) ≡ count_below n f
unfolding count_below kept_below sum_below
kept-length zero f = refl
kept-length (suc n) f =
    length-append (kept_below n f) (cond (f n) (n ∷ []) []) ∙ ap₂ ◌+◌ (kept-length n f) (length-when (f n) n)
    ∙ sym (sum_more n (λ i. cond (f i) 1 0)) ∙ ap (λ (k : ℕ). sum_below k (λ i. cond (f i) 1 0)) (add-one n)

-- below a greater bound they are not fewer
pub kept-upto : (a b : ℕ) (f : ℕ → Bool) → a ≤ b → length (kept_below a f) ≤ length (kept_below b f)
kept-upto a b f l =
    let k = b - a in
    let e : a + k ≡ b = omega arith in
    let n = ap (λ (x : ℕ). length (kept_below x f)) (sym e) ∙ ap length (kept-split a k f) ∙ length-append (kept_below a f) _ in
    omega arith

-- ---- which they are

-- what holds of the list with one number more, where that passes and where it does not
kept_step : (P : List ℕ → Type 0) (n : ℕ) (f : ℕ → Bool) → (T (f n) → P (kept_below n f ++ (n ∷ []))) → ((T (f n) → ⊥) → P (kept_below n f))
    → P (kept_below (suc n) f)
unfolding kept_below
kept_step P n f hit miss =
    ⊎_elim
    (λ h. subst P (ap (λ (b : Bool). kept_below n f ++ cond b (n ∷ []) []) (sym (T_true (f n) h))) (hit h))
    (λ h. subst P (sym (kept-miss n f (not-T-false (f n) h))) (miss h))
    (T-dec (f n))

-- a list that is one longer: those before the last, and the last
module _ (l : List ℕ) (n : ℕ) where
  before_last : (i : ℕ) → i < length l → get_or (l ++ (n ∷ [])) i 0 ≡ get_or l i 0
  before_last i h = get_or-append l (n ∷ []) 0 i h

  last-is : (i : ℕ) → i ≡ length l → get_or (l ++ (n ∷ [])) i 0 ≡ n
  last-is i e = get_or_at l n [] 0 i (sym e)

  -- what holds of each of them
  each_last : (P : ℕ → Type 0) → P n → ((i : ℕ) → i < length l → P (get_or l i 0)) → (i : ℕ) → i < length (l ++ (n ∷ [])) → P (get_or (l ++ (n ∷ [])) i 0)
  each_last P last each i h =
      let e = length-append l (n ∷ []) in
      elim (dec_lt i (length l)) [
        | yes q ↦ rw (before_last i q) (each i q)
        | no q ↦ rw (last-is i (omega arith)) last
      ]

  rise-last : Rise (λ i. get_or l i 0) (length l) → ((i : ℕ) → i < length l → get_or l i 0 < n)
      → Rise (λ i. get_or (l ++ (n ∷ [])) i 0) (length (l ++ (n ∷ [])))
  rise-last rise below i j a h =
      let e = length-append l (n ∷ []) in
      elim (dec_lt j (length l)) [
        | yes q ↦ rw (before_last i (omega arith), before_last j q) (rise i j a q)
        | no q ↦ rw (before_last i (omega arith), last-is j (omega arith)) (below i (omega arith))
      ]

  stands-before : (x : ℕ) → StandsIn l x → StandsIn (l ++ (n ∷ [])) x
  stands-before x (i, h, e) = let k = length-append l (n ∷ []) in (i, omega arith, before_last i h ∙ e)

  stands-last : StandsIn (l ++ (n ∷ [])) n
  stands-last = let k = length-append l (n ∷ []) in (length l, omega arith, last-is (length l) refl)

-- each is below the bound and passes the test
abbrev Kept : ℕ → (ℕ → Bool) → ℕ → Type 0
Kept n f x = (x < n) × T (f x)

pub kept_at : (n : ℕ) (f : ℕ → Bool) (i : ℕ) → i < length (kept_below n f) → (get_or (kept_below n f) i 0 < n) × T (f (get_or (kept_below n f) i 0))
unfolding kept_below
kept_at zero f = λ i l. absurd (not-suc-le-zero l)
kept_at (suc n) f =
    let more : (i : ℕ) → i < length (kept_below n f) → Kept (suc n) f (get_or (kept_below n f) i 0) = λ i l. let p = kept_at n f i l in (omega arith, p.1) in
    kept_step (λ k. (i : ℕ) → i < length k → Kept (suc n) f (get_or k i 0)) n f
    (λ h. each_last (kept_below n f) n (Kept (suc n) f) (omega arith, h) more) (λ h. more)

-- they rise
pub kept-rise : (n : ℕ) (f : ℕ → Bool) → Rise (λ i. get_or (kept_below n f) i 0) (length (kept_below n f))
unfolding kept_below
kept-rise zero f = λ i j a l. absurd (not-suc-le-zero l)
kept-rise (suc n) f =
    let rise = kept-rise n f in
    kept_step (λ k. Rise (λ i. get_or k i 0) (length k)) n f (λ h. rise-last (kept_below n f) n rise (λ i l. (kept_at n f i l).0)) (λ h. rise)

-- each number below the bound that passes stands there
pub kept_in : (n : ℕ) (f : ℕ → Bool) (x : ℕ) → x < n → T (f x) → StandsIn (kept_below n f) x
kept_in zero f x l h = absurd (not-suc-le-zero l)
kept_in (suc n) f x l h = elim (dec_lt x n) [
  | yes q ↦ let r = kept_in n f x q h in kept_step (λ k. StandsIn k x) n f (λ p. stands-before (kept_below n f) n x r) (λ p. r)
  | no q ↦
      let e : n ≡ x = omega arith in
      kept_step (λ k. StandsIn k x) n f (λ p. subst (StandsIn (kept_below n f ++ (n ∷ []))) e (stands-last (kept_below n f) n))
      (λ p. absurd (p (rw e h)))
]

-- ---- different numbers below the bound are as many as are kept of them

count_none : (n : ℕ) → count_below n (λ x. false) ≡ 0
unfolding count_below sum_below
count_none zero = refl
count_none (suc n) = omega (arith, count_none n)

module _ (x : ℕ → ℕ) (n : ℕ) where
  -- Whether one of the first m numbers is y.
  abbrev among : ℕ → ℕ → Bool
  among m y = any_below m (λ i. eqb (x i) y)

  pub different-count : (m : ℕ) → ((j : ℕ) → j < m → x j < n) → ((i j : ℕ) → i < j → j < m → x i ≡ x j → ⊥) → count_below n (among m) ≡ m
  different-count zero small once = count-cong n (among 0) (λ y. false) (λ y l. any-start (λ i. eqb (x i) y)) ∙ count_none n
  different-count (suc m) small once =
      let before = different-count m (λ j l. small j (omega arith)) (λ i j a l. once i j a (omega arith)) in
      let more : (y : ℕ) → among (m + 1) y ≡ (among m y || eqb (x m) y) = λ y. any-more m (λ i. eqb (x i) y) in
      let new : among m (x m) ≡ false =
      not-T-false (among m (x m)) (λ h. let p = any-e m (λ i. eqb (x i) (x m)) h in once p.0 m p.1 (omega arith) (eqb→eq (x p.0) (x m) p.2)) in
      let now : among (m + 1) (x m) ≡ true =
      T_true (among (m + 1) (x m)) (any-i (m + 1) (λ i. eqb (x i) (x m)) m (omega arith) (eqb_refl (x m))) in
      let others : (y : ℕ) → (y ≡ x m → ⊥) → among m y ≡ among (m + 1) y =
      λ y d. sym (more y ∙ ap (λ (b : Bool). among m y || b) (not-T-false (eqb (x m) y) (λ h. d (sym (eqb→eq (x m) y h)))) ∙ or-false (among m y)) in
      let one = count_less n (among m) (among (m + 1)) (x m) (small m (omega arith)) new now others in
      ap (λ (k : ℕ). count_below n (among k)) (sym (add-one m)) ∙ omega arith
