-- How many obligations there are: the steps from s plus the steps from t over all related pairs, and at most m1 n2 + m2 n1. Assumes nothing.
use Prim.Native.Nat.{ℕ, zero, suc, ◌+◌, ◌*◌, ◌≤◌, zero-le}
use mathlib.Core.Path.{◌≡◌, refl, sym, ap, ◌∙◌}
use mathlib.Core.Bool.{Bool, true, false, cond}
use mathlib.Core.List.{List, [], ◌∷◌, ◌++◌, map}
use native.Mathlib.Nat.{mul-le-mul, le_refl, mul_comm, suc-mul, zero-mul, mul-zero, mul-add}
use native.Mathlib.Numerals.{add-one}
use native.Mathlib.Omega.{arith}
use native.Mathlib.Decide.{ℕ_discrete, dec_lt}
use lib.Dec.{eqb, ltb}
use lib.ListN.{length, length-append}
use borrow.Author.Tests.{lt-ltb, le-ltb, eq-eqb, ne_eqb}
use Rattle.lists.specs.Below.{sum_below, count_below}
use Rattle.lists.specs.Lists.{join_below}
use Rattle.lists.proofs.BelowLaws.{sum-cong, sum-le, sum_more}
use Rattle.bisimulation.specs.Systems.{System, View, steps_from}
use Rattle.obligations.specs.Judging.{Check, left_step, right_step, pair_checks, checks_by, checks, count_obligations, degree, obligations_of}

-- ---- the obligations of the list of checks

count-append : (xs ys : List Check) → count_obligations (xs ++ ys) ≡ count_obligations xs + count_obligations ys
unfolding count_obligations
count-append [] ys = omega arith
count-append (c ∷ cs) ys = let e = count-append cs ys in omega arith

count-join : (n : ℕ) (f : ℕ → List Check) → count_obligations (join_below n f) ≡ sum_below n (λ i. count_obligations (f i))
unfolding join_below sum_below count_obligations
count-join zero f = refl
count-join (suc n) f = count-append (f 0) _ ∙ ap (λ (k : ℕ). count_obligations (f 0) + k) (count-join n (λ i. f (suc i)))

count_left : (s t : ℕ) (js : List ℕ) → count_obligations (map (left_step s t) js) ≡ length js
unfolding count_obligations
count_left s t [] = refl
count_left s t (j ∷ js) = let e = count_left s t js in omega arith

count-right : (s t : ℕ) (js : List ℕ) → count_obligations (map (right_step s t) js) ≡ length js
unfolding count_obligations
count-right s t [] = refl
count-right s t (j ∷ js) = let e = count-right s t js in omega arith

length-join : (n : ℕ) (f : ℕ → List ℕ) → length (join_below n f) ≡ sum_below n (λ i. length (f i))
unfolding join_below sum_below
length-join zero f = refl
length-join (suc n) f = length-append (f 0) _ ∙ ap (λ (k : ℕ). length (f 0) + k) (length-join n (λ i. f (suc i)))

length-steps : (S : System) (s : ℕ) → length (steps_from S s) ≡ degree S s
unfolding steps_from degree count_below
length-steps S s = length-join S.steps _ ∙ sum-cong S.steps _ _ (λ j l. one (eqb (S.from j) s) j)
  where
    one : (b : Bool) (j : ℕ) → length (cond b (j ∷ []) []) ≡ cond b 1 0
    one true j = refl
    one false j = refl

count-pair : (v : View) (s t : ℕ) → count_obligations (pair_checks (steps_from v.own) (steps_from v.other) s t) ≡ degree v.own s + degree v.other t
unfolding pair_checks count_obligations
count-pair v s t =
    let a = count-append (map (left_step s t) (steps_from v.own s)) (map (right_step s t) (steps_from v.other t)) in
    let b = count_left s t (steps_from v.own s) ∙ length-steps v.own s in
    let c = count-right s t (steps_from v.other t) ∙ length-steps v.other t in
    omega arith

count-when : (b : Bool) (cs : List Check) {n : ℕ} → count_obligations cs ≡ n → count_obligations (cond b cs []) ≡ cond b n 0
unfolding count_obligations
count-when true cs e = e
count-when false cs e = refl

pub count-checks : (v : View) → count_obligations (checks v) ≡ obligations_of v
unfolding checks checks_by obligations_of
count-checks v =
    count-join v.own.states _
    ∙ sum-cong v.own.states _ _
    (λ s l. count-join v.other.states _ ∙ sum-cong v.other.states _ _
    (λ t k. count-when (v.related s t) (pair_checks (steps_from v.own) (steps_from v.other) s t) (count-pair v s t)))

-- ---- at most m1 n2 + m2 n1

sum-add : (n : ℕ) (f g : ℕ → ℕ) → sum_below n (λ i. f i + g i) ≡ sum_below n f + sum_below n g
unfolding sum_below
sum-add zero f g = refl
sum-add (suc n) f g = let e = sum-add n (λ i. f (suc i)) (λ i. g (suc i)) in omega arith

sum-const : (n a : ℕ) → sum_below n (λ i. a) ≡ n * a
unfolding sum_below
sum-const zero a = sym (zero-mul a)
sum-const (suc n) a = let e = sum-const n a in rw suc-mul (omega arith)

sum-scale : (n a : ℕ) (f : ℕ → ℕ) → sum_below n (λ i. a * f i) ≡ a * sum_below n f
unfolding sum_below
sum-scale zero a f = sym (mul-zero a)
sum-scale (suc n) a f = ap (λ (k : ℕ). a * f 0 + k) (sum-scale n a (λ i. f (suc i))) ∙ sym (mul-add a (f 0) (sum_below n (λ i. f (suc i))))

sum-none : (f : ℕ → ℕ) (k : ℕ) → sum_below 0 f ≤ k
unfolding sum_below
sum-none f k = zero-le

-- a number is met once at most
met-once : (n a : ℕ) → sum_below n (λ s. cond (eqb a s) 1 0) ≤ cond (ltb a n) 1 0
met-once zero a = sum-none (λ s. cond (eqb a s) 1 0) _
met-once (suc n) a = rw (← add-one, sum_more n (λ s. cond (eqb a s) 1 0)) (go (met-once n a))
  where
    go : sum_below n (λ s. cond (eqb a s) 1 0) ≤ cond (ltb a n) 1 0 → sum_below n (λ s. cond (eqb a s) 1 0) + cond (eqb a n) 1 0 ≤ cond (ltb a (n + 1)) 1 0
    go h = elim (ℕ_discrete a n) [
      | yes e ↦ (let q = rw (le-ltb a n (omega arith)) at h in rw (eq-eqb a n e, lt-ltb a (n + 1) (omega arith)) (omega arith))
      | no e ↦ elim (dec_lt a n) [
        | yes l ↦ (let q = rw (lt-ltb a n l) at h in rw (ne_eqb a n e, lt-ltb a (n + 1) (omega arith)) (omega arith))
        | no l ↦ (let q = rw (le-ltb a n (omega arith)) at h in rw (ne_eqb a n e, le-ltb a (n + 1) (omega arith)) (omega arith))
      ]
    ]

-- the steps from all states are at most all steps
degrees : (n m : ℕ) (f : ℕ → ℕ) → sum_below n (λ s. count_below m (λ j. eqb (f j) s)) ≤ m
unfolding count_below sum_below
degrees n zero f = let e = sum-const n 0 in let z = mul-zero n in omega arith
degrees n (suc m) f =
    let a = sum-add n (λ s. cond (eqb (f 0) s) 1 0) (λ s. count_below m (λ j. eqb (f (suc j)) s)) in
    let b = met-once n (f 0) in
    let c = most-one (ltb (f 0) n) in
    let d = degrees n m (λ j. f (suc j)) in
    omega arith
  where
    most-one : (b : Bool) → cond b 1 0 ≤ 1
    most-one true = le_refl 1
    most-one false = zero-le

degrees-most : (S : System) (n : ℕ) → sum_below n (degree S) ≤ S.steps
unfolding degree
degrees-most S n = degrees n S.steps S.from

-- of n states, one side's steps over n' states of the other
side-most : (S : System) (n n' : ℕ) → sum_below n (λ s. n' * degree S s) ≤ S.steps * n'
unfolding degree
side-most S n n' =
    let a = sum-scale n n' (degree S) in
    let b : n' * sum_below n (degree S) ≤ n' * S.steps = mul-le-mul (le_refl n') (degrees n S.steps S.from) in
    let c = mul_comm n' S.steps in
    omega arith

pub obligations-most : (v : View) → obligations_of v ≤ v.own.steps * v.other.states + v.other.steps * v.own.states
unfolding obligations_of
obligations-most v =
    let n = v.own.states in
    let n' = v.other.states in
    let d = degree v.own in
    let d' = degree v.other in
    let D : ℕ = sum_below n' d' in
    let row : (s : ℕ) → sum_below n' (λ t. d s + d' t) ≡ n' * d s + D = λ s. sum-add n' (λ t. d s) d' ∙ ap (λ (k : ℕ). k + D) (sum-const n' (d s)) in
    let a =
    sum-le n (λ s. sum_below n' (λ t. cond (v.related s t) (d s + d' t) 0)) (λ s. n' * d s + D)
    (λ s l.
    let q = sum-le n' (λ t. cond (v.related s t) (d s + d' t) 0) (λ t. d s + d' t) (λ t k. at_most (v.related s t) (d s + d' t)) in
    let r = row s in
    omega arith) in
    let b = sum-add n (λ s. n' * d s) (λ s. D) in
    let c = sum-const n D in
    let e = side-most v.own n n' in
    let f : n * D ≤ n * v.other.steps = mul-le-mul (le_refl n) (degrees-most v.other n') in
    let g = mul_comm n v.other.steps in
    omega arith
  where
    at_most : (b : Bool) (k : ℕ) → cond b k 0 ≤ k
    at_most true k = le_refl k
    at_most false k = zero-le
