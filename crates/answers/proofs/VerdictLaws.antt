-- Laws of verdicts: the first that refuses, along lists and over indices; verdicts that are decided by causes, so that a chain of tests in the order of
-- its causes is decided by their list; and the output after a verdict. Assumes nothing.
use Rattle.std.specs.Prelude.{Ok, Err}
use Prim.Native.Nat.{ℕ, zero, suc, ◌≤◌, ◌<◌, zero-le, suc-le-suc}
use mathlib.Core.Path.{◌≡◌, refl, sym, ap, ◌∙◌, subst}
use mathlib.Core.Logic.{inl, inr}
use mathlib.Core.Bool.{Bool, true, false, not, cond}
use mathlib.Core.List.{List, [], ◌∷◌, ◌++◌, map, flat_map, append-nil}
use native.Mathlib.Nat.{not-suc-le-zero, le_of_suc-le-suc}
use native.Mathlib.Omega.{arith}
use lib.Dec.{T, ltb, leb-suc-suc}
use lib.ListN.{length, drop}
use borrow.Author.Tests.{lt-ltb}
use Rattle.lists.specs.Lists.{All, join_below}
use Rattle.lists.specs.Below.{first_below}
use Rattle.lists.proofs.BelowLaws.{first_passes, first-least}
use Rattle.lists.proofs.FillLaws.{put-front-fits, put-front-length}
use Rattle.answers.specs.Numbers.{six_numbers}
use Rattle.answers.specs.Causes.{Cause, ◌gives◌, only, room_causes, FirstCause, NoCause, Answers}
use Rattle.answers.specs.Verdicts.{Verdict, ◌and_then◌, passed, pass_if, room_verdict, along, first_of, first_in, answer_of, output_after}
use Rattle.answers.specs.declared.Answer.{Answer}
use Rattle.answers.proofs.DecideLaws.{Decides, ltb-decides}
use Rattle.answers.proofs.CauseLaws.{none-append, none_first, first-left, first-right, only_none, only_out, only-first}

-- ---- one after the other

pub then-cong : {A B : Type 0} (v : Verdict A) {f g : A → Verdict B} → ((x : A) → f x ≡ g x) → (v and_then f) ≡ (v and_then g)
then-cong (Ok x) h = h x
then-cong (Err a) h = refl

-- a verdict that goes on went on before
pub then-on : {A B : Type 0} (v : Verdict A) {f : A → Verdict B} {y : B} → (v and_then f) ≡ Ok y → (x : A) × (v ≡ Ok x) × (f x ≡ Ok y)
then-on (Ok x) e = (x, refl, e)
then-on (Err a) e = absurd (let z : ◌≡◌ {A = ℕ} 0 1 = cc e in omega arith)

-- a chain may be cut anywhere
pub then-then : {A B C : Type 0} (v : Verdict A) (f : A → Verdict B) (g : B → Verdict C) → ((v and_then f) and_then g) ≡ (v and_then λ x. f x and_then g)
then-then (Ok x) f g = refl
then-then (Err a) f g = refl

pub along-map : {A B C : Type 0} (f : B → A → Verdict A) (g : C → B) (cs : List C) (x : A) → along f (map g cs) x ≡ along (λ c. f (g c)) cs x
unfolding along
along-map f g [] x = refl
along-map f g (c ∷ cs) x = then-cong (f (g c) x) (λ y. along-map f g cs y)

pub along-cong : {A C : Type 0} (f g : C → A → Verdict A) (cs : List C) → All (λ c. (x : A) → f c x ≡ g c x) cs → (x : A) → along f cs x ≡ along g cs x
unfolding along
along-cong f g [] h x = refl
along-cong f g (c ∷ cs) h x = ap (λ (v : Verdict _). v and_then along f cs) (h.0 x) ∙ then-cong (g c x) (λ y. along-cong f g cs h.1 y)

pub then_same : {A B : Type 0} {v w : Verdict A} {x y : Verdict B} → v ≡ w → x ≡ y → (v and_then λ z. x) ≡ (w and_then λ z. y)
then_same p q = rw (p, q)

-- ---- along a list, where nothing is found

module _ {C : Type 0} (f : C → Verdict (Unit {0})) where
  pub in-append : (xs ys : List C) → first_in f (xs ++ ys) ≡ (first_in f xs and_then λ x. first_in f ys)
  unfolding along
  in-append [] ys = refl
  in-append (c ∷ cs) ys = go (f c) (in-append cs ys)
    where
      go : (v : Verdict (Unit {0})) → first_in f (cs ++ ys) ≡ (first_in f cs and_then λ x. first_in f ys)
          → (v and_then along (λ c x. f c) (cs ++ ys)) ≡ ((v and_then along (λ c x. f c) cs) and_then λ x. first_in f ys)
      go (Ok x) e = e
      go (Err a) e = refl

  pub in-join : (n : ℕ) (g : ℕ → List C) → first_in f (join_below n g) ≡ first_of n (λ i. first_in f (g i))
  unfolding along first_of join_below
  in-join zero g = refl
  in-join (suc n) g = in-append (g 0) _ ∙ then_same {v = first_in f (g 0)} refl (in-join n (λ i. g (suc i)))

  pub in-when : (b : Bool) (xs : List C) → first_in f (cond b xs []) ≡ cond b (first_in f xs) passed
  unfolding along
  in-when true xs = refl
  in-when false xs = refl

  pub in_one : (c : C) → first_in f (c ∷ []) ≡ f c
  unfolding along
  in_one c = go (f c)
    where
      go : (v : Verdict (Unit {0})) → (v and_then Ok) ≡ v
      go (Ok x) = refl
      go (Err a) = refl

-- ---- over indices

pub of-cong : (n : ℕ) (f g : ℕ → Verdict (Unit {0})) → ((i : ℕ) → i < n → f i ≡ g i) → first_of n f ≡ first_of n g
unfolding first_of
of-cong zero f g h = refl
of-cong (suc n) f g h = then_same (h 0 (suc-le-suc zero-le)) (of-cong n (λ i. f (suc i)) (λ i. g (suc i)) (λ i l. h (suc i) (suc-le-suc l)))

pub of_none : (n : ℕ) (f : ℕ → Verdict (Unit {0})) → ((i : ℕ) → i < n → f i ≡ passed) → first_of n f ≡ passed
unfolding first_of
of_none zero f h = refl
of_none (suc n) f h = then_same (h 0 (suc-le-suc zero-le)) (of_none n (λ i. f (suc i)) (λ i l. h (suc i) (suc-le-suc l)))

pub of-hit : (n k : ℕ) (f : ℕ → Verdict (Unit {0})) (a : Answer) → k < n → ((i : ℕ) → i < k → f i ≡ passed) → f k ≡ Err a → first_of n f ≡ Err a
unfolding first_of
of-hit zero k f a l h e = absurd (not-suc-le-zero l)
of-hit (suc n) zero f a l h e = ap (λ (v : Verdict (Unit {0})). v and_then λ x. first_of n (λ i. f (suc i))) e
of-hit (suc n) (suc k) f a l h e = then_same (h 0 (suc-le-suc zero-le)) (of-hit n k (λ i. f (suc i)) a (le_of_suc-le-suc l) (λ i b. h (suc i) (suc-le-suc b)) e)

-- where a test tells the refusals, the first index that passes it is the first refusal
module _ (n : ℕ) (f : ℕ → Verdict (Unit {0})) (q : ℕ → Bool) (answer : ℕ → Answer)
    (yes : (i : ℕ) → T (q i) → f i ≡ Err (answer i)) (no : (i : ℕ) → (T (q i) → ⊥) → f i ≡ passed) where
  pub test-hit : {k : ℕ} → k ≡ first_below n q → k < n → first_of n f ≡ Err (answer k)
  test-hit {k} e l =
      let h : first_below n q < n = rw (← e) l in
      rw e (of-hit n (first_below n q) f (answer (first_below n q)) h (λ i b. no i (first-least n q i b)) (yes (first_below n q) (first_passes n q h)))

  pub test-none : {k : ℕ} → k ≡ first_below n q → n ≤ k → first_of n f ≡ passed
  test-none {k} e l = of_none n f (λ i b. no i (first-least n q i (rw (← e) (omega arith))))

-- ---- decided by causes

-- A verdict goes on, with something good, where no cause applies, and refuses with the numbers of the first that does.
abbrev pub ByCauses : {A : Type 0} → (A → Type 0) → List Cause → Verdict A → Type 0
ByCauses Good causes (Ok x) = Good x × NoCause causes
ByCauses Good causes (Err answer) = FirstCause causes answer

pub record Decided {A : Type 0} (Good : A → Type 0) (causes : List Cause) (verdict : Verdict A) : Type 0 where
  pub by : ByCauses Good causes verdict

-- Nothing is asked of what was found.
abbrev pub Anything : {A : Type 0} → A → Type 0
Anything x = Unit {0}

module _ {A : Type 0} {Good : A → Type 0} where
  -- no test
  pub decided-none : {x : A} → Good x → Decided Good [] (Ok x)
  decided-none g = record { by = (g, tt) }

  -- the end of a chain
  pub decided-end : {causes : List Cause} {x : Verdict A} → Decided Good (causes ++ []) x → Decided Good causes x
  decided-end {causes} {x} d = subst (λ (cs : List Cause). Decided Good cs x) (append-nil causes) d

  -- a cause that does not apply
  later : {P : Type 0} {a : Answer} {cs : List Cause} (x : Verdict A) → ¬ P → Decided Good cs x → Decided Good (P gives a ∷ cs) x
  later (Ok x) n d = record { by = (d.by.0, (n, d.by.1)) }
  later (Err b) n d = record { by = inr (n, d.by) }

  -- one test more; `on` is what becomes of the chain's result
  pub decided-test : {Y : Type 0} (on : Y → Verdict A) {test : Bool} (y z : Y) {P : Type 0} {a : Answer} {cs : List Cause}
      → Decides test P → on y ≡ Err a
      → Decided Good cs (on z) → Decided Good (P gives a ∷ cs) (on (cond test y z))
  decided-test on {test = true} y z {P} {a} {cs} d e rest = subst (Decided Good (P gives a ∷ cs)) (sym e) (record { by = inl (d.sound tt, refl) })
  decided-test on {test = false} y z d e rest = later (on z) d.complete rest

  -- the same of a test that the cause fails
  pub decided-unless : {Y : Type 0} (on : Y → Verdict A) (test : Bool) (y z : Y) {P : Type 0} {a : Answer} {cs : List Cause}
      → Decides (not test) P → on y ≡ Err a
      → Decided Good cs (on z) → Decided Good (P gives a ∷ cs) (on (cond test z y))
  decided-unless on false y z {P} {a} {cs} d e rest = subst (Decided Good (P gives a ∷ cs)) (sym e) (record { by = inl (d.sound tt, refl) })
  decided-unless on true y z d e rest = later (on z) d.complete rest

  -- a search for the first index that passes
  pub decided-search : {Y : Type 0} (on : Y → Verdict A) (n : ℕ) (numbers : ℕ → Answer) (y : ℕ → Y) (z : Y) {test : ℕ → Bool} {P : ℕ → Type 0} {cs : List Cause}
      → ((i : ℕ) → Decides (test i) (P i)) → ((i : ℕ) → on (y i) ≡ Err (numbers i)) → Decided Good cs (on z)
      → Decided Good (join_below n (λ i. P i gives numbers i ∷ []) ++ cs) (on (cond (ltb (first_below n test) n) (y (first_below n test)) z))
  unfolding first_below join_below
  decided-search on zero numbers y z d r rest = rest
  decided-search on (suc n) numbers y z {test} {P} {cs} d r rest =
      go (test 0) (d 0)
      (subst (λ (b : Bool). Decided Good more (on (cond b (y (suc k)) z)))
      (sym (leb-suc-suc (suc k) n))
      (decided-search on n (λ i. numbers (suc i)) (λ i. y (suc i)) z (λ i. d (suc i)) (λ i. r (suc i)) rest))
    where
      k : ℕ
      k = first_below n (λ i. test (suc i))

      more : List Cause
      more = join_below n (λ i. P (suc i) gives numbers (suc i) ∷ []) ++ cs

      go : (b : Bool) → Decides b (P 0) → Decided Good more (on (cond (ltb (suc k) (suc n)) (y (suc k)) z))
          → Decided Good (P 0 gives numbers 0 ∷ more) (on (cond (ltb (cond b 0 (suc k)) (suc n)) (y (cond b 0 (suc k))) z))
      go true e m =
          subst (λ (b : Bool). Decided Good (P 0 gives numbers 0 ∷ more) (on (cond b (y 0) z))) (sym (lt-ltb 0 (suc n) (suc-le-suc zero-le)))
          (subst (Decided Good (P 0 gives numbers 0 ∷ more)) (sym (r 0)) (record { by = inl (e.sound tt, refl) }))
      go false e m = later (on (cond (ltb (suc k) (suc n)) (y (suc k)) z)) e.complete m

  -- a test between two chains, whose causes it guards
  pub decided-either : {Y : Type 0} (on : Y → Verdict A) {P : Type 0} {xs ys : List Cause} (test : Bool) (y z : Y) → Decides test P
      → Decided Good xs (on y) → Decided Good ys (on z) → Decided Good (only P xs ++ only (¬ P) ys) (on (cond test y z))
  decided-either on {P} {xs} {ys} true y z d e f = first (on y) e
    where
      first : (v : Verdict A) → Decided Good xs v → Decided Good (only P xs ++ only (¬ P) ys) v
      first (Ok x) e = record { by = (e.by.0, none-append (only P xs) _ (only_none P xs e.by.1) (only_out (¬ P) ys (λ n. n (d.sound tt)))) }
      first (Err a) e = record { by = first-left (only P xs) _ a (only-first P xs a (d.sound tt) e.by) }
  decided-either on {P} {xs} {ys} false y z d e f = second (on z) f
    where
      second : (v : Verdict A) → Decided Good ys v → Decided Good (only P xs ++ only (¬ P) ys) v
      second (Ok x) f = record { by = (f.by.0, none-append (only P xs) _ (only_out P xs d.complete) (only_none (¬ P) ys f.by.1)) }
      second (Err a) f = record { by = first-right (only P xs) _ a (only_out P xs d.complete) (only-first (¬ P) ys a d.complete f.by) }

  -- where no cause applies, it goes on with something good
  pub none-on : {causes : List Cause} (v : Verdict A) → Decided Good causes v → NoCause causes → (x : A) × (v ≡ Ok x) × Good x
  none-on (Ok x) d n = (x, refl, d.by.0)
  none-on {causes} (Err a) d n = absurd (none_first causes a n d.by)

  -- where it goes on, no cause applies
  pub on_none : {causes : List Cause} {v : Verdict A} {x : A} → v ≡ Ok x → Decided Good causes v → Good x × NoCause causes
  on_none {causes} e d = (subst (Decided Good causes) e d).by

  -- where it refuses, the first cause that applies has its numbers
  pub refused-first : {causes : List Cause} {v : Verdict A} {a : Answer} → v ≡ Err a → Decided Good causes v → FirstCause causes a
  refused-first {causes} e d = (subst (Decided Good causes) e d).by

-- one test: of the cause, and of what the cause fails; and the room of an output
pub decided-pass : (test : Bool) {P : Type 0} {a : Answer} → Decides test P → Decided Anything (P gives a ∷ []) (pass_if (not test) a)
decided-pass true d = record { by = inl (d.sound tt, refl) }
decided-pass false d = record { by = (tt, (d.complete, tt)) }

pub decided-fits : (test : Bool) {P : Type 0} {a : Answer} → Decides test P → Decided Anything ((¬ P) gives a ∷ []) (pass_if test a)
decided-fits true d = record { by = (tt, (λ n. n (d.sound tt), tt)) }
decided-fits false d = record { by = inl (d.complete, refl) }

pub room-decided : (needed : ℕ) (output : List ℕ) → Decided Anything (room_causes needed output) (room_verdict needed (length output))
unfolding room_verdict
room-decided needed output = decided-test (λ x. x) (Err (six_numbers 21 3 needed)) passed (ltb-decides (length output) needed) refl (decided-none tt)

-- something else is known of what was found
pub decided-as : {A : Type 0} {Good Fine : A → Type 0} {causes : List Cause} (v : Verdict A)
    → ((x : A) → Good x → Fine x) → Decided Good causes v → Decided Fine causes v
decided-as (Ok x) f d = record { by = (f x d.by.0, d.by.1) }
decided-as (Err a) f d = record { by = d.by }

pub decided-go : {A B : Type 0} {Good : A → Type 0} {causes : List Cause} (v : Verdict A) (g : A → B)
    → Decided Good causes v → Decided Anything causes (v and_then λ x. Ok (g x))
decided-go (Ok x) g d = record { by = (tt, d.by.1) }
decided-go (Err a) g d = record { by = d.by }

-- a chain after another: it is handed what the first found, and that no cause of the first applies
pub decided-then : {A B : Type 0} {Good : A → Type 0} {Fine : B → Type 0} {xs ys : List Cause} (v : Verdict A) {next : A → Verdict B} → Decided Good xs v
    → ((x : A) → Good x → NoCause xs → Decided Fine ys (next x)) → Decided Fine (xs ++ ys) (v and_then next)
decided-then {xs = xs} {ys = ys} (Err a) d rest = record { by = first-left xs ys a d.by }
decided-then {B = B} {Fine = Fine} {xs = xs} {ys = ys} (Ok x) {next} d rest = go (next x) (rest x d.by.0 d.by.1)
  where
    go : (w : Verdict B) → Decided Fine ys w → Decided Fine (xs ++ ys) w
    go (Ok z) e = record { by = (e.by.0, none-append xs ys d.by.1 e.by.1) }
    go (Err a) e = record { by = first-right xs ys a d.by.1 e.by }

-- one after the other along a list, and over indices
pub decided-along : {A C : Type 0} (causes : C → List Cause) (f : C → A → Verdict A)
    → ((c : C) (x : A) → Decided Anything (causes c) (f c x)) → (cs : List C) (x : A)
    → Decided Anything (flat_map causes cs) (along f cs x)
unfolding along flat_map
decided-along causes f d [] x = decided-none tt
decided-along causes f d (c ∷ cs) x = decided-then (f c x) (d c x) (λ y g n. decided-along causes f d cs y)

pub decided-below : (n : ℕ) (causes : ℕ → List Cause) (f : ℕ → Verdict (Unit {0}))
    → ((i : ℕ) → Decided Anything (causes i) (f i)) → Decided Anything (join_below n causes) (first_of n f)
unfolding first_of join_below
decided-below zero causes f d = decided-none tt
decided-below (suc n) causes f d = decided-then (f 0) (d 0) (λ y g m. decided-below n (λ i. causes (suc i)) (λ i. f (suc i)) (λ i. d (suc i)))

-- the answer at the end
pub decided-answer : {A : Type 0} {Good : A → Type 0} {causes : List Cause} (Success : Answer → Type 0) (success : A → Answer) (v : Verdict A)
    → Decided Good causes v
    → ((x : A) → v ≡ Ok x → NoCause causes → Success (success x)) → Answers causes Success (answer_of success v)
decided-answer Success success (Ok x) d g = inr (d.by.1, g x refl d.by.1)
decided-answer Success success (Err a) d g = inl d.by

-- ---- the output after a verdict

module _ {A : Type 0} where
  -- a refusal leaves it as it was
  pub refused-output : (success : A → Answer) → ((x : A) → (success x).code ≡ 0) → (v : Verdict A) → ¬ ((answer_of success v).code ≡ 0)
      → (bytes output : List ℕ) → output_after v bytes output ≡ output
  refused-output success zeroed (Ok x) n bytes output = absurd (n (zeroed x))
  refused-output success zeroed (Err a) n bytes output = refl

  -- a verdict that goes on puts the bytes at its front, where they have room
  pub output_on : {v : Verdict A} {x : A} → v ≡ Ok x → (bytes output : List ℕ) {k : ℕ} → length bytes ≡ k → k ≤ length output
      → output_after v bytes output ≡ bytes ++ drop k output
  output_on e bytes output l h =
      ap (λ (v : Verdict A). output_after v bytes output) e ∙ put-front-fits bytes output (rw l h) ∙ ap (λ (n : ℕ). bytes ++ drop n output) l

  -- and its length stays
  pub output-length : (v : Verdict A) (bytes output : List ℕ) → length (output_after v bytes output) ≡ length output
  output-length (Ok x) bytes output = put-front-length bytes output
  output-length (Err a) bytes output = refl
