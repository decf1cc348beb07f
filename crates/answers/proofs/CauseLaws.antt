-- Laws of lists of causes: joined lists, families, guards and other numbers; and that at most one answer is the first cause's. Assumes nothing.
use Prim.Native.Nat.{ℕ, zero, suc, ◌<◌}
use mathlib.Core.Path.{◌≡◌, sym, ap, ◌∙◌, subst}
use mathlib.Core.Logic.{◌↔◌, ◌⊎◌, inl, inr, ⊎_elim}
use mathlib.Core.Bool.{Bool}
use mathlib.Core.List.{List, [], ◌∷◌, ◌++◌, flat_map}
use lib.Dec.{T}
use lib.ListN.{get_or}
use Rattle.lists.specs.Lists.{All, join_below}
use Rattle.lists.proofs.BoolLaws.{and_l, and_r}
use Rattle.lists.proofs.JoinLaws.{all_append, append-all, all_join, join-all, all-flat, all-each}
use Rattle.answers.specs.Numbers.{blank}
use Rattle.answers.specs.Causes.{Cause, ◌gives◌, only, renumbered, FirstCause, NoCause, Numbered, allows, Answers}
use Rattle.answers.specs.declared.Answer.{Answer}

-- ---- where no cause applies

pub none-append : (xs ys : List Cause) → NoCause xs → NoCause ys → NoCause (xs ++ ys)
none-append = all_append (λ c. ¬ c.condition)

pub append-none : (xs ys : List Cause) → NoCause (xs ++ ys) → NoCause xs × NoCause ys
append-none = append-all (λ c. ¬ c.condition)

module _ (n : ℕ) (P : ℕ → Type 0) (numbers : ℕ → Answer) where
  pub below_none : NoCause (join_below n (λ i. P i gives numbers i ∷ [])) → (i : ℕ) → i < n → ¬ P i
  below_none h i l = (join-all (λ c. ¬ c.condition) n _ h i l).0

  pub none_below : ((i : ℕ) → i < n → ¬ P i) → NoCause (join_below n (λ i. P i gives numbers i ∷ []))
  none_below h = all_join (λ c. ¬ c.condition) n _ (λ i l. (h i l, tt))

-- the cause at place i does not apply
pub none-at : (cs : List Cause) → NoCause cs → (i : ℕ) → (get_or cs i (⊥ gives blank)).condition → ⊥
none-at [] n i h = h
none-at (c ∷ cs) n zero h = n.0 h
none-at (c ∷ cs) n (suc i) h = none-at cs n.1 i h

-- ---- the first cause

-- it is one of the list, and its condition holds
pub first_holds : (P : Answer → Type 0) (cs : List Cause) (a : Answer) → All (λ c. c.condition → P c.numbers) cs → FirstCause cs a → P a
first_holds P [] a n f = absurd f
first_holds P (c ∷ cs) a n (inl p) = subst P (sym p.1) (n.0 p.0)
first_holds P (c ∷ cs) a n (inr p) = first_holds P cs a n.1 p.1

pub none_first : (cs : List Cause) (a : Answer) → NoCause cs → FirstCause cs a → ⊥
none_first [] a n f = f
none_first (c ∷ cs) a n (inl p) = n.0 p.0
none_first (c ∷ cs) a n (inr p) = none_first cs a n.1 p.1

-- at most one answer is the first cause's
pub first-unique : (cs : List Cause) (a b : Answer) → FirstCause cs a → FirstCause cs b → a ≡ b
first-unique [] a b f g = absurd f
first-unique (c ∷ cs) a b (inl p) (inl q) = p.1 ∙ sym q.1
first-unique (c ∷ cs) a b (inl p) (inr q) = absurd (q.0 p.0)
first-unique (c ∷ cs) a b (inr p) (inl q) = absurd (p.0 q.0)
first-unique (c ∷ cs) a b (inr p) (inr q) = first-unique cs a b p.1 q.1

pub first-left : (xs ys : List Cause) (a : Answer) → FirstCause xs a → FirstCause (xs ++ ys) a
first-left [] ys a f = absurd f
first-left (x ∷ xs) ys a (inl p) = inl p
first-left (x ∷ xs) ys a (inr p) = inr (p.0, first-left xs ys a p.1)

pub first-right : (xs ys : List Cause) (a : Answer) → NoCause xs → FirstCause ys a → FirstCause (xs ++ ys) a
first-right [] ys a n f = f
first-right (x ∷ xs) ys a n f = inr (n.0, first-right xs ys a n.1 f)

-- the first cause of a joined list is the first part's, or none of that part applies and it is the second's
pub append-first : (xs ys : List Cause) (a : Answer) → FirstCause (xs ++ ys) a → FirstCause xs a ⊎ (NoCause xs × FirstCause ys a)
append-first [] ys a f = inr (tt, f)
append-first (x ∷ xs) ys a (inl p) = inl (inl p)
append-first (x ∷ xs) ys a (inr p) = ⊎_elim (λ f. inl (inr (p.0, f))) (λ q. inr ((p.0, q.0), q.1)) (append-first xs ys a p.1)

-- ---- numbers

module _ (f : ℕ → ℕ → Bool) where
  pub numbered-append : (xs ys : List Cause) → Numbered f xs → Numbered f ys → Numbered f (xs ++ ys)
  numbered-append = all_append (λ c. T (f c.numbers.code c.numbers.file))

  pub numbered_below : (n : ℕ) (causes : ℕ → List Cause) → ((i : ℕ) → Numbered f (causes i)) → Numbered f (join_below n causes)
  numbered_below n causes h = all_join (λ c. T (f c.numbers.code c.numbers.file)) n causes (λ i l. h i)

  pub numbered-only : (P : Type 0) (cs : List Cause) → Numbered f cs → Numbered f (only P cs)
  numbered-only P [] h = tt
  numbered-only P (c ∷ cs) h = (h.0, numbered-only P cs h.1)

  pub numbered-flat : {A : Type 0} (causes : A → List Cause) → ((x : A) → Numbered f (causes x)) → (xs : List A) → Numbered f (flat_map causes xs)
  numbered-flat causes h xs = all-flat (λ c. T (f c.numbers.code c.numbers.file)) causes xs (all-each (λ x. Numbered f (causes x)) h xs)

  pub numbered-first : (cs : List Cause) (a : Answer) → Numbered f cs → FirstCause cs a → T (f a.code a.file)
  numbered-first [] a n g = absurd g
  numbered-first (c ∷ cs) a n (inl p) = subst (λ (x : Answer). T (f x.code x.file)) (sym p.1) n.0
  numbered-first (c ∷ cs) a n (inr p) = numbered-first cs a n.1 p.1

  pub allowed : (file : ℕ) (codes : List ℕ) → T (allows f file codes) → All (λ code. T (f code file)) codes
  allowed file [] h = tt
  allowed file (code ∷ codes) h = (and_l (f code file) (allows f file codes) h, allowed file codes (and_r (f code file) (allows f file codes) h))

-- ---- the answer

module _ (Success : Answer → Type 0) (causes : List Cause) (answer : Answer) (given : Answers causes Success answer) where
  -- the conditions alone tell a refusal
  pub first-answer : (a : Answer) → FirstCause causes a → answer ≡ a
  first-answer a g = ⊎_elim (λ f. first-unique causes answer a f g) (λ p. absurd (none_first causes a p.0 g)) given

  -- where no cause has the number 0, and every success has it: the answer is a refusal exactly where it is that of the first cause, and a success exactly
  -- where none applies
  module _ (f : ℕ → ℕ → Bool) (numbered : Numbered f causes) (never : (file : ℕ) → T (f 0 file) → ⊥) (zeroed : (a : Answer) → Success a → a.code ≡ 0) where
    first_code : (a : Answer) → FirstCause causes a → a.code ≡ 0 → ⊥
    first_code a g e = never a.file (subst (λ (k : ℕ). T (f k a.file)) e (numbered-first f causes a numbered g))

    pub refused-iff : (a : Answer) → FirstCause causes a ↔ ((answer ≡ a) × (¬ (a.code ≡ 0)))
    refused-iff a = (
      λ g. (first-answer a g, first_code a g),
      λ p. ⊎_elim (λ g. subst (FirstCause causes) p.0 g) (λ q. absurd (p.1 (ap (λ (x : Answer). x.code) (sym p.0) ∙ zeroed answer q.1))) given,
    )

    pub zero-none : answer.code ≡ 0 → NoCause causes × Success answer
    zero-none e = ⊎_elim (λ g. absurd (first_code answer g e)) (λ p. p) given

    pub none-zero : NoCause causes → answer.code ≡ 0
    none-zero n = ⊎_elim (λ g. absurd (none_first causes answer n g)) (λ p. zeroed answer p.1) given

-- ---- guards

module _ (P : Type 0) where
  pub only_none : (cs : List Cause) → NoCause cs → NoCause (only P cs)
  only_none [] n = tt
  only_none (c ∷ cs) n = (λ p. n.0 p.1, only_none cs n.1)

  pub none_only : (cs : List Cause) → P → NoCause (only P cs) → NoCause cs
  none_only [] h n = tt
  none_only (c ∷ cs) h n = (λ p. n.0 (h, p), none_only cs h n.1)

  pub only_out : (cs : List Cause) → ¬ P → NoCause (only P cs)
  only_out [] h = tt
  only_out (c ∷ cs) h = (λ p. h p.0, only_out cs h)

  pub only-first : (cs : List Cause) (a : Answer) → P → FirstCause cs a → FirstCause (only P cs) a
  only-first [] a h f = f
  only-first (c ∷ cs) a h (inl p) = inl ((h, p.0), p.1)
  only-first (c ∷ cs) a h (inr p) = inr (λ q. p.0 q.1, only-first cs a h p.1)

-- ---- other numbers

module _ (f : Answer → Answer) where
  pub renumbered-none : (cs : List Cause) → NoCause cs → NoCause (renumbered f cs)
  renumbered-none [] n = tt
  renumbered-none (c ∷ cs) n = (n.0, renumbered-none cs n.1)

  pub none-renumbered : (cs : List Cause) → NoCause (renumbered f cs) → NoCause cs
  none-renumbered [] n = tt
  none-renumbered (c ∷ cs) n = (n.0, none-renumbered cs n.1)

  pub renumbered-first : (cs : List Cause) (a : Answer) → FirstCause cs a → FirstCause (renumbered f cs) (f a)
  renumbered-first [] a g = g
  renumbered-first (c ∷ cs) a (inl p) = inl (p.0, ap f p.1)
  renumbered-first (c ∷ cs) a (inr p) = inr (p.0, renumbered-first cs a p.1)
