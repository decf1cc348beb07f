-- Laws of tests: a test that passes exactly where a statement holds decides it. Assumes nothing.
use Prim.Native.Nat.{ℕ, ◌≤◌, ◌<◌}
use mathlib.Core.Path.{◌≡◌}
use mathlib.Core.Logic.{◌⊎◌, inl, inr, ⊎_elim}
use mathlib.Core.Bool.{Bool, true, false, not, ◌&&◌, ◌||◌}
use lib.Dec.{T, T_not, not_T, ltb, leb, eqb, ltb→lt, lt→ltb, leb→le, le→leb, eqb→eq}
use Rattle.lists.specs.Below.{any_below}
use Rattle.lists.proofs.BoolLaws.{and_l, and_r, and_i, or-e, or_l, or_r, eq→eqb, T-dec, T_true, not-T-false}
use Rattle.lists.proofs.BelowLaws.{any-e, any-i}

-- The test passes exactly where P holds.
pub record Decides (test : Bool) (P : Type 0) : Type 0 where
  pub sound : T test → P
  pub complete : P → T test

-- ---- what a test that decides P says

module _ {test : Bool} {P : Type 0} (d : Decides test P) where
  pub decides-true : P → test ≡ true
  decides-true p = T_true test (d.complete p)

  pub decides-false : (P → ⊥) → test ≡ false
  decides-false n = not-T-false test (λ t. n (d.sound t))

  pub decides-either : P ⊎ (P → ⊥)
  decides-either = ⊎_elim (λ t. inl (d.sound t)) (λ n. inr (λ p. n (d.complete p))) (T-dec test)

  pub decides-stable : ((P → ⊥) → ⊥) → P
  decides-stable h = ⊎_elim (λ p. p) (λ n. absurd (h n)) decides-either

  -- the same said in another form
  pub decides-as : {Q : Type 0} → (P → Q) → (Q → P) → Decides test Q
  decides-as f g = record { sound = λ t. f (d.sound t); complete = λ q. d.complete (g q) }

-- ---- tests of numbers

pub test-decides : (b : Bool) → Decides b (T b)
test-decides b = record { sound = λ t. t; complete = λ t. t }

module _ (a b : ℕ) where
  pub ltb-decides : Decides (ltb a b) (a < b)
  ltb-decides = record { sound = ltb→lt a b; complete = lt→ltb a b }

  pub leb-decides : Decides (leb a b) (a ≤ b)
  leb-decides = record { sound = leb→le a b; complete = le→leb a b }

  pub eqb-decides : Decides (eqb a b) (a ≡ b)
  eqb-decides = record { sound = eqb→eq a b; complete = eq→eqb a b }

-- ---- tests made of tests

pub not-decides : {a : Bool} {P : Type 0} → Decides a P → Decides (not a) (¬ P)
not-decides {a} d = record { sound = λ t p. T_not a t (d.complete p); complete = λ n. not_T a (λ t. n (d.sound t)) }

module _ {a b : Bool} {P Q : Type 0} (d : Decides a P) (e : Decides b Q) where
  pub and-decides : Decides (a && b) (P × Q)
  and-decides =
      record {
        sound = λ t. (d.sound (and_l a b t), e.sound (and_r a b t));
        complete = λ p. and_i a b (d.complete p.0) (e.complete p.1);
      }

  pub or-decides : Decides (a || b) (P ⊎ Q)
  or-decides =
      record {
        sound = λ t. ⊎_elim (λ x. inl (d.sound x)) (λ y. inr (e.sound y)) (or-e a b t);
        complete = ⊎_elim (λ p. or_l a b (d.complete p)) (λ q. or_r a b (e.complete q));
      }

-- ---- searches

module _ (n : ℕ) {f : ℕ → Bool} {P : ℕ → Type 0} (each : (i : ℕ) → Decides (f i) (P i)) where
  pub any-decides : Decides (any_below n f) ((i : ℕ) × (i < n) × P i)
  any-decides =
      record {
        sound = λ t. let r = any-e n f t in (r.0, r.1, (each r.0).sound r.2);
        complete = λ r. any-i n f r.0 r.1 ((each r.0).complete r.2);
      }
