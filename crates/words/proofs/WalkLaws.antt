-- Laws of a walk over the states of a word: the first is met and taken out, then the first of those left, and so on. Each state is met once, in rising order.
-- Assumes nothing.
use Prim.Native.Nat.{ℕ, ◌+◌, ◌^◌, ◌≤◌, ◌<◌}
use mathlib.Core.Path.{◌≡◌, refl, sym, ◌∙◌}
use mathlib.Core.Bool.{true, false}
use native.Mathlib.Omega.{arith}
use lib.Dec.{T}
use Rattle.std.proofs.Common.{Some}
use borrow.Author.Tests.{ne_eqb}
use Rattle.lists.proofs.BoolLaws.{T_true, not-T-false}
use Rattle.words.specs.Bits.{has_bit, first_bit, remove_bit, count_bits}
use Rattle.words.specs.Walks.{next_state}
use Rattle.words.proofs.BitLaws.{has-remove, remove-word, first-has, first-least, first-rises, count-remove}

-- The states before t are done, and `rest` has the others; t is the first of them.
pub record Walk (word rest t : ℕ) : Type 0 where
  pub first : t ≡ first_bit rest
  pub rest< : rest < 2 ^ 64
  pub same : (u : ℕ) → t ≤ u → has_bit rest u ≡ has_bit word u

-- it begins with all of them
module _ {word t : ℕ} (small : word < 2 ^ 64) (e : t ≡ first_bit word) where
  pub walk_start : Walk word word t
  walk_start = record { first = e; rest< = small; same = λ u l. refl }

  -- and none is before the first
  pub start-gap : (u : ℕ) → 0 ≤ u → u < t → has_bit word u ≡ false
  start-gap u a l = not-T-false (has_bit word u) (first-least word u (rw (← e) l))

module _ {word rest t : ℕ} (w : Walk word rest t) (h : t < 64) where
  -- the state that is met is one of the word
  pub walk_here : has_bit word t ≡ true
  walk_here =
      let l : first_bit rest < 64 = rw (← w.first) h in
      let b : T (has_bit rest t) = rw w.first (first-has rest l) in
      sym (w.same t (omega arith)) ∙ T_true (has_bit rest t) b

  module _ {rest' t' : ℕ} (r : rest' ≡ remove_bit rest t) (e : t' ≡ first_bit rest') where
    -- the next one is greater
    pub walk-rises : t < t'
    walk-rises = rw (e, r) (first-rises rest t w.rest< w.first h)

    others : (u : ℕ) → t < u → has_bit rest' u ≡ has_bit word u
    others u l = rw r (has-remove rest t u w.rest< ∙ rw (ne_eqb u t (λ q. omega arith)) (w.same u (omega arith)))

    -- none is between them
    pub walk-gap : (u : ℕ) → t + 1 ≤ u → u < t' → has_bit word u ≡ false
    walk-gap u a l = sym (others u (omega arith)) ∙ not-T-false (has_bit rest' u) (first-least rest' u (rw (← e) l))

    pub walk-next : Walk word rest' t'
    walk-next = record { first = e; rest< = rw r (remove-word rest t w.rest<); same = λ u l. others u (omega (arith, walk-rises)) }

-- the walk ends
pub walk-shorter : (word : ℕ) → word < 2 ^ 64 → first_bit word < 64 → count_bits (remove_bit word (first_bit word)) < count_bits word
walk-shorter word w h = omega (arith, count-remove word (first_bit word) w (first-has word h))

-- ---- the same walk as `words::States` makes it: `rest` has what is left, and its first state is met next

-- What is known where the walk has met t: it is a state of the word, the next one is greater, none is between them, and the walk goes on.
pub record Met (word rest t rest' : ℕ) : Type 0 where
  pub first : t ≡ first_bit rest
  pub small : t < 64
  pub here : has_bit word t ≡ true
  pub rises : t < first_bit rest'
  pub gap : (u : ℕ) → t + 1 ≤ u → u < first_bit rest' → has_bit word u ≡ false
  pub walk : Walk word rest' (first_bit rest')

pub met : {word rest rest' t : ℕ} → Walk word rest (first_bit rest) → next_state rest (Some t) rest' → Met word rest t rest'
met {word} {rest} {rest'} {t} w s =
    let v : Walk word rest t = rw s.1 w in
    record {
      first = s.1;
      small = s.0;
      here = walk_here v s.0;
      rises = walk-rises v s.0 s.2 refl;
      gap = walk-gap v s.0 s.2 refl;
      walk = walk-next v s.0 s.2 refl;
    }

-- it begins with all states, and none is before the first
pub walk_all : {word rest : ℕ} → word < 2 ^ 64 → rest ≡ word → Walk word rest (first_bit rest)
walk_all small e = rw e (walk_start small refl)

pub before-all : {word rest : ℕ} → word < 2 ^ 64 → rest ≡ word → (u : ℕ) → 0 ≤ u → u < first_bit rest → has_bit word u ≡ false
before-all small e u a l = start-gap small refl u a (rw (← e) l)
