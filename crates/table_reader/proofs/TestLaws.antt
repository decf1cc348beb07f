-- Laws of the reader's tests: each passes exactly where what it tests holds. Assumes nothing.
use Prim.Native.Nat.{ℕ, zero, suc, ◌≤◌, ◌<◌}
use mathlib.Core.Path.{◌≡◌}
use mathlib.Core.Logic.{◌⊎◌, inl, inr}
use mathlib.Core.List.{List}
use native.Mathlib.Omega.{arith}
use Rattle.lists.specs.Below.{first_below}
use Rattle.words.specs.Bits.{has_bit, has_from, HasFrom}
use Rattle.lists.proofs.BelowLaws.{first-least}
use Rattle.tables.specs.declared.Format.{Format}
use Rattle.tables.specs.Table.{last_version, magic_fits, version_of, format_in, steps_part, from_of, to_of, key_of}
use Rattle.table_reader.specs.declared.Known.{Known}
use Rattle.table_reader.specs.declared.Known.TheVariants.{Both, Plain}
use Rattle.table_reader.specs.TableReading.{magic_known, version_fits, states_fit, wrong_starts}
use Rattle.table_reader.specs.TableReading.{ends_outside, same_step, doubled, greater, not_greater}
use Rattle.table_reader.specs.EndsSeen.{EndsBelow}
use Rattle.table_reader.specs.TableCauses.{MagicFits, MagicKnown, StatesFit, WrongStarts, NotGreater}
use Rattle.answers.proofs.DecideLaws.{
  Decides,
  decides-as,
  test-decides,
  ltb-decides,
  leb-decides,
  eqb-decides,
  not-decides,
  and-decides,
  or-decides,
  any-decides,
}

pub magic-decides : (third : ℕ) (s : List ℕ) → Decides (magic_fits third s) (MagicFits third s)
unfolding magic_fits
magic-decides third s =
    decides-as (and-decides (and-decides (eqb-decides _ _) (eqb-decides _ _)) (eqb-decides _ _))
    (λ p. (p.0.0, p.0.1, p.1)) (λ p. ((p.0, p.1), p.2))

pub known-decides : (known : Known) (s : List ℕ) → Decides (magic_known known s) (MagicKnown known s)
unfolding magic_known
known-decides Both s = or-decides (magic-decides 0x54 s) (magic-decides 0x4B s)
known-decides Plain s = magic-decides 0x54 s

pub version-decides : (s : List ℕ) → Decides (version_fits s) ((1 ≤ version_of s) × (version_of s ≤ last_version s))
unfolding version_fits
version-decides s = and-decides (leb-decides _ _) (leb-decides _ _)

pub states-decides : (n : ℕ) → Decides (states_fit n) (StatesFit n)
unfolding states_fit
states-decides n = and-decides (leb-decides _ _) (leb-decides _ _)

-- a bit n or more of a word
pub from-decides : (x n : ℕ) → Decides (has_from x n) (HasFrom x n)
unfolding has_from
from-decides x n =
    decides-as (any-decides 64 (λ t. and-decides (leb-decides n t) (test-decides (has_bit x t))))
    (λ r. (r.0, r.1, r.2.0, r.2.1)) (λ r. (r.0, r.1, (r.2, r.3)))

pub starts-decides : (word n : ℕ) → Decides (wrong_starts word n) (WrongStarts word n)
unfolding wrong_starts
starts-decides word n = or-decides (eqb-decides word 0) (from-decides word n)

module _ (f : Format) (steps : List ℕ) where
  pub outside-decides : (n j : ℕ) → Decides (ends_outside f steps n j) ((n ≤ from_of f steps j) ⊎ (n ≤ to_of f steps j))
  unfolding ends_outside
  outside-decides n j = or-decides (leb-decides _ _) (leb-decides _ _)

  -- where no step has an end of n or more, every end is below what n does not exceed
  pub outside-none : (n k m : ℕ) {o : ℕ} → o ≡ first_below m (ends_outside f steps n) → m ≤ o → n ≤ k → EndsBelow k (from_of f steps) (to_of f steps) m
  outside-none n k m e none le j l =
      let d = outside-decides n j in
      let inside : (n ≤ from_of f steps j) ⊎ (n ≤ to_of f steps j) → ⊥ = λ o. first-least m (ends_outside f steps n) j (omega arith) (d.complete o) in
      let from_in : n ≤ from_of f steps j → ⊥ = λ a. inside (inl a) in
      let to_in : n ≤ to_of f steps j → ⊥ = λ a. inside (inr a) in
      (omega arith, omega arith)

  pub same-decides : (j i : ℕ) → Decides (same_step f steps j i) ((from_of f steps i ≡ from_of f steps j) × (to_of f steps i ≡ to_of f steps j))
  unfolding same_step
  same-decides j i = and-decides (eqb-decides _ _) (eqb-decides _ _)

  pub doubled-decides : (j : ℕ)
      → Decides (doubled f steps j) ((i : ℕ) × (i < j) × (from_of f steps i ≡ from_of f steps j) × (to_of f steps i ≡ to_of f steps j))
  unfolding doubled
  doubled-decides j = decides-as (any-decides j (same-decides j)) (λ r. (r.0, r.1, r.2.0, r.2.1)) (λ r. (r.0, r.1, (r.2, r.3)))

  pub greater-decides : (j i : ℕ)
      → Decides (greater f steps j i)
      ((from_of f steps i < from_of f steps j)
      ⊎ ((from_of f steps i ≡ from_of f steps j)
      × ((to_of f steps i < to_of f steps j) ⊎ ((to_of f steps i ≡ to_of f steps j) × (key_of f steps i < key_of f steps j)))))
  unfolding greater
  greater-decides j i =
      or-decides (ltb-decides _ _)
      (and-decides (eqb-decides _ _) (or-decides (ltb-decides _ _) (and-decides (eqb-decides _ _) (ltb-decides _ _))))

pub not-greater-decides : (s : List ℕ) (j : ℕ) → Decides (not_greater (format_in s) (steps_part s) j) (NotGreater s j)
unfolding not_greater
not-greater-decides s zero = test-decides _
not-greater-decides s (suc i) = not-decides (greater-decides (format_in s) (steps_part s) (suc i) i)
