-- Laws of rising numbers: two rising lists of numbers with the same members are the same list. Assumes nothing.
use Prim.Native.Nat.{ℕ, zero, suc, ◌≤◌, ◌<◌}
use mathlib.Core.Path.{◌≡◌, sym, ap}
use native.Mathlib.Nat.{not-suc-le-zero}
use native.Mathlib.Omega.{arith}
use native.Mathlib.Decide.{dec_lt}

-- The first m numbers rise.
abbrev pub Rise : (ℕ → ℕ) → ℕ → Type 0
Rise f m = (i j : ℕ) → i < j → j < m → f i < f j

-- Each of the first m numbers of f is one of the first k of g.
abbrev pub Within : (ℕ → ℕ) → ℕ → (ℕ → ℕ) → ℕ → Type 0
Within f m g k = (j : ℕ) → j < m → (i : ℕ) × (i < k) × (g i ≡ f j)

-- where two agree before place j, the first is not lower than the second there: what it has stands in the second at place j or later
not_lower : (f g : ℕ → ℕ) (m k j : ℕ) → Rise f m → Rise g k → Within f m g k → ((i : ℕ) → i < j → i < m → i < k → f i ≡ g i)
    → j < m → j < k → g j ≤ f j
not_lower f g m k j r q w same a b =
    let p = w j a in
    let e = p.2 in
    elim (dec_lt p.0 j) [
      | yes l ↦ absurd (let x = r p.0 j l a in let y = same p.0 l (omega arith) p.1 in omega arith)
      | no l ↦ elim (dec_lt j p.0) [
        | yes h ↦ let x = q j p.0 h p.1 in omega arith
        | no h ↦ let x : p.0 ≡ j = omega arith in let y = ap g x in omega arith
      ]
    ]

module _ (f g : ℕ → ℕ) (m k : ℕ) (r : Rise f m) (q : Rise g k) (w : Within f m g k) (v : Within g k f m) where
  -- so far as both go, they agree
  agree : (b j : ℕ) → j < b → j < m → j < k → f j ≡ g j
  agree zero j l a c = absurd (not-suc-le-zero l)
  agree (suc b) j l a c =
      let x = not_lower f g m k j r q w (λ i h. agree b i (omega arith)) a c in
      let y = not_lower g f k m j q r v (λ i h d e. sym (agree b i (omega arith) e d)) c a in
      omega arith

  -- and the first is not the shorter one
  not-shorter : m < k → ⊥
  not-shorter l =
      let p = v m l in
      let e = p.2 in
      let x = agree k p.0 (omega arith) p.1 (omega arith) in
      let y = q p.0 m p.1 l in
      omega arith

-- two rising lists with the same members are equally long, and agree at every place
pub rising-same : (f g : ℕ → ℕ) (m k : ℕ) → Rise f m → Rise g k → Within f m g k → Within g k f m
    → (m ≡ k) × ((j : ℕ) → j < m → f j ≡ g j)
rising-same f g m k r q w v =
    let e : m ≡ k =
    elim (dec_lt m k) [
      | yes l ↦ absurd (not-shorter f g m k r q w v l)
      | no l ↦ elim (dec_lt k m) [ yes h ↦ absurd (not-shorter g f k m q r v w h) | no h ↦ omega arith ]
    ] in
    (e, λ j l. agree f g m k r q w v m j l l (omega arith))
