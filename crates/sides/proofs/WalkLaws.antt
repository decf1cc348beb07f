-- Laws of the walk along the links of a side. Assumes nothing.
use Prim.Native.Nat.{ℕ, zero, suc, ◌+◌, ◌-◌, ◌≤◌, ◌<◌, zero-le}
use mathlib.Core.Path.{◌≡◌, refl, sym, ap, ◌∙◌}
use mathlib.Core.List.{List, [], ◌∷◌}
use native.Mathlib.Omega.{arith}
use native.Mathlib.Decide.{dec_lt}
use lib.ListN.{length, get_or}
use lib.Dec.{ltb}
use mathlib.Core.Bool.{cond}
use borrow.Author.Tests.{lt-ltb, le-ltb}
use Rattle.sides.specs.declared.Side.{Side}
use Rattle.sides.specs.declared.StepsFrom.{StepsFrom}
use Rattle.sides.specs.Side.{link_at, next_step, linked_from, steps_left}

-- ---- the next step

module _ (side : Side) (j : ℕ) where
  pub next-later : {k : ℕ} → k ≡ link_at side j → j < k → k ≡ next_step side j
  unfolding next_step
  next-later {k} e h = let l : j < link_at side j = rw e at h in e ∙ sym (rw (lt-ltb j (link_at side j) l))

  pub next-none : {k : ℕ} → k ≡ link_at side j → k ≤ j → 256 ≡ next_step side j
  unfolding next_step
  next-none {k} e h = let l : link_at side j ≤ j = rw e at h in sym (rw (le-ltb j (link_at side j) l))

  -- a link leads to a later step, or nowhere
  pub next-rises : j < 256 → j < next_step side j
  unfolding next_step
  next-rises h = elim (dec_lt j (link_at side j)) [
    | yes l ↦ rw (lt-ltb j (link_at side j) l) l
    | no l ↦ rw (le-ltb j (link_at side j) (omega arith)) h
  ]

-- ---- the walk

module _ (side : Side) where
  -- more than the steps that are left make no difference
  enough : (k n j : ℕ) → 256 - j ≤ k → 256 - j ≤ n → linked_from side k j ≡ linked_from side n j
  unfolding linked_from
  enough zero zero j a b = refl
  enough zero (suc n) j a b = sym (rw (le-ltb j 256 (omega arith)))
  enough (suc k) zero j a b = rw (le-ltb j 256 (omega arith))
  enough (suc k) (suc n) j a b = elim (dec_lt j 256) [
    | yes h ↦ let r = next-rises side j h in rw (lt-ltb j 256 h) (ap (λ (x : List ℕ). j ∷ x) (enough k n (next_step side j) (omega arith) (omega arith)))
    | no h ↦ rw (le-ltb j 256 (omega arith))
  ]

  -- it goes on from step to step, and ends past the last
  pub walk-next : (j : ℕ) → j < 256 → linked_from side 256 j ≡ j ∷ linked_from side 256 (next_step side j)
  unfolding linked_from
  walk-next j h = let r = next-rises side j h in rw (lt-ltb j 256 h) (ap (λ (x : List ℕ). j ∷ x) (enough 255 256 (next_step side j) (omega arith) (omega arith)))

  pub walk_end : (j : ℕ) → 256 ≤ j → linked_from side 256 j ≡ []
  unfolding linked_from
  walk_end j h = rw (le-ltb j 256 h)

  -- it goes on where the link leads, if that is a later step
  pub walk-link : (j : ℕ) → j < 256 → linked_from side 256 j ≡ j ∷ cond (ltb (link_at side j) (j + 1)) [] (linked_from side 256 (link_at side j))
  unfolding next_step
  walk-link j h = walk-next j h ∙ ap (λ (x : List ℕ). j ∷ x) (elim (dec_lt j (link_at side j)) [
    | yes l ↦ rw (lt-ltb j (link_at side j) l, le-ltb (link_at side j) (j + 1) (omega arith))
    | no l ↦ rw (le-ltb j (link_at side j) (omega arith), lt-ltb (link_at side j) (j + 1) (omega arith)) (walk_end 256 (omega arith))
  ])

-- ---- the steps that a walk has left

module _ (walk : StepsFrom) where
  -- none, where its link leads below the least or past the last step
  pub left-none : walk.next < walk.least → steps_left walk ≡ []
  unfolding steps_left
  left-none h = rw (lt-ltb walk.next walk.least h)

  pub left-past : 256 ≤ walk.next → steps_left walk ≡ []
  unfolding steps_left
  left-past h = elim (dec_lt walk.next walk.least) [
    | yes l ↦ rw (lt-ltb walk.next walk.least l)
    | no l ↦ rw (le-ltb walk.next walk.least (omega arith)) (walk_end walk.side.now walk.next h)
  ]

  -- all from its first step on, where it begins
  pub left-first : walk.least ≡ 0 → steps_left walk ≡ linked_from walk.side.now 256 walk.next
  unfolding steps_left
  left-first e = rw (e, le-ltb walk.next 0 zero-le)

  -- the step to which it leads, and those that are left after it
  left-on : walk.least ≤ walk.next → walk.next < 256
      → steps_left walk ≡ walk.next ∷ cond (ltb (link_at walk.side.now walk.next) (walk.next + 1)) []
      (linked_from walk.side.now 256 (link_at walk.side.now walk.next))
  unfolding steps_left
  left-on a b = rw (le-ltb walk.next walk.least a) (walk-link walk.side.now walk.next b)

  pub left-next : walk.least ≤ walk.next → walk.next < 256 → {k : ℕ} → k ≡ link_at walk.side.now walk.next
      → steps_left walk ≡ walk.next ∷ steps_left (record { side = walk.side; next = k; least = walk.next + 1 })
  unfolding steps_left
  left-next a b e =
      left-on a b ∙ ap (λ (k : ℕ). walk.next ∷ cond (ltb k (walk.next + 1)) [] (linked_from walk.side.now 256 k)) (sym e)

-- what a walk gives is a step
pub left-below : (walk : StepsFrom) {j : ℕ} {js : List ℕ} → steps_left walk ≡ j ∷ js → j < 256
left-below walk {j} {js} e = elim (dec_lt walk.next walk.least) [
  | yes b ↦ (let d = ap length (sym e ∙ left-none walk b) in absurd (omega (arith, d)))
  | no b ↦ elim (dec_lt walk.next 256) [
    | yes l ↦ rw (← ap (λ (l : List ℕ). get_or l 0 0) (sym (left-on walk (omega arith) l) ∙ e)) l
    | no l ↦ (let d = ap length (sym e ∙ left-past walk (omega arith)) in absurd (omega (arith, d)))
  ]
]
