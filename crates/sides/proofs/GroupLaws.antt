-- The walk along the links for a key: it gives the states that steps with this key from a state enter. So it does while the steps are linked, from the last to
-- the first, of the steps that are linked so far. Assumes nothing.
use Prim.Native.Nat.{ℕ, zero, suc, ◌-◌, ◌^◌, ◌≤◌, ◌<◌}
use mathlib.Core.Path.{◌≡◌, refl, sym, ap, ◌∙◌, subst}
use mathlib.Core.Bool.{Bool, ◌&&◌}
use mathlib.Core.List.{List, [], ◌∷◌}
use native.Mathlib.Omega.{arith}
use native.Mathlib.Decide.{ℕ_discrete, dec_lt}
use lib.Dec.{T, eqb, leb, eqb→eq, leb→le, le→leb}
use borrow.Author.Tests.{eq-eqb, ne_eqb}
use Rattle.lists.specs.Below.{any_below}
use Rattle.lists.proofs.BoolLaws.{and_l, and_r, and_i, not-T-false, same-T}
use Rattle.lists.proofs.BelowLaws.{any-e, any-i, any_none}
use Rattle.words.specs.Bits.{has_bit}
use Rattle.words.proofs.BitLaws.{has-empty}
use Rattle.bisimulation.specs.Systems.{System}
use Rattle.sides.specs.declared.Side.{Side}
use Rattle.sides.specs.Side.{link_at, group_at, key_at, silent_from}
use Rattle.sides.specs.Side.{first_step, next_step, linked_from, steps_in, group_along, entered_by}
use Rattle.sides.specs.Built.{NextFrom, LinkedFrom, goes_by}
use Rattle.sides.proofs.WalkLaws.{next-later, walk-next, walk_end}

-- ---- the walk, as the code makes it

module _ (side : Side) (key : ℕ) {left : List ℕ} where
  pub group-hit : {j : ℕ} {js : List ℕ} → left ≡ j ∷ js → key_at side j ≡ key → group_along side key left ≡ group_at side j
  unfolding group_along
  group-hit {j} l e = rw (l, eq-eqb (key_at side j) key e)

  pub group-miss : {j : ℕ} {js : List ℕ} → left ≡ j ∷ js → (key_at side j ≡ key → ⊥) → group_along side key left ≡ group_along side key js
  unfolding group_along
  group-miss {j} l n = rw (l, ne_eqb (key_at side j) key n)

  pub group-end : left ≡ [] → group_along side key left ≡ 0
  unfolding group_along
  group-end l = rw l

-- it gives the states entered by a key that is not 0
pub group-start : (side : Side) (s key : ℕ) → (key ≡ 0 → ⊥) → entered_by side s key ≡ group_along side key (steps_in side s)
unfolding entered_by
group-start side s key n = rw (ne_eqb key 0 n)

pub silent-start : (side : Side) (s key : ℕ) → key ≡ 0 → entered_by side s key ≡ silent_from side s
unfolding entered_by
silent-start side s key e = rw (eq-eqb key 0 e)

-- ---- what it finds

-- numbers that fail the test make no difference
pub any-skip : (m a b : ℕ) (P : ℕ → Bool) → a ≤ b → ((i : ℕ) → a ≤ i → i < b → i < m → T (P i) → ⊥)
    → any_below m (λ i. leb a i && P i) ≡ any_below m (λ i. leb b i && P i)
any-skip m a b P h none = same-T _ _ onward back
  where
    onward : T (any_below m (λ i. leb a i && P i)) → T (any_below m (λ i. leb b i && P i))
    onward t =
        let q = any-e _ _ t in
        let p = and_r (leb a q.0) (P q.0) q.2 in
        let l = leb→le a q.0 (and_l (leb a q.0) (P q.0) q.2) in
        elim (dec_lt q.0 b) [
          | yes c ↦ absurd (none q.0 l c q.1 p)
          | no c ↦ any-i _ _ q.0 q.1 (and_i (leb b q.0) (P q.0) (le→leb b q.0 (omega arith)) p)
        ]

    back : T (any_below m (λ i. leb b i && P i)) → T (any_below m (λ i. leb a i && P i))
    back t =
        let q = any-e _ _ t in
        let l = leb→le b q.0 (and_l (leb b q.0) (P q.0) q.2) in
        any-i _ _ q.0 q.1 (and_i (leb a q.0) (P q.0) (le→leb a q.0 (omega arith)) (and_r (leb b q.0) (P q.0) q.2))

module _ (S : System) (keys : ℕ → ℕ) (side : Side) (first : ℕ) (few : S.steps ≤ 256) (same : (j : ℕ) → key_at side j ≡ keys j)
    (w : LinkedFrom S keys first side) where
  -- a step that goes from s by the key does so
  goes-from : (s key u k : ℕ) → T (goes_by S keys s key u k) → S.from k ≡ s
  goes-from s key u k h = eqb→eq _ _ (and_l (eqb (S.from k) s) (eqb key (keys k) && eqb (S.to k) u) h)

  goes-key : (s key u k : ℕ) → T (goes_by S keys s key u k) → key ≡ keys k
  goes-key s key u k h =
      eqb→eq _ _ (and_l (eqb key (keys k)) (eqb (S.to k) u) (and_r (eqb (S.from k) s) (eqb key (keys k) && eqb (S.to k) u) h))

  -- past the last step there is none left
  ended : (s a k key u : ℕ) → 256 ≤ k → NextFrom S s a k
      → has_bit (group_along side key (linked_from side 256 k)) u ≡ any_below S.steps (λ i. leb a i && goes_by S keys s key u i)
  unfolding group_along
  ended s a k key u l w' =
      ap (λ (x : List ℕ). has_bit (group_along side key x) u) (walk_end side k l) ∙ has-empty u
      ∙ sym (not-T-false _ (any_none _ _ (λ i b h.
      let f = few in
      w'.none i (leb→le a i (and_l (leb a i) _ h)) (omega arith) b (goes-from s key u i (and_r (leb a i) (goes_by S keys s key u i) h)))))

  -- from step k on, the first from s that is numbered a or more, the first with the key knows the states that those with it enter
  along : (n s a k key u : ℕ) → 256 - k ≤ n → s < 64 → u < 64 → first ≤ a → (key ≡ 0 → ⊥) → NextFrom S s a k
      → has_bit (group_along side key (linked_from side 256 k)) u ≡ any_below S.steps (λ i. leb a i && goes_by S keys s key u i)
  unfolding group_along
  along zero s a k key u b hs hu ha nz w' = ended s a k key u (omega arith) w'
  along (suc n) s a k key u b hs hu ha nz w' = elim (dec_lt k 256) [
    | yes l ↦
        let q = w'.here l in
        let m = q.0 in
        let e = q.1 in
        let r = w'.reached in
        let next = w.next k (omega arith) m (rw e hs) in
        let r' = next.reached in
        let z : link_at side k ≡ next_step side k = next-later side k refl (omega arith) in
        let later : NextFrom S s (suc k) (next_step side k) = rw (← z) (subst (λ (x : ℕ). NextFrom S x (suc k) (link_at side k)) e next) in
        ap (λ (x : List ℕ). has_bit (group_along side key x) u) (walk-next side k l)
        ∙ elim (ℕ_discrete (keys k) key) [
          | yes d ↦ rw (eq-eqb (key_at side k) key (same k ∙ d))
              (w.group k (omega arith) m (rw e hs) (λ y. nz (sym d ∙ y)) u hu
              ∙ ap (λ (x : ℕ). any_below S.steps (λ i. leb k i && goes_by S keys x (keys k) u i)) e
              ∙ ap (λ (x : ℕ). any_below S.steps (λ i. leb k i && goes_by S keys s x u i)) d
              ∙ sym (any-skip S.steps a k (goes_by S keys s key u) r (λ i c x f t. w'.none i c x f (goes-from s key u i t))))
          | no d ↦ rw (ne_eqb (key_at side k) key (λ y. d (sym (same k) ∙ y)))
              (along n s (suc k) (next_step side k) key u (omega (arith, r', z, b, l)) hs hu (omega arith) nz later
              ∙ sym (any-skip S.steps a (suc k) (goes_by S keys s key u) (omega arith) (λ i c x f t. elim (ℕ_discrete i k) [
                | yes g ↦ d (subst (λ (y : ℕ). keys y ≡ key) g (sym (goes-key s key u i t)))
                | no g ↦ w'.none i c (omega arith) f (goes-from s key u i t)
              ])))
        ]
    | no l ↦ ended s a k key u (omega arith) w'
  ]

  -- the states that steps with the key from s enter, of those that are linked
  pub entered-known : (s : ℕ) → s < 64 → (key u : ℕ) → u < 64
      → has_bit (entered_by side s key) u ≡ any_below S.steps (λ i. leb first i && goes_by S keys s key u i)
  unfolding entered_by steps_in
  entered-known s hs key u hu = elim (ℕ_discrete key 0) [
    | yes e ↦ rw (e) (w.silent s hs u hu)
    | no e ↦ rw (ne_eqb key 0 e) (along 256 s first (first_step side s) key u (omega arith) hs hu (omega arith) e (w.first s hs))
  ]

  group-small : (key : ℕ) (js : List ℕ) → group_along side key js < 2 ^ 64
  unfolding group_along
  group-small key [] = omega arith
  group-small key (j ∷ js) = elim (ℕ_discrete (key_at side j) key) [
    | yes e ↦ rw (eq-eqb (key_at side j) key e) (w.group< j)
    | no e ↦ rw (ne_eqb (key_at side j) key e) (group-small key js)
  ]

  pub entered-small : (s key : ℕ) → entered_by side s key < 2 ^ 64
  unfolding entered_by
  entered-small s key = elim (ℕ_discrete key 0) [
    | yes e ↦ rw (eq-eqb key 0 e) (w.silent< s)
    | no e ↦ rw (ne_eqb key 0 e) (group-small key (steps_in side s))
  ]
