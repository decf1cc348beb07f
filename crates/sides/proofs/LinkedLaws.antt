-- Where the ends of all steps are below 64, the links of a side lead along the steps from each state in table order, and it knows the states that these
-- enter. Assumes nothing.
use Prim.Native.Nat.{ℕ, zero, suc, ◌-◌, ◌^◌, ◌≤◌, ◌<◌}
use mathlib.Core.Path.{◌≡◌, refl, sym, ap, ◌∙◌, subst}
use mathlib.Core.Logic.{◌⊎◌, inl, inr, ⊎_elim}
use mathlib.Core.Bool.{false, cond}
use mathlib.Core.List.{List, [], ◌∷◌}
use native.Mathlib.Omega.{arith}
use native.Mathlib.Decide.{ℕ_discrete, dec_lt}
use lib.Dec.{eqb, eqb→eq}
use borrow.Author.Tests.{le-leb, eq-eqb, ne_eqb}
use Rattle.std.proofs.lemmas.List.{get_or_past}
use Rattle.lists.specs.Below.{any_below}
use Rattle.lists.proofs.BoolLaws.{and_l, and_r, not-T-false}
use Rattle.lists.proofs.BelowLaws.{any_none, any-cong}
use Rattle.lists.proofs.JoinLaws.{join_from, from_start, from_next, from-none, join-none}
use Rattle.words.specs.Bits.{has_bit}
use Rattle.words.proofs.BitLaws.{has-empty, has-high}
use Rattle.bisimulation.specs.Systems.{System, steps_from}
use Rattle.sides.specs.declared.Side.{Side}
use Rattle.sides.specs.Side.{system_in, key_at, first_step, link_at, next_step, linked_from, steps_in, group_along, entered_by}
use Rattle.sides.specs.Built.{NextFrom, LinkedFrom, Linked, goes_by}
use Rattle.sides.proofs.WalkLaws.{next-later, walk-next, walk_end}
use Rattle.sides.proofs.GroupLaws.{entered-known, entered-small}

module _ (side : Side) (from< : (j : ℕ) → j < (system_in side).steps → (system_in side).from j < 64)
    (to< : (j : ℕ) → j < (system_in side).steps → (system_in side).to j < 64)
    (w : LinkedFrom (system_in side) (key_at side) 0 side) where
  abbrev S : System
  S = system_in side

  few : S.steps ≤ 256
  few = omega arith

  -- step j, where it leaves s
  abbrev here : ℕ → ℕ → List ℕ
  here s j = cond (eqb (S.from j) s) (j ∷ []) []

  -- past the last step there is none left
  ended : (s a k : ℕ) → 256 ≤ k → NextFrom S s a k → linked_from side 256 k ≡ join_from a S.steps (here s)
  ended s a k l w' =
      walk_end side k l
      ∙ sym (from-none a S.steps (here s) (λ i c d. rw (ne_eqb (S.from i) s (λ e. let f = few in w'.none i c (omega arith) d e))))

  -- from step k on, the first from s that is numbered a or more, the links lead along those from s that are numbered a or more
  along : (n s a k : ℕ) → 256 - k ≤ n → s < 64 → NextFrom S s a k → linked_from side 256 k ≡ join_from a S.steps (here s)
  along zero s a k b hs w' = ended s a k (omega arith) w'
  along (suc n) s a k b hs w' = elim (dec_lt k 256) [
    | yes l ↦
        let q = w'.here l in
        let m = q.0 in
        let next = w.next k (omega arith) m (rw q.1 hs) in
        let r = next.reached in
        let e : link_at side k ≡ next_step side k = next-later side k refl (omega arith) in
        let later : NextFrom S s (suc k) (next_step side k) = rw (← e) (subst (λ (x : ℕ). NextFrom S x (suc k) (link_at side k)) q.1 next) in
        walk-next side k l
        ∙ ap (λ (x : List ℕ). k ∷ x) (along n s (suc k) (next_step side k) (omega (arith, r, e, b, l)) hs later)
        ∙ sym (from_next a k S.steps (here s) w'.reached m (λ i c d. rw (ne_eqb (S.from i) s (λ z. w'.none i c d (omega arith) z)))
        ∙ rw (eq-eqb (S.from k) s q.1))
    | no l ↦ ended s a k (omega arith) w'
  ]

  -- a state of 64 or more has no first step
  first-past : (s : ℕ) → 64 ≤ s → first_step side s ≡ 256
  first-past s h = get_or_past side.first s 256 (rw w.roomy.first-room h)

  steps-are : (s : ℕ) → steps_in side s ≡ steps_from S s
  unfolding steps_in steps_from
  steps-are s = elim (dec_lt s 64) [
    | yes h ↦ along 256 s 0 (first_step side s) (omega arith) h (w.first s h) ∙ sym (from_start S.steps (here s))
    | no h ↦ rw (first-past s (omega arith)) (walk_end side 256 (omega arith)
        ∙ sym (join-none S.steps (here s) (λ j l. rw (ne_eqb (S.from j) s (λ e. let f = from< j l in omega arith)))))
  ]

  -- no step goes from s to u, since one of them is 64 or more
  none-there : (s key u : ℕ) → 64 ≤ s ⊎ 64 ≤ u → any_below S.steps (goes_by S (key_at side) s key u) ≡ false
  none-there s key u b = not-T-false _ (any_none _ _ (λ k l h.
      let e : S.from k ≡ s = eqb→eq _ _ (and_l (eqb (S.from k) s) _ h) in
      let g : S.to k ≡ u = eqb→eq _ _ (and_r (eqb key (key_at side k)) (eqb (S.to k) u) (and_r (eqb (S.from k) s) _ h)) in
      let f = from< k l in
      let t = to< k l in
      ⊎_elim (λ p. omega arith) (λ p. omega arith) b))

  -- a state of 64 or more has no step
  past-empty : (s key : ℕ) → 64 ≤ s → entered_by side s key ≡ 0
  unfolding entered_by steps_in group_along
  past-empty s key h = elim (ℕ_discrete key 0) [
    | yes e ↦ rw (eq-eqb key 0 e) (get_or_past side.silent s 0 (rw w.roomy.silent-room h))
    | no e ↦ rw (ne_eqb key 0 e, first-past s h, walk_end side 256 (omega arith))
  ]

  entered-are : (s key u : ℕ) → has_bit (entered_by side s key) u ≡ any_below S.steps (goes_by S (key_at side) s key u)
  entered-are s key u = elim (dec_lt s 64) [
    | yes h ↦ elim (dec_lt u 64) [
      | yes b ↦ entered-known S (key_at side) side 0 few (λ j. refl) w s h key u b ∙ any-cong _ _ _ (λ k l. rw (le-leb 0 k (omega arith)))
      | no b ↦ has-high (entered_by side s key) 64 u (small s key) (omega arith) ∙ sym (none-there s key u (inr (omega arith)))
    ]
    | no h ↦ ap (λ (x : ℕ). has_bit x u) (past-empty s key (omega arith)) ∙ has-empty u ∙ sym (none-there s key u (inl (omega arith)))
  ]
    where
      small : (s key : ℕ) → entered_by side s key < 2 ^ 64
      small = entered-small S (key_at side) side 0 few (λ j. refl) w

  pub linked : Linked side
  linked =
      record {
        from< = from<;
        to< = to<;
        steps-are = steps-are;
        entered-are = entered-are;
        entered< = entered-small S (key_at side) side 0 few (λ j. refl) w;
      }
