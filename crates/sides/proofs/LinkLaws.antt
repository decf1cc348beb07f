-- Laws of linking the steps of a side, from the last to the first. Assumes nothing.
use Prim.Native.Nat.{ℕ, suc, ◌^◌, ◌≤◌, ◌<◌}
use mathlib.Core.Path.{◌≡◌, refl, sym, ap, ap₂, ◌∙◌, subst}
use mathlib.Core.Logic.{⊎_elim}
use mathlib.Core.Bool.{Bool, ◌&&◌, ◌||◌, and-false}
use mathlib.Core.List.{List}
use native.Mathlib.Omega.{arith}
use native.Mathlib.Decide.{ℕ_discrete, dec_lt}
use lib.Dec.{T, eqb, leb, eqb→eq, leb→le, le→leb}
use lib.ListN.{length-set, get_or}
use borrow.Author.Tests.{le-ltb, eq-eqb, ne_eqb}
use Rattle.std.proofs.lemmas.List.{get_or_past}
use Rattle.lists.specs.Below.{any_below}
use Rattle.lists.proofs.BoolLaws.{and_l, and_r, and_i, or-e, or_l, or_r, not-T-false, same-T, eq→eqb}
use Rattle.lists.proofs.BelowLaws.{any-e, any-i}
use Rattle.words.specs.Bits.{has_bit, add_bit}
use Rattle.words.proofs.BitLaws.{has-add, has-add-below, has-empty, add-word}
use Rattle.bisimulation.specs.Systems.{System}
use Rattle.tables.specs.declared.Head.{Head}
use Rattle.sides.specs.declared.Side.{Side}
use Rattle.sides.specs.Side.{system_in, key_at, silent_from, first_step, link_at, group_at, entered_by}
use Rattle.sides.specs.Built.{NextFrom, LinkedFrom, Roomy, TableIn, goes_by}
use Rattle.sides.specs.Building.{Unlinked, put_entered, put_linked, relinked}
use Rattle.sides.proofs.GroupLaws.{entered-known, entered-small}
use Rattle.sides.proofs.StoreLaws.{EnteredApart, LinkedApart, put_same, put_other, entered-apart, linked-apart, put-apart}

module _ (m : ℕ) (P : ℕ → Bool) where
  -- one step earlier
  any-from : (j : ℕ) → j < m → any_below m (λ k. leb j k && P k) ≡ (P j || any_below m (λ k. leb (suc j) k && P k))
  any-from j l = same-T _ _ onward back
    where
      onward : T (any_below m (λ k. leb j k && P k)) → T (P j || any_below m (λ k. leb (suc j) k && P k))
      onward h =
          let q = any-e _ _ h in
          let a = leb→le j q.0 (and_l (leb j q.0) (P q.0) q.2) in
          let p = and_r (leb j q.0) (P q.0) q.2 in
          elim (ℕ_discrete q.0 j) [
            | yes e ↦ or_l (P j) _ (subst (λ (k : ℕ). T (P k)) e p)
            | no e ↦ or_r (P j) _ (any-i _ _ q.0 q.1 (and_i (leb (suc j) q.0) (P q.0) (le→leb (suc j) q.0 (omega arith)) p))
          ]

      back : T (P j || any_below m (λ k. leb (suc j) k && P k)) → T (any_below m (λ k. leb j k && P k))
      back h =
          ⊎_elim
          (λ p. any-i _ _ j l (and_i (leb j j) (P j) (le→leb j j (omega arith)) p))
          (λ r.
          let q = any-e _ _ r in
          let a = leb→le (suc j) q.0 (and_l (leb (suc j) q.0) (P q.0) q.2) in
          any-i _ _ q.0 q.1 (and_i (leb j q.0) (P q.0) (le→leb j q.0 (omega arith)) (and_r (leb (suc j) q.0) (P q.0) q.2)))
          (or-e (P j) _ h)

pub eqb_swap : (a b : ℕ) → eqb a b ≡ eqb b a
eqb_swap a b = same-T _ _ (λ h. eq→eqb b a (sym (eqb→eq a b h))) (λ h. eq→eqb a b (sym (eqb→eq b a h)))

-- the walk from a state that the step does not leave begins at the same step
earlier : {S : System} {s j k : ℕ} → (S.from j ≡ s → ⊥) → NextFrom S s (suc j) k → NextFrom S s j k
earlier {S} {s} {j} {k} d w =
    let r = w.reached in
    record {
      reached = omega arith;
      none = λ i a b l e. elim (ℕ_discrete i j) [ yes q ↦ d (subst (λ (x : ℕ). S.from x ≡ s) q e) | no q ↦ w.none i (omega arith) b l e ];
      here = w.here;
    }

-- a state below 64 is added as it is
add-below : (x t u : ℕ) → u < 64 → has_bit (add_bit x t) u ≡ (eqb u t || has_bit x u)
add-below x t u h = elim (dec_lt t 64) [
  | yes l ↦ has-add-below x t u l
  | no l ↦ has-add x t u ∙ rw (le-ltb t 64 (omega arith), ne_eqb u t (λ z. omega arith))
]

few : (side : Side) → (system_in side).steps ≤ 256
few side = omega arith

module _ {side : Side} {j : ℕ} (w : LinkedFrom (system_in side) (key_at side) (suc j) side) (h : j < (system_in side).steps) where
  abbrev S : System
  S = system_in side

  abbrev keys : ℕ → ℕ
  keys = key_at side

  abbrev s : ℕ
  s = S.from j

  abbrev key : ℕ
  key = keys j

  abbrev word : ℕ
  word = add_bit (entered_by side s key) (S.to j)

  abbrev after : Side
  after = put_linked side s j key word

  hj : j < 256
  hj = let f = few side in omega arith

  -- ---- the word of the states that are entered

  word-new : s < 64 → (u : ℕ) → u < 64 → has_bit word u ≡ any_below S.steps (λ k. leb j k && goes_by S keys s key u k)
  word-new hs u hu =
      add-below (entered_by side s key) (S.to j) u hu
      ∙ ap₂ ◌||◌ (eqb_swap u (S.to j)) (entered-known S keys side (suc j) (few side) (λ i. refl) w s hs key u hu)
      ∙ sym (any-from S.steps (goes_by S keys s key u) j h ∙ rw (eq-eqb s s refl, eq-eqb key key refl))

  word_small : word < 2 ^ 64
  word_small = add-word (entered_by side s key) (S.to j) (entered-small S keys side (suc j) (few side) (λ i. refl) w s key)

  -- ---- where it is stored

  -- the store of the states that are entered, and those of the links after it
  abbrev entered : EnteredApart side (put_entered side s j key word) key
  entered = entered-apart side s j key word

  abbrev linked : LinkedApart (put_entered side s j key word) after s j
  linked = linked-apart side s j key word

  -- the word at s of a silent step, and as before otherwise
  silent-here : key ≡ 0 → s < 64 → silent_from after s ≡ word
  silent-here e hs = rw (eq-eqb key 0 e) (put_same side.silent s word 0 (rw w.roomy.silent-room hs))

  silent-other : key ≡ 0 → (x : ℕ) → (x ≡ s → ⊥) → silent_from after x ≡ silent_from side x
  silent-other e x d = rw (eq-eqb key 0 e) (put_other side.silent s word 0 x d)

  silent-kept : (key ≡ 0 → ⊥) → (x : ℕ) → silent_from after x ≡ silent_from side x
  silent-kept n x = ap (λ (l : List ℕ). get_or l x 0) (linked.silent ∙ entered.silent n)

  -- the word at j of any other, and as before otherwise
  group-here : (key ≡ 0 → ⊥) → group_at after j ≡ word
  group-here n = rw (ne_eqb key 0 n) (put_same side.group j word 0 (rw w.roomy.group-room hj))

  group-silent : key ≡ 0 → (x : ℕ) → group_at after x ≡ group_at side x
  group-silent e x = ap (λ (l : List ℕ). get_or l x 0) (linked.group ∙ entered.group e)

  group-other : (x : ℕ) → (x ≡ j → ⊥) → group_at after x ≡ group_at side x
  group-other x d = elim (ℕ_discrete key 0) [
    | yes e ↦ group-silent e x
    | no n ↦ rw (ne_eqb key 0 n) (put_other side.group j word 0 x d)
  ]

  -- the link of the step itself, and that of the state that it leaves
  next_here : link_at after j ≡ first_step side s
  next_here = put_same side.next j (first_step side s) 0 (rw w.roomy.next-room hj)

  next-other : (x : ℕ) → (x ≡ j → ⊥) → link_at after x ≡ link_at side x
  next-other x d = ap (λ (l : List ℕ). get_or l x 0) linked.next ∙ put_other side.next j (first_step side s) 0 x d

  first-here : s < 64 → first_step after s ≡ j
  first-here hs = put_same side.first s j 256 (rw w.roomy.first-room hs)

  first-other : (x : ℕ) → (x ≡ s → ⊥) → first_step after x ≡ first_step side x
  first-other x d = ap (λ (l : List ℕ). get_or l x 256) linked.first ∙ put_other side.first s j 256 x d

  roomy-after : Roomy after
  roomy-after =
      let r = w.roomy in
      record {
        silent-room = elim (ℕ_discrete key 0) [
          | yes e ↦ rw (eq-eqb key 0 e) (length-set side.silent s word ∙ r.silent-room)
          | no n ↦ rw (ne_eqb key 0 n) r.silent-room
        ];
        first-room = length-set side.first s j ∙ r.first-room;
        next-room = length-set side.next j (first_step side s) ∙ r.next-room;
        group-room = elim (ℕ_discrete key 0) [
          | yes e ↦ rw (eq-eqb key 0 e) r.group-room
          | no n ↦ rw (ne_eqb key 0 n) (length-set side.group j word ∙ r.group-room)
        ];
      }

  -- ---- what is known afterwards

  silent-more : (x : ℕ) → x < 64 → (u : ℕ) → u < 64
      → has_bit (silent_from after x) u ≡ any_below S.steps (λ k. leb j k && goes_by S keys x 0 u k)
  silent-more x hx u hu = elim (ℕ_discrete key 0) [
    | yes e ↦ elim (ℕ_discrete x s) [
      | yes q ↦ ap (λ (i : ℕ). has_bit (silent_from after i) u) q ∙ ap (λ (y : ℕ). has_bit y u) (silent-here e (omega arith))
          ∙ word-new (omega arith) u hu
          ∙ ap (λ (y : ℕ). any_below S.steps (λ k. leb j k && goes_by S keys s y u k)) e
          ∙ sym (ap (λ (i : ℕ). any_below S.steps (λ k. leb j k && goes_by S keys i 0 u k)) q)
      | no q ↦ ap (λ (y : ℕ). has_bit y u) (silent-other e x q) ∙ w.silent x hx u hu
          ∙ sym (any-from S.steps (goes_by S keys x 0 u) j h ∙ rw (ne_eqb s x (λ z. q (sym z))))
    ]
    | no n ↦ ap (λ (y : ℕ). has_bit y u) (silent-kept n x) ∙ w.silent x hx u hu
        ∙ sym (any-from S.steps (goes_by S keys x 0 u) j h ∙ rw (ne_eqb 0 key (λ z. n (sym z)), and-false (eqb s x)))
  ]

  group-more : (i : ℕ) → j ≤ i → i < S.steps → S.from i < 64 → (keys i ≡ 0 → ⊥) → (u : ℕ) → u < 64
      → has_bit (group_at after i) u ≡ any_below S.steps (λ k. leb i k && goes_by S keys (S.from i) (keys i) u k)
  group-more i a b c d u hu = elim (ℕ_discrete i j) [
    | yes q ↦ subst
        (λ (x : ℕ). has_bit (group_at after x) u ≡ any_below S.steps (λ k. leb x k && goes_by S keys (S.from x) (keys x) u k)) (sym q)
        (let nz : key ≡ 0 → ⊥ = λ z. d (ap keys q ∙ z) in
        let hs : s < 64 = subst (λ (x : ℕ). S.from x < 64) q c in
        ap (λ (y : ℕ). has_bit y u) (group-here nz) ∙ word-new hs u hu)
    | no q ↦ ap (λ (y : ℕ). has_bit y u) (group-other i q) ∙ w.group i (omega arith) b c d u hu
  ]

  silent-small : (x : ℕ) → silent_from after x < 2 ^ 64
  silent-small x = elim (dec_lt x 64) [
    | yes k ↦ elim (ℕ_discrete key 0) [
      | yes e ↦ elim (ℕ_discrete x s) [
        | yes q ↦ rw (q, silent-here e (omega arith)) word_small
        | no q ↦ rw (silent-other e x q) (w.silent< x)
      ]
      | no n ↦ rw (silent-kept n x) (w.silent< x)
    ]
    | no k ↦ rw (get_or_past after.silent x 0 (rw roomy-after.silent-room (omega arith))) (omega arith)
  ]

  group-small : (x : ℕ) → group_at after x < 2 ^ 64
  group-small x = elim (ℕ_discrete x j) [
    | yes q ↦ elim (ℕ_discrete key 0) [
      | yes e ↦ rw (group-silent e x) (w.group< x)
      | no n ↦ rw (q, group-here n) word_small
    ]
    | no q ↦ rw (group-other x q) (w.group< x)
  ]

  -- one step more is linked
  links-more : LinkedFrom S keys j after
  links-more =
      record {
        roomy = roomy-after;
        first = λ x k. elim (ℕ_discrete x s) [
          | yes q ↦ subst (λ (i : ℕ). NextFrom S i j (first_step after i)) (sym q)
              (rw (first-here (omega arith)) (record { reached = omega arith; none = λ i a b c d. omega arith; here = λ _. (h, refl) }))
          | no q ↦ rw (first-other x q) (earlier (λ z. q (sym z)) (w.first x k))
        ];
        next = λ i a k b. elim (ℕ_discrete i j) [
          | yes q ↦ let hs : s < 64 = subst (λ (x : ℕ). S.from x < 64) q b in
              subst (λ (x : ℕ). NextFrom S (S.from x) (suc x) (link_at after x)) (sym q) (rw next_here (w.first s hs))
          | no q ↦ rw (next-other i q) (w.next i (omega arith) k b)
        ];
        next-none = λ i a k b. elim (ℕ_discrete i j) [
          | yes q ↦ let hs : 64 ≤ s = subst (λ (x : ℕ). 64 ≤ S.from x) q b in
              ap (link_at after) q ∙ next_here ∙ get_or_past side.first s 256 (rw w.roomy.first-room hs)
          | no q ↦ next-other i q ∙ w.next-none i (omega arith) k b
        ];
        silent = silent-more;
        group = group-more;
        silent< = silent-small;
        group< = group-small;
      }

-- ---- as the code does it

-- The table is there, and the steps numbered a or more are linked.
pub record LinksIn (h : Head) (labels steps words : List ℕ) (a : ℕ) (side : Side) : Type 0 where
  pub table : TableIn h labels steps words side
  pub linked : LinkedFrom (system_in side) (key_at side) a side
  pub below : a ≤ (system_in side).steps

-- before the first of them no step is linked
pub links-start : {h : Head} {labels steps words : List ℕ} {side : Side} → Unlinked h labels steps words side
    → LinksIn h labels steps words (system_in side).steps side
links-start {side = side} w =
    let f = few side in
    record {
      table = w.table;
      below = omega arith;
      linked = record {
        roomy = w.roomy;
        first = λ s h. rw (w.no-first s) (record { reached = f; none = λ i a b c d. absurd (omega arith); here = λ b. absurd (omega arith) });
        next = λ j a b c. absurd (omega arith);
        next-none = λ j a b c. absurd (omega arith);
        silent = λ s h u k. ap (λ (x : ℕ). has_bit x u) (w.no-silent s) ∙ has-empty u ∙ sym (not-T-false _ (none_from s u));
        group = λ j a b c d u k. absurd (omega arith);
        silent< = λ s. rw (w.no-silent s) (omega arith);
        group< = λ j. rw (w.no-group j) (omega arith);
      };
    }
  where
    none_from : (s u : ℕ) → T (any_below (system_in side).steps (λ k. leb (system_in side).steps k && goes_by (system_in side) (key_at side) s 0 u k)) → ⊥
    none_from s u b =
        let q = any-e _ _ b in
        let a : (system_in side).steps ≤ q.0 = leb→le _ _ (and_l (leb (system_in side).steps q.0) _ q.2) in
        omega (arith, a, q.1)

pub links-next : {h : Head} {labels steps words : List ℕ} {side : Side} {j : ℕ} → LinksIn h labels steps words (suc j) side
    → LinksIn h labels steps words j (relinked side j)
unfolding relinked
links-next {side = side} {j} w =
    let t = w.table in
    let l = w.below in
    let a = put-apart side j in
    record {
      table = record {
        states-is = a.states ∙ t.states-is;
        steps-is = a.steps ∙ t.steps-is;
        initial-is = t.initial-is;
        word-is = a.word ∙ t.word-is;
        related-is = a.related ∙ t.related-is;
        labels-are = t.labels-are;
        from-are = t.from-are;
        to-are = t.to-are;
        keys-are = t.keys-are;
      };
      linked = links-more w.linked l;
      below = omega arith;
    }
