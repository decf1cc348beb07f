-- Laws of the word of the unpaired starts: what the walk over their starts keeps, what it ends with, and that the first state of the word is the first
-- unpaired start. Assumes nothing.
use Rattle.std.specs.Prelude.{Err, Some, None}
use Prim.Native.Nat.{ℕ, ◌+◌, ◌≤◌, ◌<◌}
use mathlib.Core.Path.{◌≡◌, sym, ap, ap₂, ◌∙◌, subst}
use mathlib.Core.Logic.{⊎_elim}
use mathlib.Core.Bool.{Bool, true, false, cond, not, ◌&&◌}
use native.Mathlib.Omega.{arith}
use native.Mathlib.Decide.{ℕ_discrete, dec_lt}
use lib.Dec.{T, T_not, not_T}
use Rattle.lists.specs.Below.{any_below, some_below}
use Rattle.lists.proofs.BoolLaws.{and_l, and_r, and_i, T-dec, T_true, not-T-false, same-T}
use Rattle.lists.proofs.BelowLaws.{any-i, any_none}
use Rattle.words.specs.Bits.{has_bit, first_bit, without_bits}
use Rattle.words.proofs.BitLaws as bits
use Rattle.answers.specs.Verdicts.{Verdict, passed}
use Rattle.answers.proofs.VerdictLaws.{of_none, of-hit}
use Rattle.sides.specs.declared.Side.{Side}
use Rattle.sides.specs.Side.{system_in, related_to}
use Rattle.sides.proofs.ViewLaws.{states-few}
use Rattle.starts.specs.StartsVerdict.{unpaired_answer}
use Rattle.starts.specs.StartsVerdict.{unpaired, unpaired_verdict}
use Rattle.starts.specs.StartsVerdict.{view_by_theirs}
use Rattle.starts.specs.Unpairing.{UnpairedWord}
use Rattle.lists.proofs.SomeLaws.{some-e, none-e}

module _ (ours theirs : Side) where
  -- ---- the walk over their starts

  -- A start of ours, and a start of theirs that is related to it.
  abbrev Start : ℕ → Type 0
  Start s = T ((system_in ours).initial s)

  abbrev Pairs : ℕ → ℕ → Type 0
  Pairs s u = T ((system_in theirs).initial u) × T (has_bit (related_to theirs u) s)

  -- Their starts before t are done: `alone` has our starts that none of those is related to.
  pub record Unpairing (t alone : ℕ) : Type 0 where
    pub own : (s : ℕ) → T (has_bit alone s) → Start s
    pub none : (s u : ℕ) → T (has_bit alone s) → u < t → ¬ Pairs s u
    pub some : (s : ℕ) → Start s → ¬ T (has_bit alone s) → (u : ℕ) × (u < (system_in theirs).states) × Pairs s u

  pub unpairing-start : {t alone : ℕ} → alone ≡ ours.initial.0 → ((u : ℕ) → 0 ≤ u → u < t → (system_in theirs).initial u ≡ false) → Unpairing t alone
  unpairing-start {t} {alone} e gap =
      record {
        own = λ s b. rw e at b;
        none = λ s u b l p. subst T (gap u (omega arith) l) p.0;
        some = λ s i n. absurd (n (rw e i));
      }

  pub unpairing-next : {t alone t' alone' : ℕ} → Unpairing t alone → t < (system_in theirs).states → (system_in theirs).initial t ≡ true
      → alone' ≡ without_bits alone (related_to theirs t) → ((u : ℕ) → t + 1 ≤ u → u < t' → (system_in theirs).initial u ≡ false) → Unpairing t' alone'
  unpairing-next {t} {alone} {t'} {alone'} w h here e gap =
      let bit : (s : ℕ) → has_bit alone' s ≡ (has_bit alone s && not (has_bit (related_to theirs t) s)) =
      λ s. ap (λ (x : ℕ). has_bit x s) e ∙ bits.has-without alone (related_to theirs t) s in
      let kept : (s : ℕ) → T (has_bit alone' s) → T (has_bit alone s) = λ s b. and_l (has_bit alone s) _ (subst T (bit s) b) in
      record {
        own = λ s b. w.own s (kept s b);
        none = λ s u b l p. elim (dec_lt u t) [
          | yes k ↦ w.none s u (kept s b) k p
          | no k ↦ elim (ℕ_discrete u t) [
            | yes z ↦ T_not (has_bit (related_to theirs t) s) (and_r (has_bit alone s) _ (subst T (bit s) b)) (rw (← z) p.1)
            | no z ↦ subst T (gap u (omega arith) l) p.0
          ]
        ];
        some = λ s i m. ⊎_elim
            (λ (b : T (has_bit alone s)).
            ⊎_elim (λ (r : T (has_bit (related_to theirs t) s)). (t, h, (subst T (sym here) tt, r)))
            (λ r. absurd (m (subst T (sym (bit s)) (and_i (has_bit alone s) _ b (not_T (has_bit (related_to theirs t) s) r)))))
            (T-dec (has_bit (related_to theirs t) s)))
            (λ b. w.some s i b) (T-dec (has_bit alone s));
      }

  pub unpairing-end : {t alone : ℕ} → Unpairing t alone → (system_in theirs).states ≤ t → UnpairedWord ours theirs alone
  unfolding unpaired
  unpairing-end {t} {alone} w l =
      record {
        starts-are = λ s.
            let paired : ℕ → Bool = λ u. (system_in theirs).initial u && has_bit (related_to theirs u) s in
            same-T (has_bit alone s) ((system_in ours).initial s && not (any_below (system_in theirs).states paired))
            (λ b. and_i ((system_in ours).initial s) _ (w.own s b)
            (not_T (any_below (system_in theirs).states paired)
            (any_none (system_in theirs).states paired
            (λ u k p. w.none s u b (omega arith) (and_l ((system_in theirs).initial u) _ p, and_r ((system_in theirs).initial u) _ p)))))
            (λ b. ⊎_elim (λ k. k)
            (λ k.
            let i = and_l ((system_in ours).initial s) _ b in
            let p = w.some s i k in
            absurd (T_not (any_below (system_in theirs).states paired) (and_r ((system_in ours).initial s) _ b)
            (any-i (system_in theirs).states paired p.0 p.1 (and_i ((system_in theirs).initial p.0) _ p.2.0 p.2.1))))
            (T-dec (has_bit alone s)));
      }

  -- ---- the first unpaired start

  module _ (side : ℕ) {word : ℕ} (w : UnpairedWord ours theirs word) where
    abbrev at : ℕ → Verdict (Unit {0})
    at i = cond (unpaired (view_by_theirs ours theirs) i) (Err (unpaired_answer side i)) passed

    passes : (i : ℕ) → i < first_bit word → at i ≡ passed
    passes i l =
        ap (λ (b : Bool). cond b (Err (unpaired_answer side i)) passed)
        (sym (w.starts-are i) ∙ not-T-false (has_bit word i) (bits.first-least word i l))

    here : first_bit word < (system_in ours).states → Err (unpaired_answer side (first_bit word)) ≡ unpaired_verdict (view_by_theirs ours theirs) side
    unfolding unpaired_verdict
    here l =
        let few = states-few ours in
        let s = first_bit word in
        let b : T (has_bit word s) = bits.first-has word (omega arith) in
        let hit : at s ≡ Err (unpaired_answer side s) =
        ap (λ (b : Bool). cond b (Err (unpaired_answer side s)) passed) (sym (w.starts-are s) ∙ T_true (has_bit word s) b) in
        sym (of-hit (system_in ours).states s at (unpaired_answer side s) l passes hit)

    pub nowhere : (system_in ours).states ≤ first_bit word → passed ≡ unpaired_verdict (view_by_theirs ours theirs) side
    unfolding unpaired_verdict
    nowhere l = sym (of_none (system_in ours).states at (λ i k. passes i (omega arith)))

    module _ {n : ℕ} (e : n ≡ (system_in ours).states) where
      pub unpaired-here : {a s : ℕ} → a ≡ side → some_below 64 (first_bit word) ≡ Some s → s < n
          → Err (unpaired_answer a s) ≡ unpaired_verdict (view_by_theirs ours theirs) side
      unpaired-here {a} {s} d f l =
          let z : s ≡ first_bit word = sym (some-e f).1 in
          ap₂ (λ (a s : ℕ). Err (unpaired_answer a s)) d z ∙ here (omega arith)

      pub unpaired-past : {s : ℕ} → some_below 64 (first_bit word) ≡ Some s → n ≤ s → passed ≡ unpaired_verdict (view_by_theirs ours theirs) side
      unpaired-past f l = let z = (some-e f).1 in nowhere (omega arith)

    pub unpaired-nowhere : some_below 64 (first_bit word) ≡ None → passed ≡ unpaired_verdict (view_by_theirs ours theirs) side
    unpaired-nowhere f = let few = states-few ours in let l = none-e f in nowhere (omega arith)
