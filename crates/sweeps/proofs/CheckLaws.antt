-- Laws of the checks of a pair, of a left state and of all: how the judge goes on from one to the next. Assumes nothing.
use Rattle.std.specs.Prelude.{Ok, Err}
use Prim.Native.Nat.{ℕ, suc, ◌+◌, ◌*◌, ◌^◌, ◌≤◌, ◌<◌}
use mathlib.Core.Path.{◌≡◌, refl, sym, ap, ap₂, ◌∙◌}
use mathlib.Core.Bool.{Bool, true, false, cond}
use mathlib.Core.List.{List, [], ◌∷◌, ◌++◌, map}
use native.Mathlib.Numerals.{add-one}
use native.Mathlib.Omega.{arith}
use native.Mathlib.Decide.{ℕ_discrete}
use lib.Dec.{T, eqb}
use lib.ListN.{length, length-append}
use borrow.Author.Tests.{eq-eqb, ne_eqb}
use Rattle.lists.specs.Lists.{join_below}
use Rattle.lists.proofs.BoolLaws.{T_true, not-T-false}
use Rattle.lists.proofs.JoinLaws.{join_from, from-cong, from_start, from-skip, from_next, from-none, join-cong, join-none, join-length}
use Rattle.lists.proofs.JoinLaws.{map-append, map-join, map-when}
use Rattle.words.specs.Bits.{has_bit, first_bit, remove_bit}
use Rattle.words.proofs.BitLaws as bits
use Rattle.answers.specs.Verdicts.{Verdict, along}
use Rattle.answers.specs.declared.Answer.{Answer}
use Rattle.sides.specs.declared.Side.{Side}
use Rattle.sides.specs.Side.{system_in, related_to, steps_in}
use Rattle.obligations.specs.declared.Run.{Run}
use Rattle.obligations.specs.CheckAnswers.{labels_answer}
use Rattle.obligations.specs.Judging.{Check, left_step, right_step, pair_checks, checks_by, Finding, nothing}
use Rattle.obligations.specs.OnSides.{checks_in}
use Rattle.sweeps.specs.declared.Tally.{Tally}
use Rattle.sweeps.specs.Tallies.{total}
use Rattle.sweeps.specs.SideVerdicts.{progress, swept, verdict_in, pair_verdicts, row_verdicts, all_verdicts}
use Rattle.sweeps.proofs.ProgressLaws.{progress-on, progress-stop, progress-total}
use Rattle.sweeps.proofs.SweepLaws.{swept-few}

map-map : {A B C : Type 0} (g : B → C) (f : A → B) (xs : List A) → map g (map f xs) ≡ map (λ x. g (f x)) xs
map-map g f [] = refl
map-map g f (x ∷ xs) = ap (λ (l : List _). g (f x) ∷ l) (map-map g f xs)

module _ (ours theirs : Side) (certificate : List ℕ) (left right : Run) where
  abbrev verdict : Check → Verdict Finding
  verdict = verdict_in ours theirs certificate left right

  abbrev pair : ℕ → ℕ → List (Verdict Finding)
  pair = pair_verdicts ours theirs certificate left right

  abbrev row : ℕ → List (Verdict Finding)
  row = row_verdicts ours theirs certificate left right

  abbrev all : List (Verdict Finding)
  all = all_verdicts ours theirs certificate left right

  abbrev states : ℕ
  states = (system_in ours).states

  abbrev states' : ℕ
  states' = (system_in theirs).states

  -- ---- a pair

  module _ (s t : ℕ) where
    -- the verdicts on the left steps, and on the right steps
    abbrev pub left_verdicts : List (Verdict Finding)
    left_verdicts = swept ours theirs certificate left (record { side = 0; own = s; other = t })

    abbrev pub right_verdicts : List (Verdict Finding)
    right_verdicts = swept theirs ours certificate right (record { side = 1; own = t; other = s })

    pair_is : pair s t
        ≡ cond (eqb ((system_in ours).label s) ((system_in theirs).label t)) (Ok nothing) (Err (labels_answer s t)) ∷ left_verdicts ++ right_verdicts
    unfolding pair_verdicts pair_checks verdict_in swept
    pair_is =
        ap (λ (l : List (Verdict Finding)). cond (eqb ((system_in ours).label s) ((system_in theirs).label t)) (Ok nothing) (Err (labels_answer s t)) ∷ l)
        (map-append verdict (map (left_step s t) (steps_in ours s)) (map (right_step s t) (steps_in theirs t))
        ∙ ap₂ ◌++◌
        (map-map verdict (left_step s t) (steps_in ours s))
        (map-map verdict (right_step s t) (steps_in theirs t)))

    pub pair-few : length (pair s t) ≤ 513
    pair-few =
        let a = swept-few ours theirs certificate left (record { side = 0; own = s; other = t }) in
        let b = swept-few theirs ours certificate right (record { side = 1; own = t; other = s }) in
        let e = length-append left_verdicts right_verdicts in
        rw pair_is (omega arith)

    module _ (y : Tally) where
      pub labels-differ : ((system_in ours).label s ≡ (system_in theirs).label t → ⊥) → progress (pair s t) y ≡ Err (labels_answer s t)
      unfolding progress along
      labels-differ h = rw (pair_is, ne_eqb _ _ h)

      module _ (e : (system_in ours).label s ≡ (system_in theirs).label t) where
        labels-pass : progress (pair s t) y ≡ progress (left_verdicts ++ right_verdicts) y
        unfolding progress along
        labels-pass = rw (pair_is, eq-eqb _ _ e)

        pub left-stops : (a : Answer) → progress left_verdicts y ≡ Err a → progress (pair s t) y ≡ Err a
        left-stops a q = labels-pass ∙ progress-stop _ _ y a q

        pub left-passes : (x : Tally) → progress left_verdicts y ≡ Ok x → progress (pair s t) y ≡ progress right_verdicts x
        left-passes x q = labels-pass ∙ progress-on _ _ y x q

  -- ---- a left state: the related states in the word that are left

  module _ (s : ℕ) where
    abbrev word_verdicts : ℕ → ℕ → List (Verdict Finding)
    word_verdicts word t = cond (has_bit word t) (pair s t) []

    pub row-few : length (row s) ≤ 32832
    unfolding row_verdicts
    row-few = omega (arith, join-length (states') 513 (word_verdicts (related_to ours s)) (λ t l. when (has_bit (related_to ours s) t) _ (pair-few s t)))
      where
        when : (b : Bool) (x : List (Verdict Finding)) → length x ≤ 513 → length (cond b x []) ≤ 513
        when true x h = h
        when false x h = omega arith

    pub record InRow (start y : Tally) (word t : ℕ) : Type 0 where
      pub first : t ≡ first_bit word
      pub word< : word < 2 ^ 64
      pub left_over : progress (row s) start ≡ progress (join_below (states') (word_verdicts word)) y
      pub counted : total y ≤ total start + 513 * t

    pub row-start : (start : Tally) {word t : ℕ} → word ≡ related_to ours s → word < 2 ^ 64 → t ≡ first_bit word → InRow start start word t
    unfolding row_verdicts
    row-start start q w e =
        record {
          first = e;
          word< = w;
          left_over = ap (λ (x : ℕ). progress (join_below (states') (word_verdicts x)) start) (sym q);
          counted = omega arith;
        }

    module _ (start y : Tally) (word t : ℕ) (w : InRow start y word t) where
      -- the first state is taken out, and the rest is what stands after it
      taken : t < states' → join_below (states') (word_verdicts word)
          ≡ pair s t ++ join_below (states') (word_verdicts (remove_bit word t))
      taken h =
          let n = states' in
          let e = w.first in
          from_start n (word_verdicts word)
          ∙ from_next 0 t n (word_verdicts word) (omega arith) h (λ i _ l. rw (not-T-false (has_bit word i) (bits.first-least word i (rw (← e) l))))
          ∙ ap (λ (x : List (Verdict Finding)). x ++ join_from (suc t) n (word_verdicts word)) there
          ∙ ap (λ (x : List (Verdict Finding)). pair s t ++ x)
          (from-cong (suc t) n (word_verdicts word) (word_verdicts (remove_bit word t)) (λ i b l. ap (λ (x : Bool). cond x (pair s i) []) (stays i b))
          ∙ sym (from-skip (suc t) n (word_verdicts (remove_bit word t)) (λ i l. rw (gone i l))))
        where
          there : word_verdicts word t ≡ pair s t
          there =
              let k : t < 64 = omega arith in
              let f : first_bit word < 64 = rw (← w.first) k in
              let b : T (has_bit word t) = rw w.first (bits.first-has word f) in
              rw (T_true (has_bit word t) b)

          stays : (i : ℕ) → suc t ≤ i → has_bit word i ≡ has_bit (remove_bit word t) i
          stays i b = let e = bits.has-remove word t i w.word< in sym (rw (ne_eqb i t (λ q. omega arith)) at e)

          gone : (i : ℕ) → i < suc t → has_bit (remove_bit word t) i ≡ false
          gone i l = bits.has-remove word t i w.word< ∙ elim (ℕ_discrete i t) [
            | yes q ↦ rw (eq-eqb i t q)
            | no q ↦ rw (ne_eqb i t q, not-T-false (has_bit word i) (bits.first-least word i (rw (← w.first) (omega arith))))
          ]

      -- the next state is a greater one
      pub next-greater : t < 64 → t < first_bit (remove_bit word t)
      next-greater h = bits.first-rises word t w.word< w.first h

      pub pair-stops : (a : Answer) → t < states' → progress (pair s t) y ≡ Err a
          → progress (row s) start ≡ Err a
      pair-stops a h q = w.left_over ∙ ap (λ (x : List (Verdict Finding)). progress x y) (taken h) ∙ progress-stop _ _ y a q

      pub pair-passes : (x : Tally) {word' t' : ℕ} → t < states' → progress (pair s t) y ≡ Ok x
          → word' ≡ remove_bit word t → t' ≡ first_bit word' → InRow start x word' t'
      pair-passes x h q d e =
          let n = next-greater (omega arith) in
          let m = e ∙ ap first_bit d in
          let c = progress-total _ y x q in
          let p = pair-few s t in
          let k = w.counted in
          record {
            first = e;
            word< = rw d (bits.remove-word word t w.word<);
            left_over = w.left_over ∙ ap (λ (x : List (Verdict Finding)). progress x y) (taken h) ∙ progress-on _ _ y x q
                ∙ ap (λ (v : ℕ). progress (join_below (states') (word_verdicts v)) x) (sym d);
            counted = omega arith;
          }

      pub row-end : states' ≤ t → progress (row s) start ≡ Ok y
      unfolding progress along
      row-end h =
          w.left_over
          ∙ ap (λ (x : List (Verdict Finding)). progress x y)
          (join-none (states') (word_verdicts word) (λ i l. rw (not-T-false (has_bit word i) (bits.first-least word i (rw (← w.first) (omega arith))))))

  -- ---- all left states

  -- the verdicts of all left states are those on all checks
  all_are : all ≡ join_below (states) (row)
  unfolding all_verdicts checks_in checks_by row_verdicts pair_verdicts
  all_are =
      map-join verdict (states) _
      ∙ join-cong (states) _ _ (λ s l.
      map-join verdict (states') _
      ∙ join-cong (states') _ _ (λ t k. map-when verdict (has_bit (related_to ours s) t) (pair_checks (steps_in ours) (steps_in theirs) s t)))

  pub record InRows (start y : Tally) (s : ℕ) : Type 0 where
    pub below : s ≤ states
    pub left_over : progress all start ≡ progress (join_from s (states) (row)) y
    pub counted : total y ≤ total start + 32832 * s

  pub rows_start : (start : Tally) → InRows start start 0
  rows_start start =
      record {
        below = omega arith;
        left_over = ap (λ (x : List (Verdict Finding)). progress x start) (all_are ∙ from_start (states) (row));
        counted = omega arith;
      }

  module _ (start y : Tally) (s : ℕ) (w : InRows start y s) where
    row_next : s < states → join_from s (states) (row)
        ≡ row s ++ join_from (suc s) (states) (row)
    row_next h = from_next s s (states) _ (omega arith) h (λ i b l. absurd (omega arith))

    pub row-stops : (a : Answer) → s < states → progress (row s) y ≡ Err a → progress all start ≡ Err a
    row-stops a h q = w.left_over ∙ ap (λ (x : List (Verdict Finding)). progress x y) (row_next h) ∙ progress-stop _ _ y a q

    pub row-passes : (x : Tally) → s < states → progress (row s) y ≡ Ok x → InRows start x (s + 1)
    row-passes x h q =
        let c = progress-total _ y x q in
        let p = row-few s in
        let k = w.counted in
        record {
          below = omega arith;
          left_over = rw add-one (w.left_over ∙ ap (λ (x : List (Verdict Finding)). progress x y) (row_next h) ∙ progress-on _ _ y x q);
          counted = omega arith;
        }

    pub rows_end : states ≤ s → progress all start ≡ Ok y
    unfolding progress along
    rows_end h = w.left_over ∙ ap (λ (x : List (Verdict Finding)). progress x y) (from-none s (states) _ (λ i b l. absurd (omega arith)))
