-- `lists::put_be` meets its contract: with the bytes left to write over those from `at` on, the output is the contract's at every turn. Assumes nothing.
use Prim.Native.Nat.{ℕ, zero, suc, ◌+◌, ◌≤◌, ◌<◌, ◌-◌, ◌/◌, ◌%◌}
use mathlib.Core.Path.{◌≡◌, sym, ap, ap₂, ◌∙◌}
use mathlib.Core.List.{List, [], ◌∷◌, ◌++◌, append_assoc, append-nil}
use native.Mathlib.Nat.{not-suc-le-zero, le_refl, add-zero}
use native.Mathlib.Numerals.{unary_clauses}
use native.Mathlib.Omega.{arith}
use lib.ListN.{length, take, drop, set, length-set, take-append-drop}
use lib.Seq.{append_snoc, drop-cons, drop-set-lt, take-set-le, get_or-set_same}
use Rattle.lists.specs.Lists.{put_at}
use Rattle.lists.specs.Numbers.{big_bytes}
use Rattle.lists.proofs.FillLaws.{put-at-fits, put-at-short}
use Rattle.lists.proofs.NumberLaws.{length-bytes}
use Rattle.lists.proofs.put_be.Invariants.{over}
use Rattle.lists.proofs.put_be.Goals as goal
use Rattle.lists.proofs.put_be.Goals.{then-output-at-via-then-output-at, then-output-at-via-else-output-at+then-output-at-2}

-- the last byte that is left, stored
one_less : (at i x : ℕ) (l : List ℕ) → 0 < i → at + i ≤ length l → over at (i - 1) (x / 256) (set l (at + (i - 1)) (x % 256)) ≡ over at i x l
unfolding big_bytes
one_less at zero x l p h = absurd (not-suc-le-zero p)
one_less at (suc k) x l p h =
    let b : at + k < length l = omega arith in
    let first : take at (set l (at + k) (x % 256)) ≡ take at l = take-set-le at l (at + k) (x % 256) (omega arith) in
    let rest : drop (at + k) (set l (at + k) (x % 256)) ≡ x % 256 ∷ drop (suc (at + k)) l =
    drop-cons (set l (at + k) (x % 256)) (at + k) 0 (rw length-set b)
    ∙ ap₂ ◌∷◌ (get_or-set_same l (at + k) (x % 256) 0 b) (drop-set-lt (suc (at + k)) l (at + k) (x % 256) (le_refl (suc (at + k)))) in
    simp unary_clauses
    (ap₂ (λ (t d : List ℕ). t ++ big_bytes k (x / 256) ++ d) first rest
    ∙ sym (append_snoc (take at l ++ big_bytes k (x / 256)) (x % 256) (drop (suc (at + k)) l))
    ∙ ap (λ (r : List ℕ). r ++ drop (suc (at + k)) l) (append_assoc (take at l) (big_bytes k (x / 256)) (x % 256 ∷ [])))

-- no byte is left
none_left : (at i x : ℕ) (l : List ℕ) → i ≡ 0 → over at i x l ≡ l
unfolding big_bytes
none_left at i x l e = rw (e, append-nil, add-zero) (take-append-drop at l)

-- all of them
all-over : (at k x : ℕ) (d : List ℕ) → at + k ≤ length d → over at k x d ≡ put_at at (big_bytes k x) d
all-over at k x d h =
    ap (λ (n : ℕ). take at d ++ big_bytes k x ++ drop (at + n) d) (sym (length-bytes k x)) ∙ sym (put-at-fits at (big_bytes k x) d (rw length-bytes h))

pub returns-then-output-at : goal.returns-then-output-at
returns-then-output-at c =
    let short : length c.args.output.now < c.args.at + c.args.k =
    elim c.then-output-at.branch [
      | then-output-at-via-then-output-at w ↦ omega arith
      | then-output-at-via-else-output-at+then-output-at-2 w ↦ omega arith
    ] in
    sym (put-at-short _ _ _ (rw length-bytes short))

pub loop-i-preserved : goal.loop-i-preserved
loop-i-preserved c =
    let l = c.loop-i in
    one_less c.args.at l.i l.x l.output (omega arith) (omega arith) ∙ l.invariant

pub returns : goal.returns
returns c =
    let a = c.args in
    let l = c.loop-i in
    sym (none_left a.at l.i l.x l.output (omega arith)) ∙ l.invariant ∙ all-over a.at a.k a.number a.output.now (omega arith)
