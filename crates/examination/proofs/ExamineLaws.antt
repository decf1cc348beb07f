-- The maker's examination is decided by its causes: it refuses with the numbers of the first that applies, and passes where none does. None
-- applies exactly where the theory's maker succeeds. Assumes nothing.
use Rattle.std.specs.Prelude.{Err}
use Prim.Native.Nat.{ℕ, ◌<◌}
use mathlib.Core.Path.{◌≡◌, refl}
use mathlib.Core.Logic.{◌↔◌, ◌⊎◌, inl, inr, ⊎_elim}
use mathlib.Core.Bool.{Bool, not, ◌&&◌}
use mathlib.Core.List.{List, [], ◌∷◌, ◌++◌, flat_map}
use native.Mathlib.Omega.{arith}
use native.Mathlib.Decide.{dec_lt}
use lib.Dec.{T, ltb, eqb, ltb→lt, lt→ltb, leb→le, le→leb}
use Rattle.lists.proofs.BoolLaws.{and_l, and_r, and_i}
use Rattle.lists.proofs.JoinLaws.{all-flat, flat-all, all_join, join-all}
use Rattle.bisimulation.specs.Systems.{View, WellFormed, flip, Stays}
use Rattle.bisimulation.specs.Judge.{labels_equal, initial_related}
use Rattle.bisimulation.specs.Runs.{Matched}
use Rattle.bisimulation.specs.Maker.{matched, chain_length, none_unmatched, none_endless, succeeds}
use Rattle.bisimulation.proofs.ClauseLaws.{flip-formed, pairs-e, pairs-i, steps-e, steps-i, labels-e, labels-i, initial-e, initial-i}
use Rattle.bisimulation.proofs.RunLaws.{matched-iff, chain-some, chain-bound, chain-most}
use Rattle.lists.specs.Lists.{All}
use Rattle.answers.specs.Causes.{Cause, NoCause, Numbered, allows}
use Rattle.answers.specs.Verdicts.{passed, first_in}
use Rattle.answers.proofs.CauseLaws.{none-append, append-none, numbered-append, numbered_below, numbered-flat, allowed}
use Rattle.answers.proofs.DecideLaws.{Decides, decides-as, decides-stable, test-decides, eqb-decides, not-decides, and-decides, or-decides}
use Rattle.answers.proofs.VerdictLaws.{Decided, Anything, decided-none, decided-test, decided-unless, decided-then, decided-along, decided-below}
use Rattle.answers.proofs.VerdictLaws.{none-on, on_none}
use Rattle.starts.specs.StartsNamed.{StartsNamed}
use Rattle.obligations.specs.CheckAnswers.{labels_answer, step_answer, chain_answer}
use Rattle.starts.specs.StartsCauses.{starts_causes}
use Rattle.obligations.specs.Judging.{Check, labels_of, left_step, right_step, checks}
use Rattle.starts.specs.StartsVerdict.{starts_verdict}
use Rattle.obligations.proofs.JudgingLaws.{checks-all, all-checks}
use Rattle.starts.proofs.StartsLaws.{NamesStarts, starts-decided, starts-iff, starts-numbers}
use Rattle.examination.specs.Examine.{may_keep, verdict_by, maker_verdict, endless_at, first_chain, endless, examined}
use Rattle.examination.specs.ExaminationCauses.{maker_check_causes, LongChain, chain_causes, examination_causes}

-- ---- 17 and 22

module _ (v : View) (w : WellFormed v) (j t : ℕ) where
  kept-decides : Decides (may_keep v j t) (Matched v j t ⊎ Stays v j t)
  unfolding may_keep
  kept-decides =
      let m : Decides (matched v j t) (Matched v j t) = record { sound = (matched-iff v w j t).0; complete = (matched-iff v w j t).1 } in
      or-decides m
      (and-decides (test-decides (v.own.silent j)) (test-decides (v.related (v.own.to j) t)))

  unkept-decides : Decides (not (may_keep v j t)) ((¬ Matched v j t) × (¬ Stays v j t))
  unkept-decides = decides-as (not-decides kept-decides) (λ n. (λ p. n (inl p), λ p. n (inr p))) (λ p. ⊎_elim p.0 p.1)

check-decided : (v : View) → WellFormed v → (c : Check) → Decided Anything (maker_check_causes v c) (maker_verdict v c)
unfolding maker_verdict verdict_by
check-decided v w (labels_of s t) =
    decided-unless (λ x. x) (eqb (v.own.label s) (v.other.label t)) (Err (labels_answer s t)) passed
    (not-decides (eqb-decides (v.own.label s) (v.other.label t))) refl (decided-none tt)
check-decided v w (left_step s t j) = decided-unless (λ x. x) (may_keep v j t) (Err (step_answer 22 0 s t j)) passed
    (unkept-decides v w j t) refl (decided-none tt)
check-decided v w (right_step s t j) =
    decided-unless (λ x. x) (may_keep (flip v) j s) (Err (step_answer 22 1 s t j)) passed
    (unkept-decides (flip v) (flip-formed v w) j s) refl (decided-none tt)

-- ---- 23

module _ (v : View) (w : WellFormed v) where
  chain-decides : (b c : ℕ) → Decides (endless_at v b c) (LongChain v b c)
  unfolding endless_at
  chain-decides b c =
      record {
        sound = λ h.
            let q = chain-some v w b v.own.states c (and_l (v.related c b) _ h) in
            let l = leb→le v.own.states (chain_length v b v.own.states c) (and_r (v.related c b) _ h) in
            let m = chain-bound v b v.own.states c in
            let e = q.2 in
            (q.0, q.1, omega arith);
        complete = λ p.
            let e = p.2 in
            let m = chain-most v w b v.own.states c p.0 p.1 (omega arith) in
            and_i (v.related c b) _ p.1.related.0 (le→leb v.own.states (chain_length v b v.own.states c) (omega arith));
      }

  endless-decided : (side : ℕ) → Decided Anything (chain_causes v side) (endless v side)
  unfolding endless first_chain
  endless-decided side =
      decided-below v.other.states _ _ λ b. decided-below v.own.states _ _ λ c.
      decided-test (λ x. x) (Err (chain_answer side b c)) passed (chain-decides b c) refl (decided-none tt)

-- ---- all of it

pub examined-decided : (v : View) → WellFormed v → (named : StartsNamed) → Decided Anything (examination_causes v named) (examined v named)
unfolding examined
examined-decided v w named =
    decided-then (starts_verdict v named) (starts-decided v w.here.initial< w.there.initial< named) λ x g n.
    decided-then (first_in (maker_verdict v) (checks v))
    (decided-along (maker_check_causes v) (λ c x. maker_verdict v c) (λ c x. check-decided v w c) (checks v) tt) λ y h m.
    decided-then (endless v 0) (endless-decided v w 0) λ z k l.
    endless-decided (flip v) (flip-formed v w) 1

-- ---- where no cause applies

abbrev Kept : View → ℕ → ℕ → Type 0
Kept v j t = ¬ ((¬ Matched v j t) × (¬ Stays v j t))

module _ (v : View) (w : WellFormed v) where
  kept-unmatched : ((s t : ℕ) → T (v.related s t) → (j : ℕ) → j < v.own.steps → v.own.from j ≡ s → Kept v j t) → T (none_unmatched v)
  unfolding none_unmatched may_keep
  kept-unmatched h = pairs-i v _ λ s t r. steps-i v s _ λ j l e. (kept-decides v w j t).complete
      (decides-stable (kept-decides v w j t) (λ n. h s t r j l e (λ p. n (inl p), λ p. n (inr p))))

  unmatched-kept : T (none_unmatched v) → (s t : ℕ) → T (v.related s t) → (j : ℕ) → j < v.own.steps → v.own.from j ≡ s → Kept v j t
  unfolding none_unmatched may_keep
  unmatched-kept h s t r j l e n = ⊎_elim n.0 n.1 ((kept-decides v w j t).sound (steps-e v s _ (pairs-e v w _ h s t r) j l e))

  chains-endless : (side : ℕ) → NoCause (chain_causes v side) → T (none_endless v)
  unfolding none_endless endless_at
  chains-endless side n = pairs-i v _ λ c b h. elim (dec_lt (chain_length v b v.own.states c) v.own.states) [
    | yes l ↦ lt→ltb _ _ l
    | no l ↦ absurd ((join-all (λ x. ¬ x.condition) v.own.states _ (join-all (λ x. ¬ x.condition) v.other.states _ n b (w.there.related< b c h))
        c (w.here.related< c b h)).0
        ((chain-decides v w b c).sound (and_i (v.related c b) _ h (le→leb v.own.states (chain_length v b v.own.states c) (omega arith)))))
  ]

  endless-chains : (side : ℕ) → T (none_endless v) → NoCause (chain_causes v side)
  unfolding none_endless endless_at
  endless-chains side n = all_join (λ x. ¬ x.condition) v.other.states _ λ b lb. all_join (λ x. ¬ x.condition) v.own.states _ λ c lc. (
    λ p.
        let h = (chain-decides v w b c).complete p in
        let l = leb→le v.own.states (chain_length v b v.own.states c) (and_r (v.related c b) _ h) in
        let k = ltb→lt (chain_length v b v.own.states c) v.own.states
        (pairs-e v w (λ s t. ltb (chain_length v t v.own.states s) v.own.states) n c b p.1.related.0) in
        omega arith,
    tt,
  )

-- the causes after the starts, and after the checks
abbrev after_checks : View → List Cause
after_checks v = chain_causes v 0 ++ chain_causes (flip v) 1

abbrev after_starts : View → List Cause
after_starts v = flat_map (maker_check_causes v) (checks v) ++ after_checks v

seven-i : (a b c d e f g : Bool) → T a → T b → T c → T d → T e → T f → T g → T (a && b && c && (d && e) && (f && g))
seven-i a b c d e f g p q r s t u x = search (and_i)

seven-e : (a b c d e f g : Bool) → T (a && b && c && (d && e) && (f && g)) → T a × T b × T c × T d × T e × T f × T g
seven-e a b c d e f g h = search (and_l, and_r)

module _ (v : View) (w : WellFormed v) (named : StartsNamed) (names : NamesStarts v named) where
  abbrev None : Check → Type 0
  None c = NoCause (maker_check_causes v c)

  none-succeeds : NoCause (examination_causes v named) → T (succeeds v)
  unfolding succeeds
  none-succeeds n =
      let a = append-none (starts_causes v named) (after_starts v) n in
      let b = append-none (flat_map (maker_check_causes v) (checks v)) (after_checks v) a.1 in
      let c = append-none (chain_causes v 0) (chain_causes (flip v) 1) b.1 in
      let o = all-checks v None w (flat-all (λ x. ¬ x.condition) (maker_check_causes v) (checks v) b.0) in
      let i = (starts-iff v w.here.initial< w.there.initial< named names).0 a.0 in
      seven-i (initial_related v) (initial_related (flip v)) (labels_equal v) (none_unmatched v) (none_unmatched (flip v)) (none_endless v) (none_endless (flip v))
      (initial-i v w i.0) (initial-i (flip v) (flip-formed v w) i.1)
      (labels-i v (λ s t h. decides-stable (eqb-decides (v.own.label s) (v.other.label t)) (o.labels s t h).0))
      (kept-unmatched v w (λ s t h j l e. (o.left s t h j l e).0)) (kept-unmatched (flip v) (flip-formed v w) (λ t s h j l e. (o.right s t h j l e).0))
      (chains-endless v w 0 c.0) (chains-endless (flip v) (flip-formed v w) 1 c.1)

  succeeds-none : T (succeeds v) → NoCause (examination_causes v named)
  unfolding succeeds
  succeeds-none h =
      let p = seven-e (initial_related v) (initial_related (flip v)) (labels_equal v) (none_unmatched v) (none_unmatched (flip v)) (none_endless v)
      (none_endless (flip v)) h in
      none-append (starts_causes v named) (after_starts v)
      ((starts-iff v w.here.initial< w.there.initial< named names).1 (initial-e v w p.0, initial-e (flip v) (flip-formed v w) p.1))
      (none-append (flat_map (maker_check_causes v) (checks v)) (after_checks v)
      (all-flat (λ x. ¬ x.condition) (maker_check_causes v) (checks v)
      (checks-all v None (record {
        labels = λ s t h. (λ n. n (labels-e v w p.2 s t h), tt);
        left = λ s t h j l e. (unmatched-kept v w p.3 s t h j l e, tt);
        right = λ s t h j l e. (unmatched-kept (flip v) (flip-formed v w) p.4 t s h j l e, tt);
      })))
      (none-append (chain_causes v 0) (chain_causes (flip v) 1) (endless-chains v w 0 p.5) (endless-chains (flip v) (flip-formed v w) 1 p.6)))

  -- the examination passes exactly where the maker succeeds
  pub examined-succeeds : (examined v named ≡ passed) ↔ T (succeeds v)
  examined-succeeds = (
    λ e. none-succeeds (on_none e (examined-decided v w named)).1,
    λ h. let q = none-on (examined v named) (examined-decided v w named) (succeeds-none h) in q.1,
  )

-- ---- the numbers are 16, 17, 22 and 23, with the file 2

module _ (f : ℕ → ℕ → Bool) (h : T (allows f 2 (16 ∷ 17 ∷ 22 ∷ 23 ∷ []))) where
  each : All (λ code. T (f code 2)) (16 ∷ 17 ∷ 22 ∷ 23 ∷ [])
  each = allowed f 2 (16 ∷ 17 ∷ 22 ∷ 23 ∷ []) h

  check-numbers : (v : View) (c : Check) → Numbered f (maker_check_causes v c)
  check-numbers v (labels_of s t) = (each.1.0, tt)
  check-numbers v (left_step s t j) = (each.1.1.0, tt)
  check-numbers v (right_step s t j) = (each.1.1.0, tt)

  chain-numbers : (v : View) (side : ℕ) → Numbered f (chain_causes v side)
  chain-numbers v side = numbered_below f v.other.states _ (λ b. numbered_below f v.own.states _ (λ c. (each.1.1.1.0, tt)))

  pub examination-numbers : (v : View) (named : StartsNamed) → Numbered f (examination_causes v named)
  examination-numbers v named =
      numbered-append f (starts_causes v named) (after_starts v) (starts-numbers f each.0 v named)
      (numbered-append f (flat_map (maker_check_causes v) (checks v)) (after_checks v) (numbered-flat f (maker_check_causes v) (check-numbers v) (checks v))
      (numbered-append f (chain_causes v 0) (chain_causes (flip v) 1) (chain-numbers v 0) (chain-numbers (flip v) 1)))
