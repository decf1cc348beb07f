-- Laws of the judging order: what holds of all checks, that the judge's verdict on a check is decided by its causes, and where no check has a cause that
-- applies. Assumes nothing.
use Rattle.outcomes.specs.declared.Outcome.{Outcome}
use Rattle.outcomes.specs.declared.Outcome.TheVariants.{Met, Failed}
use Rattle.std.specs.Prelude.{Ok, Err}
use Prim.Native.Nat.{ℕ, ◌<◌}
use mathlib.Core.Path.{◌≡◌, refl, sym, subst}
use mathlib.Core.Logic.{◌↔◌, inl, inr}
use mathlib.Core.Bool.{Bool, ◌||◌}
use mathlib.Core.List.{[], ◌∷◌, map, flat_map}
use lib.Dec.{T, eqb, eqb→eq}
use Rattle.lists.specs.Lists.{All}
use Rattle.lists.proofs.BoolLaws.{eq→eqb}
use Rattle.lists.proofs.JoinLaws.{all_append, append-all, all_join, join-all, all-when, when-all, all_map, map-all, all-flat, flat-all}
use Rattle.answers.specs.Causes.{NoCause, Numbered, allows}
use Rattle.answers.proofs.CauseLaws.{allowed}
use Rattle.answers.proofs.DecideLaws.{Decides, decides-stable, eqb-decides, not-decides, or-decides}
use Rattle.answers.proofs.VerdictLaws.{Decided, decided-none, decided-as, decided-unless}
use Rattle.bisimulation.specs.Systems.{System, View, Ranks, WellFormed, flip, swap, steps_from, LabelsEqual}
use Rattle.bisimulation.specs.Clauses.{Meets, EveryObligation}
use Rattle.bisimulation.specs.Judge.{is2a, is2b, is2c}
use Rattle.outcomes.specs.declared.Failure.TheVariants as failure
use Rattle.outcomes.specs.Obligation.{obligation_at}
use Rattle.obligations.specs.Outcomes.{HasOutcome}
use Rattle.obligations.specs.CheckAnswers.{labels_answer}
use Rattle.obligations.specs.Judging.{Check, labels_of, left_step, right_step, pair_checks, checks_by, checks, is_obligation}
use Rattle.obligations.specs.Judging.{Finding, nothing, met_by, step_verdict, check_verdict}
use Rattle.obligations.specs.CheckCauses.{unmet_causes, check_causes, CheckHasOutcome}
use Rattle.obligations.proofs.OutcomeLaws.{step-decides, stutter-decides, match-decides, meets-first, outcome-is}

-- ---- what holds of all checks

-- the steps from s
module _ (S : System) (s : ℕ) (P : ℕ → Type 0) where
  pub steps_all : ((j : ℕ) → j < S.steps → S.from j ≡ s → P j) → All P (steps_from S s)
  unfolding steps_from
  steps_all h = all_join P S.steps _ λ j l. all-when P (eqb (S.from j) s) (j ∷ []) λ e. (h j l (eqb→eq _ _ e), tt)

  pub all-steps : All P (steps_from S s) → (j : ℕ) → j < S.steps → S.from j ≡ s → P j
  unfolding steps_from
  all-steps h j l e = (when-all P (eqb (S.from j) s) (j ∷ []) (join-all P S.steps _ h j l) (eq→eqb _ _ e)).0

-- P holds of the labels of every related pair, and of every step of either side at each.
pub record OfChecks (v : View) (P : Check → Type 0) : Type 0 where
  pub labels : (s t : ℕ) → T (v.related s t) → P (labels_of s t)
  pub left : (s t : ℕ) → T (v.related s t) → (j : ℕ) → j < v.own.steps → v.own.from j ≡ s → P (left_step s t j)
  pub right : (s t : ℕ) → T (v.related s t) → (j : ℕ) → j < v.other.steps → v.other.from j ≡ t → P (right_step s t j)

module _ (v : View) (P : Check → Type 0) where
  pub checks-all : OfChecks v P → All P (checks v)
  unfolding checks checks_by pair_checks
  checks-all o =
      all_join P _ _ λ s ls. all_join P _ _ λ t lt. all-when P (v.related s t) _ λ h. (
        o.labels s t h,
        all_append P (map (left_step s t) (steps_from v.own s)) _
            (all_map P (left_step s t) (steps_from v.own s) (steps_all v.own s _ (o.left s t h)))
            (all_map P (right_step s t) (steps_from v.other t) (steps_all v.other t _ (o.right s t h))),
      )

  module _ (w : WellFormed v) (a : All P (checks v)) where
    pair-all : (s t : ℕ) → T (v.related s t) → All P (pair_checks (steps_from v.own) (steps_from v.other) s t)
    unfolding checks checks_by
    pair-all s t h =
        when-all P (v.related s t) (pair_checks (steps_from v.own) (steps_from v.other) s t)
        (join-all P _ _ (join-all P _ _ a s (w.here.related< s t h)) t (w.there.related< t s h)) h

    pair-steps : (s t : ℕ) → T (v.related s t) → All P (map (left_step s t) (steps_from v.own s)) × All P (map (right_step s t) (steps_from v.other t))
    unfolding pair_checks
    pair-steps s t h = append-all P (map (left_step s t) (steps_from v.own s)) _ (pair-all s t h).1

    pub all-checks : OfChecks v P
    unfolding pair_checks
    all-checks =
        record {
          labels = λ s t h. (pair-all s t h).0;
          left = λ s t h. all-steps v.own s _ (map-all P (left_step s t) (steps_from v.own s) (pair-steps s t h).0);
          right = λ s t h. all-steps v.other t _ (map-all P (right_step s t) (steps_from v.other t) (pair-steps s t h).1);
        }

-- ---- one check

-- What a check that goes on has found: by which clause and state it is met, or nothing where it is no obligation.
abbrev pub Found : View → Ranks → Check → Finding → Type 0
Found v r c nothing = is_obligation c ≡ 0
Found v r c (met_by clause x) = CheckHasOutcome v r c (Met clause x)

-- the clause and the state of an outcome that is met
abbrev FoundAt : View → Ranks → ℕ → ℕ → Finding → Type 0
FoundAt v r j t nothing = ⊥
FoundAt v r j t (met_by clause x) = HasOutcome v r j t (Met clause x)

module _ (v : View) (r : Ranks) (j t side left right : ℕ) where
  outcome-decided : (o : Outcome) → HasOutcome v r j t o
      → Decided (FoundAt v r j t) (unmet_causes v r j t side left right) (step_verdict side left right j o)
  outcome-decided (Met clause x) p = let m = meets-first v r j t clause p.0 in record { by = (p, (λ n. n.0 m, (λ n. n m, tt))) }
  outcome-decided (Failed failure.Apart) p = record { by = inl (p, refl) }
  outcome-decided (Failed failure.Rank) p = record { by = inr (λ n. p.1 n.1, inl (p.0, refl)) }

  step-decided : Decided (FoundAt v r j t) (unmet_causes v r j t side left right) (step_verdict side left right j (obligation_at v r j t))
  step-decided = outcome-decided (obligation_at v r j t) (outcome-is v r j t)

module _ (v : View) (r : Ranks) where
  -- the judge's verdict on a check is decided by its causes
  pub check-decided : (c : Check) → Decided (Found v r c) (check_causes v r c) (check_verdict v r c)
  unfolding check_verdict
  check-decided (labels_of s t) =
      decided-unless (λ x. x) (eqb (v.own.label s) (v.other.label t)) (Err (labels_answer s t)) (Ok nothing)
      (not-decides (eqb-decides (v.own.label s) (v.other.label t))) refl (decided-none refl)
  check-decided (left_step s t j) = decided-as (step_verdict 0 s t j (obligation_at v r j t)) go (step-decided v r j t 0 s t)
    where
      go : (x : Finding) → FoundAt v r j t x → Found v r (left_step s t j) x
      go nothing p = absurd p
      go (met_by clause x) p = p
  check-decided (right_step s t j) = decided-as (step_verdict 1 s t j (obligation_at (flip v) (swap r) j s)) go (step-decided (flip v) (swap r) j s 1 s t)
    where
      go : (x : Finding) → FoundAt (flip v) (swap r) j s x → Found v r (right_step s t j) x
      go nothing p = absurd p
      go (met_by clause x) p = p

-- ---- no check has a cause that applies exactly where labels are equal and the obligations of both sides are met

meets-decides : (v : View) (r : Ranks) (j t : ℕ) → Decides (is2a v j t || (is2b v r j t || is2c v r j t)) (Meets v r j t)
meets-decides v r j t = or-decides (step-decides v j t) (or-decides (stutter-decides v r j t) (match-decides v r j t))

module _ (v : View) (w : WellFormed v) (r : Ranks) where
  pub none-iff : NoCause (flat_map (check_causes v r) (checks v)) ↔ (LabelsEqual v × EveryObligation Meets v r × EveryObligation Meets (flip v) (swap r))
  none-iff = (onward, back)
    where
      None : Check → Type 0
      None c = NoCause (check_causes v r c)

      onward : NoCause (flat_map (check_causes v r) (checks v)) → LabelsEqual v × EveryObligation Meets v r × EveryObligation Meets (flip v) (swap r)
      onward n =
          let o = all-checks v None w (flat-all (λ c. ¬ c.condition) (check_causes v r) (checks v) n) in (
            λ s t h. decides-stable (eqb-decides (v.own.label s) (v.other.label t)) (o.labels s t h).0,
            λ j t l h. decides-stable (meets-decides v r j t) (o.left (v.own.from j) t h j l refl).1.0,
            λ j s l h. decides-stable (meets-decides (flip v) (swap r) j s) (o.right s (v.other.from j) h j l refl).1.0,
          )

      back : LabelsEqual v × EveryObligation Meets v r × EveryObligation Meets (flip v) (swap r) → NoCause (flat_map (check_causes v r) (checks v))
      back p =
          all-flat (λ c. ¬ c.condition) (check_causes v r) (checks v)
          (checks-all v None (record {
            labels = λ s t h. (λ n. n (p.0 s t h), tt);
            left = λ s t h j l e. let m = p.1 j t l (subst (λ (x : ℕ). T (v.related x t)) (sym e) h) in (λ n. n.0 m, (λ n. n m, tt));
            right = λ s t h j l e. let m = p.2 j s l (subst (λ (x : ℕ). T (v.related s x)) (sym e) h) in (λ n. n.0 m, (λ n. n m, tt));
          }))

-- ---- the numbers are 17 to 19, with the file 2

module _ (f : ℕ → ℕ → Bool) (h : T (allows f 2 (17 ∷ 18 ∷ 19 ∷ []))) where
  each : All (λ code. T (f code 2)) (17 ∷ 18 ∷ 19 ∷ [])
  each = allowed f 2 (17 ∷ 18 ∷ 19 ∷ []) h

  pub check-numbers : (v : View) (r : Ranks) (c : Check) → Numbered f (check_causes v r c)
  check-numbers v r (labels_of s t) = (each.0, tt)
  check-numbers v r (left_step s t j) = each.1
  check-numbers v r (right_step s t j) = each.1
