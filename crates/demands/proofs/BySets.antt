-- Ask 10 on bytes. The set after k rounds has the states at which a list with at most k steps inside matches the step; the two makers promise the same.
-- The key idea: a matching list of whatever length shows its first state in the set after as many rounds, and where a round adds nothing no later one does.
-- Assumes nothing.
use Prim.Native.Nat.{ℕ, suc, ◌≤◌}
use mathlib.Core.Path.{◌≡◌, sym, ap, ◌∙◌, subst}
use mathlib.Core.List.{List, [], ◌∷◌}
use native.Mathlib.Nat.{le_refl, not-suc-le-zero}
use lib.Dec.{T}
use lib.ListN.{length}
use Rattle.words.specs.Bits.{has_bit}
use Rattle.bisimulation.specs.Systems.{View, WellFormed, flip}
use Rattle.bisimulation.specs.Maker.{matches_within}
use Rattle.bisimulation.specs.Runs.{MatchingRun}
use Rattle.bisimulation.proofs.ClauseLaws.{flip-formed}
use Rattle.bisimulation.proofs.RunLaws.{run-matches, shorten}
use Rattle.answers.specs.declared.Answer.{Answer}
use Rattle.certificates.specs.CertificateModel.{view_of}
use Rattle.match_sets.specs.Sets.{AfterRounds}
use Rattle.match_sets.proofs.GrowingLaws.{within-later, within-stable}
use Rattle.demands.specs.Demand2.{WellFormedInputs}
use Rattle.demands.specs.Ask10.{SetGrows, Makes}
use Rattle.demands.proofs.RelationsExact.{given-formed}

-- ---- one side

module _ (v : View) (w : WellFormed v) (j : ℕ) where
  run-within : (k t : ℕ) (K : List ℕ) → MatchingRun v j t K → length K ≤ k → T (matches_within v j k t)
  run-within k t K r l =
      within-later v j (length K) k t l (run-matches v j t K r.last [] r.path r.inside r.related r.serves r.meets)

  within-run : (k t : ℕ) → T (matches_within v j k t) → (K : List ℕ) × MatchingRun v j t K × (length K ≤ k)
  within-run k t h = let s = shorten v w j t k h in (s.0, s.1, s.2)

  none_inside : (t : ℕ) → (K : List ℕ) × MatchingRun v j t K × (length K ≤ 0) → MatchingRun v j t []
  none_inside t ([], r, l) = r
  none_inside t (k ∷ K, r, l) = absurd (not-suc-le-zero l)

  module _ (sets : ℕ → ℕ) (after : (k : ℕ) → AfterRounds v j k (sets k)) where
    to-within : (k t : ℕ) → T (has_bit (sets k) t) → T (matches_within v j k t)
    to-within k t = subst T ((after k).exactly t)

    from-within : (k t : ℕ) → T (matches_within v j k t) → T (has_bit (sets k) t)
    from-within k t = subst T (sym ((after k).exactly t))

    pub set-grows : SetGrows v j sets
    set-grows =
        record {
          begins = λ t. (λ h. none_inside t (within-run 0 t (to-within 0 t h)), λ r. from-within 0 t (run-within 0 t [] r (le_refl 0)));
          holds = λ k t. (λ h. within-run k t (to-within k t h), λ q. from-within k t (run-within k t q.0 q.1 q.2));
          done = λ k same t. (
            λ h. let q = within-run k t (to-within k t h) in (q.0, q.1),
            λ q. from-within k t (within-stable v j k
                (λ u b. to-within k u (subst T (ap (λ (x : ℕ). has_bit x u) same) (from-within (suc k) u b)))
                (length q.0) t (run-within (length q.0) t q.0 q.1 (le_refl (length q.0)))),
          );
        }

-- ---- on bytes, for either side

module _ (left right relation : List ℕ) (given : WellFormedInputs left right relation) (j : ℕ) (sets : ℕ → ℕ) where
  pub left-sets : ((k : ℕ) → AfterRounds (view_of left right relation) j k (sets k)) → SetGrows (view_of left right relation) j sets
  left-sets = set-grows (view_of left right relation) (given-formed left right relation given) j sets

  pub right-sets : ((k : ℕ) → AfterRounds (flip (view_of left right relation)) j k (sets k)) → SetGrows (flip (view_of left right relation)) j sets
  right-sets =
      set-grows (flip (view_of left right relation)) (flip-formed (view_of left right relation) (given-formed left right relation given)) j sets

-- ---- both makers

-- whatever the bytes and the output, two makers that keep the promise give the same six numbers and the same bytes
pub makers-equal : (left right relation output : List ℕ) {answer answer' : Answer} {after after' : List ℕ} → Makes left right relation output answer after
    → Makes left right relation output answer' after' → (answer ≡ answer') × (after ≡ after')
makers-equal left right relation output m n = (m.numbers ∙ sym n.numbers, m.bytes ∙ sym n.bytes)
