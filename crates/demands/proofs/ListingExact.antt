-- Ask 2 of document 02, `listing-exact`: where the judge accepts, no check has a cause that applies, so every obligation is met and has its line. Assumes
-- nothing.
use Rattle.outcomes.specs.declared.Outcome.{Outcome}
use Rattle.outcomes.specs.declared.Outcome.TheVariants.{Met, Failed}
use Prim.Native.Nat.{ℕ, suc}
use mathlib.Core.Path.{◌≡◌, refl, sym, ap, subst}
use mathlib.Core.Logic.{◌⊎◌, inl, inr, ⊎_elim}
use mathlib.Core.List.{List, [], ◌∷◌, ◌++◌, flat_map}
use native.Mathlib.Omega.{arith}
use borrow.Author.Tests.{eq-eqb, ne_eqb}
use Rattle.lists.specs.Lists.{All, Counts, Beside}
use Rattle.lists.proofs.JoinLaws.{flat-all}
use Rattle.bisimulation.specs.Systems.{View, Ranks, flip, swap}
use Rattle.answers.specs.Causes.{Cause, NoCause}
use Rattle.answers.proofs.CauseLaws.{append-none}
use Rattle.table_reader.specs.declared.Known.TheVariants.{Both}
use Rattle.table_pairs.specs.PairCauses.{tables_causes}
use Rattle.certificates.specs.Layout.{sizes_of}
use Rattle.certificates.specs.CertificateModel.{certified_view as view, certified_ranks as ranks}
use Rattle.certificate_reader.specs.CertificateCauses.{certificate_causes}
use Rattle.outcomes.specs.declared.Clause.{Clause}
use Rattle.outcomes.specs.declared.Clause.TheVariants.{Step, Stutter, Match}
use Rattle.outcomes.specs.declared.Failure.TheVariants as failure
use Rattle.outcomes.specs.Obligation.{clause_number, obligation_at}
use Rattle.obligations.specs.Outcomes.{MetFirstBy, HasOutcome}
use Rattle.starts.specs.StartsNamed.{starts_named}
use Rattle.obligations.specs.CheckCauses.{unmet_causes, check_causes, CheckMetBy}
use Rattle.starts.specs.StartsCauses.{starts_causes}
use Rattle.obligations.specs.Judging.{Check, labels_of, left_step, right_step, checks}
use Rattle.obligations.proofs.OutcomeLaws.{outcome-is, first_one}
use Rattle.checker.specs.Judge.{judge_answer}
use Rattle.checker.proofs.JudgeCauseLaws.{after_starts, after_certificate, after_tables}
use Rattle.lister.specs.Listing.{Line, outcome_lines, check_lines, listing, printed}
use Rattle.demands.specs.Ask2.{obligations_in, Says, LineOf, ListingExact}
use Rattle.demands.proofs.JudgeAnswers.{zero-accepted}

-- ---- one obligation

-- It has one line, which is met by the clause exactly where it names it.
record OneLine (v : View) (r : Ranks) (at side s t j : ℕ) (lines : List Line) : Type 0 where
  line : Line
  lines_are : lines ≡ line ∷ []
  says : Says v r at side s t j line
  named : (clause : Clause) → MetFirstBy v r j at clause → line.clause ≡ clause_number clause
  not_named : (clause : Clause) → (¬ MetFirstBy v r j at clause) → ¬ (line.clause ≡ clause_number clause)

number-one : (c k : Clause) → clause_number c ≡ clause_number k → c ≡ k
number-one Step Step e = refl
number-one Step Stutter e = absurd (omega arith)
number-one Step Match e = absurd (omega arith)
number-one Stutter Step e = absurd (omega arith)
number-one Stutter Stutter e = refl
number-one Stutter Match e = absurd (omega arith)
number-one Match Step e = absurd (omega arith)
number-one Match Stutter e = absurd (omega arith)
number-one Match Match e = refl

module _ (v : View) (r : Ranks) (at side s t j : ℕ) where
  line_of : (o : Outcome) → HasOutcome v r j at o → NoCause (unmet_causes v r j at side s t) → OneLine v r at side s t j (outcome_lines side s t j o)
  line_of (Met clause x) p n =
      record {
        line = record { side = side; left = s; right = t; step = j; clause = clause_number clause; state = x };
        lines_are = refl;
        says = record { side-is = refl; left_is = refl; right_is = refl; step_is = refl; clause = clause; clause-is = refl; met = p };
        named = λ k q. ap clause_number (first_one v r j at clause k p.0 q);
        not_named = λ k q e. q (subst (MetFirstBy v r j at) (number-one clause k e) p.0);
      }
  line_of (Failed failure.Apart) p n = absurd (n.0 p)
  line_of (Failed failure.Rank) p n = absurd (n.1.0 p.0)

-- ---- all checks

module _ (v : View) (r : Ranks) where
  left-line : (s t j : ℕ) → NoCause (check_causes v r (left_step s t j)) → OneLine v r t 0 s t j (check_lines v r (left_step s t j))
  unfolding check_lines
  left-line s t j = line_of v r t 0 s t j (obligation_at v r j t) (outcome-is v r j t)

  right-line : (s t j : ℕ) → NoCause (check_causes v r (right_step s t j)) → OneLine (flip v) (swap r) s 1 s t j (check_lines v r (right_step s t j))
  unfolding check_lines
  right-line s t j = line_of (flip v) (swap r) s 1 s t j (obligation_at (flip v) (swap r) j s) (outcome-is (flip v) (swap r) j s)

  None : Check → Type 0
  None c = NoCause (check_causes v r c)

  lines-beside : (cs : List Check) → All None cs → Beside (LineOf v r) (obligations_in cs) (flat_map (check_lines v r) cs)
  unfolding flat_map None check_lines
  lines-beside [] a = tt
  lines-beside (labels_of s t ∷ cs) a = lines-beside cs a.1
  lines-beside (left_step s t j ∷ cs) a =
      let o = left-line s t j a.0 in
      subst (λ (l : List Line). Beside (LineOf v r) (left_step s t j ∷ obligations_in cs) (l ++ flat_map (check_lines v r) cs)) (sym o.lines_are)
      (o.says, lines-beside cs a.1)
  lines-beside (right_step s t j ∷ cs) a =
      let o = right-line s t j a.0 in
      subst (λ (l : List Line). Beside (LineOf v r) (right_step s t j ∷ obligations_in cs) (l ++ flat_map (check_lines v r) cs)) (sym o.lines_are)
      (o.says, lines-beside cs a.1)

  -- the lines that name a clause are the obligations that it meets first
  module _ (clause : Clause) where
    abbrev Names : Line → Type 0
    Names l = l.clause ≡ clause_number clause

    one_more : (w : View) (q : Ranks) (at side s t j : ℕ) (cs : List Check) {lines : List Line} → OneLine w q at side s t j lines
        → ((m : ℕ) → Counts (CheckMetBy v r clause) cs m → Counts Names (flat_map (check_lines v r) cs) m) → (n : ℕ)
        → (MetFirstBy w q j at clause × ((m : ℕ) × (n ≡ suc m) × Counts (CheckMetBy v r clause) cs m))
        ⊎ ((¬ MetFirstBy w q j at clause) × Counts (CheckMetBy v r clause) cs n)
        → Counts Names (lines ++ flat_map (check_lines v r) cs) n
    one_more w q at side s t j cs o go n p =
        subst (λ (l : List Line). Counts Names (l ++ flat_map (check_lines v r) cs) n) (sym o.lines_are)
        (⊎_elim
        (λ x. inl (o.named clause x.0, (x.1.0, x.1.1, go x.1.0 x.1.2)))
        (λ x. inr (o.not_named clause x.0, go n x.1))
        p)

    counts-lines : (cs : List Check) → All None cs → (n : ℕ) → Counts (CheckMetBy v r clause) cs n → Counts Names (flat_map (check_lines v r) cs) n
    unfolding flat_map None check_lines
    counts-lines [] a n p = p
    counts-lines (labels_of s t ∷ cs) a n p = ⊎_elim (λ x. absurd x.0) (λ x. counts-lines cs a.1 n x.1) p
    counts-lines (left_step s t j ∷ cs) a n p = one_more v r t 0 s t j cs (left-line s t j a.0) (counts-lines cs a.1) n p
    counts-lines (right_step s t j ∷ cs) a n p = one_more (flip v) (swap r) s 1 s t j cs (right-line s t j a.0) (counts-lines cs a.1) n p

-- ---- on bytes

module _ (left right c : List ℕ) where
  none : (judge_answer left right c).code ≡ 0 → All (None (view left right c) (ranks left right c)) (checks (view left right c))
  unfolding None
  none e =
      let a = append-none (tables_causes Both left right) (after_tables left right c) (zero-accepted left right c e).0 in
      let d = append-none (certificate_causes 2 (sizes_of left right) c) (after_certificate left right c) a.1 in
      let f = append-none (starts_causes (view left right c) (starts_named left right)) (after_starts left right c) d.1 in
      flat-all (λ (x : Cause). ¬ x.condition) (check_causes (view left right c) (ranks left right c)) (checks (view left right c)) f.1

  pub listing-exact : ListingExact left right c (judge_answer left right c)
  unfolding listing printed
  listing-exact =
      let v = view left right c in
      let r = ranks left right c in
      record {
        lines = λ e. lines-beside v r (checks v) (none e);
        by-2a = λ e. counts-lines v r Step (checks v) (none e) _ (zero-accepted left right c e).1.by-2a;
        by-2b = λ e. counts-lines v r Stutter (checks v) (none e) _ (zero-accepted left right c e).1.by-2b;
        by-2c = λ e. counts-lines v r Match (checks v) (none e) _ (zero-accepted left right c e).1.by-2c;
        accepted = λ e. rw (eq-eqb _ 0 e);
        refused = λ n. rw (ne_eqb _ 0 n);
      }
