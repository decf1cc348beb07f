-- Ask 8 of document 02, `enquiry-exact`, `commit-exact` and `committed`: the enquiry answers as the maker does where there is room, and with its slip the
-- commit is the maker or is refused. Assumes nothing.
use Rattle.std.specs.Prelude.{Ok, Err}
use Prim.Native.Nat.{ℕ, ◌≤◌, ◌<◌}
use mathlib.Core.Path.{◌≡◌, refl, sym, ap, ◌∙◌, subst}
use mathlib.Core.Logic.{◌⊎◌, inl, inr, ⊎_elim, ◌↔◌}
use mathlib.Core.Bool.{◌||◌}
use mathlib.Core.List.{List}
use native.Mathlib.Omega.{arith}
use lib.Dec.{T, eqb, eqb→eq}
use lib.ListN.{length}
use Rattle.lists.proofs.BoolLaws.{or-e}
use Rattle.answers.specs.Numbers.{six_numbers}
use Rattle.answers.specs.Causes.{FirstCause, NoCause, Answers}
use Rattle.answers.specs.Verdicts.{Verdict, passed}
use Rattle.answers.specs.declared.Answer.{Answer}
use Rattle.answers.proofs.CauseLaws.{append-none, refused-iff, zero-none}
use Rattle.answers.proofs.DecideLaws.{eqb-decides, ltb-decides, decides-true, decides-false, decides-either, decides-stable}
use Rattle.answers.proofs.VerdictLaws.{on_none, refused-first, decided-answer, refused-output}
use Rattle.certificates.specs.CertificateModel.{AreBytes}
use Rattle.table_pairs.specs.declared.Heads.{Heads}
use Rattle.inputs.specs.Inputs.{read_verdict}
use Rattle.inputs.specs.InputCauses.{input_causes, input_code}
use Rattle.inputs.proofs.InputCauseLaws.{inputs-decided, input-first}
use Rattle.ranking.specs.declared.Slip.{Slip}
use Rattle.ranking.specs.declared.Enquiry.{Enquiry}
use Rattle.ranking.specs.Make.{examined_verdict, length_for, file_for, make_answer, make_output, answer_after}
use Rattle.ranking.specs.Enquire.{slip_for, blank_slip, slip_after, enquiry_verdict, enquiry_for, commit_verdict, commit_answer, commit_output}
use Rattle.ranking.specs.MakerCauses.{enquiry_causes, commit_causes, examination_code, enquiry_number, commit_number}
use Rattle.ranking.proofs.MakeAnswers.{enquired-by, made_by, committed-by, commit-make, not-read, when-read, room-verdict, too_short, other-slip}
use Rattle.ranking.proofs.MakerCauseLaws.{same-decides, examination-decided, examination-first, enquiry-decided, enquiry-numbers}
use Rattle.ranking.proofs.MakerCauseLaws.{commit-decided, commit-numbers}
use Rattle.demands.specs.Demand1.{Made}
use Rattle.demands.specs.Ask8.{EnquiryExact, CommitExact, OfReading, OfExamination, Committed}

-- no number is both a refusal of what is not read and one of what is
apart : (k : ℕ) → T (input_code k) → T (examination_code k) → ⊥
apart k r e =
    ⊎_elim (is 16) (λ x. ⊎_elim (is 17) (λ y. ⊎_elim (is 22) (is 23) (or-e (eqb k 22) (eqb k 23) y)) (or-e (eqb k 17) (eqb k 22 || eqb k 23) x))
    (or-e (eqb k 16) (eqb k 17 || (eqb k 22 || eqb k 23)) e)
  where
    is : (n : ℕ) → T (eqb k n) → T (input_code n)
    is n h = subst (λ (c : ℕ). T (input_code c)) (eqb→eq k n h) r

-- ---- what comes of the inputs

-- one of them is not read, or all are and the examination passes or refuses
data Outcome (left right relation : List ℕ) : Type 0 where
  unread : (a : Answer) → read_verdict left right relation ≡ Err a → OfReading a → Outcome left right relation
  passing : (h : Heads) → read_verdict left right relation ≡ Ok h → examined_verdict left right relation ≡ passed → Outcome left right relation
  refusing : (h : Heads) (a : Answer) → read_verdict left right relation ≡ Ok h → examined_verdict left right relation ≡ Err a
      → OfExamination a → Outcome left right relation

module _ (left right relation : List ℕ) (bytes : AreBytes relation) where
  none-input : {h : Heads} → read_verdict left right relation ≡ Ok h → NoCause (input_causes left right relation)
  none-input e = (on_none e (inputs-decided left right relation)).1

  outcome : Outcome left right relation
  outcome = by-reading (read_verdict left right relation) refl
    where
      by-examination : (h : Heads) → read_verdict left right relation ≡ Ok h → (v : Verdict (Unit {0})) → examined_verdict left right relation ≡ v
          → Outcome left right relation
      by-examination h e (Ok x) f = passing h e f
      by-examination h e (Err a) f =
          refusing h a e f (examination-first left right relation a (refused-first f (examination-decided left right relation bytes (none-input e))))

      by-reading : (v : Verdict Heads) → read_verdict left right relation ≡ v → Outcome left right relation
      by-reading (Ok h) e = by-examination h e (examined_verdict left right relation) refl
      by-reading (Err a) e = unread a e (input-first left right relation a (refused-first e (inputs-decided left right relation)))

  -- ---- the enquiry

  abbrev enquired : Answer
  enquired = (enquiry_for left right relation).answer

  abbrev slip-given : Slip
  slip-given = (enquiry_for left right relation).slip

  -- by the enquiry's verdict
  answer-by : {v : Verdict (Unit {0})} → enquiry_verdict left right relation ≡ v → enquired ≡ answer_after left right v
  answer-by e = ap (λ (x : Enquiry). x.answer) (sym (enquired-by left right relation e))

  slip-by : {v : Verdict (Unit {0})} → enquiry_verdict left right relation ≡ v → slip-given ≡ slip_after v (slip_for left right relation)
  slip-by e = ap (λ (x : Enquiry). x.slip) (sym (enquired-by left right relation e))

  -- what each outcome says
  unread-is : {a : Answer} → read_verdict left right relation ≡ Err a → enquired ≡ a
  unread-is e = answer-by (not-read left right relation passed e)

  examined-is : {h : Heads} {v : Verdict (Unit {0})} → read_verdict left right relation ≡ Ok h → examined_verdict left right relation ≡ v
      → enquired ≡ answer_after left right v
  examined-is e f = answer-by (when-read left right relation e passed ∙ f)

  -- ---- the enquiry: the answer is that of its causes, and the maker's where 21 does not apply

  zero-passing : enquired.code ≡ 0 → enquiry_verdict left right relation ≡ passed
  zero-passing z = go outcome
    where
      go : Outcome left right relation → enquiry_verdict left right relation ≡ passed
      go (unread a e r) = absurd (subst (λ (k : ℕ). T (input_code k)) (ap (λ (x : Answer). x.code) (sym (unread-is e)) ∙ z) r)
      go (passing h e f) = when-read left right relation e passed ∙ f
      go (refusing h a e f r) = absurd (subst (λ (k : ℕ). T (examination_code k)) (ap (λ (x : Answer). x.code) (sym (examined-is e f)) ∙ z) r)

  zeros : ¬ (enquired.code ≡ 0) → slip-given ≡ blank_slip
  zeros n = go outcome
    where
      go : Outcome left right relation → slip-given ≡ blank_slip
      go (unread a e r) = slip-by (not-read left right relation passed e)
      go (passing h e f) = absurd (n (ap (λ (x : Answer). x.code) (examined-is e f)))
      go (refusing h a e f r) = slip-by (when-read left right relation e passed ∙ f)

  has_room : (output : List ℕ) → length_for left right ≤ length output → make_answer left right relation output ≡ enquired
  has_room output l = go outcome
    where
      go : Outcome left right relation → make_answer left right relation output ≡ enquired
      go (unread a e r) = sym (made_by left right relation output (not-read left right relation _ e)).0 ∙ sym (unread-is e)
      go (passing h e f) = sym (made_by left right relation output (room-verdict left right relation e output l ∙ f)).0 ∙ sym (examined-is e f)
      go (refusing h a e f r) = sym (made_by left right relation output (room-verdict left right relation e output l ∙ f)).0 ∙ sym (examined-is e f)

  not-21 : (output : List ℕ) → ¬ ((make_answer left right relation output).code ≡ 21) → make_answer left right relation output ≡ enquired
  not-21 output n = go outcome
    where
      -- where all is read, an output that is too short is refused with 21
      read : {h : Heads} → read_verdict left right relation ≡ Ok h → make_answer left right relation output ≡ enquired
      read e =
          ⊎_elim (λ l. absurd (n (ap (λ (x : Answer). x.code) (sym (too_short left right relation e output refl l).0))))
          (λ m. has_room output (omega arith)) (decides-either (ltb-decides (length output) (length_for left right)))

      go : Outcome left right relation → make_answer left right relation output ≡ enquired
      go (unread a e r) = sym (made_by left right relation output (not-read left right relation _ e)).0 ∙ sym (unread-is e)
      go (passing h e f) = read e
      go (refusing h a e f r) = read e

  pub enquiry-exact : EnquiryExact left right relation enquired slip-given
  unfolding enquiry_for
  enquiry-exact =
      record {
        answers =
            decided-answer (Made left right) (λ x. six_numbers 0 0 (length_for left right)) (enquiry_verdict left right relation)
            (enquiry-decided left right relation bytes) (λ x e n. refl);
        true-numbers = λ z. slip-by (zero-passing z);
        zeros = zeros;
        not-21 = not-21;
        has_room = has_room;
      }

  -- each refusal is answered exactly where its cause is the first that applies
  pub enquiry-refuses : (a : Answer) → FirstCause (enquiry_causes left right relation) a ↔ ((enquired ≡ a) × (¬ (a.code ≡ 0)))
  enquiry-refuses =
      refused-iff (Made left right) (enquiry_causes left right relation) enquired enquiry-exact.answers enquiry_number
      (enquiry-numbers left right relation) (λ file h. h) (λ a e. ap (λ (x : Answer). x.code) e)

  -- ---- the commit

  module _ (slip : Slip) (output : List ℕ) where
    abbrev answer : Answer
    answer = commit_answer left right relation slip output

    commit-answers : Answers (commit_causes left right relation slip output) (Made left right) answer
    unfolding commit_answer
    commit-answers =
        decided-answer (Made left right) (λ x. six_numbers 0 0 (length_for left right)) (commit_verdict left right relation slip output)
        (commit-decided left right relation bytes slip output) (λ x e n. refl)

    -- where it succeeds, the inputs are read and the slip is theirs
    succeeded : answer.code ≡ 0 → NoCause (input_causes left right relation) × (slip ≡ slip_for left right relation)
    succeeded z =
        let none = (zero-none (Made left right) (commit_causes left right relation slip output) answer commit-answers commit_number
        (commit-numbers left right relation slip output) (λ file h. h) (λ a e. ap (λ (x : Answer). x.code) e) z).0 in
        let inputs = append-none (input_causes left right relation) _ none in
        (inputs.0, decides-stable (same-decides slip (slip_for left right relation)) inputs.1.0)

    pub commit-refuses : (a : Answer) → FirstCause (commit_causes left right relation slip output) a ↔ ((answer ≡ a) × (¬ (a.code ≡ 0)))
    commit-refuses =
        refused-iff (Made left right) (commit_causes left right relation slip output) answer commit-answers commit_number
        (commit-numbers left right relation slip output) (λ file h. h) (λ a e. ap (λ (x : Answer). x.code) e)

    pub commit-exact : CommitExact left right relation slip output answer (commit_output left right relation slip output)
    unfolding commit_answer commit_output
    commit-exact =
        record {
          answers = commit-answers;
          untouched = λ n. refused-output _ (λ x. refl) (commit_verdict left right relation slip output) n (file_for left right relation) output;
          as-maker = λ e.
              let same = commit-make left right relation output slip (decides-true (same-decides slip (slip_for left right relation)) e) in
              (sym same.0, sym same.1);
          no_other = λ z. (succeeded z).1;
        }

  -- ---- one after the other

  -- the slip of a refused enquiry is not that of inputs that are read: the left table has 9 bytes or more
  not-theirs : NoCause (input_causes left right relation) → blank_slip ≡ slip_for left right relation → ⊥
  not-theirs n e = let short : ¬ (length left < 9) = n.0 in let l = ap (λ (x : Slip). x.left) e in omega arith

  abbrev committing : List ℕ → Answer
  committing output = commit_answer left right relation slip-given output

  as-maker : enquired.code ≡ 0 → (output : List ℕ)
      → (committing output ≡ make_answer left right relation output)
      × (commit_output left right relation slip-given output ≡ make_output left right relation output)
  as-maker z output = (commit-exact slip-given output).as-maker (slip-by (zero-passing z))

  refused : ¬ (enquired.code ≡ 0) → (output : List ℕ)
      → (¬ ((committing output).code ≡ 0)) × (commit_output left right relation slip-given output ≡ output)
  refused n output =
      let fails : ¬ ((committing output).code ≡ 0) = λ z. let s = succeeded slip-given output z in not-theirs s.0 (sym (zeros n) ∙ s.1) in
      (fails, (commit-exact slip-given output).untouched fails)

  -- a file that is not read is refused by both
  same-unread : {a : Answer} → read_verdict left right relation ≡ Err a → (output : List ℕ) → committing output ≡ enquired
  same-unread e output = sym (committed-by left right relation output slip-given (not-read left right relation _ e)).0 ∙ sym (unread-is e)

  -- where all is read, the slip of zeros is refused with 29
  other-read : {h : Heads} → read_verdict left right relation ≡ Ok h → ¬ (enquired.code ≡ 0) → (output : List ℕ) → committing output ≡ six_numbers 29 2 0
  other-read e n output =
      sym (other-slip left right relation e output slip-given
      (decides-false (same-decides slip-given (slip_for left right relation)) (λ s. not-theirs (none-input e) (sym (zeros n) ∙ s)))).0

  pub committed : Committed left right relation enquired slip-given
  committed =
      record {
        exactly = λ output l. (
          λ z. decides-stable (eqb-decides enquired.code 0) (λ n. (refused n output).0 z),
          λ z. let long : length_for left right ≤ length output = rw (slip-by (zero-passing z)) at l in
              ap (λ (x : Answer). x.code) ((as-maker z output).0 ∙ has_room output long) ∙ z,
        );
        as-maker = as-maker;
        refused = refused;
        same-refusal = same outcome;
        other-refusal = other outcome;
        refusals = which outcome;
      }
    where
      code_is : {a : Answer} → enquired ≡ a → enquired.code ≡ a.code
      code_is e = ap (λ (x : Answer). x.code) e

      same : Outcome left right relation → OfReading enquired → (output : List ℕ) → committing output ≡ enquired
      same (unread a e r) k output = same-unread e output
      same (passing h e f) k output = absurd (subst (λ (n : ℕ). T (input_code n)) (code_is (examined-is e f)) k)
      same (refusing h a e f r) k output = absurd (apart a.code (subst (λ (n : ℕ). T (input_code n)) (code_is (examined-is e f)) k) r)

      other : Outcome left right relation → OfExamination enquired → (output : List ℕ) → committing output ≡ six_numbers 29 2 0
      other (unread a e r) k output = absurd (apart a.code r (subst (λ (n : ℕ). T (examination_code n)) (code_is (unread-is e)) k))
      other (passing h e f) k output = absurd (subst (λ (n : ℕ). T (examination_code n)) (code_is (examined-is e f)) k)
      other (refusing h a e f r) k output = other-read e (λ z. subst (λ (n : ℕ). T (examination_code n)) z k) output

      which : Outcome left right relation → (enquired.code ≡ 0) ⊎ (OfReading enquired ⊎ OfExamination enquired)
      which (unread a e r) = inr (inl (subst (λ (n : ℕ). T (input_code n)) (sym (code_is (unread-is e))) r))
      which (passing h e f) = inl (code_is (examined-is e f))
      which (refusing h a e f r) = inr (inr (subst (λ (n : ℕ). T (examination_code n)) (sym (code_is (examined-is e f))) r))
