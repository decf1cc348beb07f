-- Ask 9 of document 02, `silent-keys`: keys that are all silent change nothing. The key is that the two tables of a side give one system, past its states and
-- steps too, where every table has zeros; all the answers are of the systems, the sizes and the way in which 16 names starts. Assumes nothing.
use Rattle.std.specs.Prelude.{Ok, Err}
use Prim.Native.Nat.{ℕ, ◌+◌, ◌*◌, ◌≤◌, ◌<◌}
use mathlib.Core.Path.{◌≡◌, refl, sym, ap, ◌∙◌, subst, fun_ext}
use mathlib.Core.Logic.{◌⊎◌, inl, inr}
use mathlib.Core.Bool.{Bool, true, false, cond}
use mathlib.Core.List.{List}
use native.Mathlib.Decide.{dec_lt}
use native.Mathlib.Nat.{mul-le-mul_right}
use native.Mathlib.Omega.{arith}
use lib.Dec.{T, eqb}
use lib.ListN.{length}
use Rattle.lists.specs.Numbers.{byte_at}
use Rattle.lists.proofs.BoolLaws.{not-T-false}
use Rattle.lists.proofs.FillLaws.{get_or-past}
use Rattle.lists.proofs.NumberLaws.{big-past}
use Rattle.answers.specs.Verdicts.{Verdict, ◌and_then◌, passed, room_verdict, output_after}
use Rattle.tables.specs.Table.{layout_of, format_of, keyed, version_of, format_in, layout_in, states_of, steps_of, start_word, labels_part, steps_part}
use Rattle.tables.specs.Table.{label_of, from_of, to_of, key_of, key_in}
use Rattle.tables.specs.Model.{system_of}
use Rattle.tables.proofs.KindLaws.{plain-key, keyed-word}
use Rattle.table_reader.specs.TableReading.{head_of}
use Rattle.table_reader.specs.TableCauses.{WellFormedTable}
use Rattle.table_reader.proofs.TableCauseLaws.{formed-good}
use Rattle.table_reader.proofs.TableLaws.{table-formed, labels_length, steps-length}
use Rattle.table_pairs.specs.declared.Heads.{Heads}
use Rattle.table_reader.specs.declared.Known.TheVariants.{Both}
use Rattle.table_pairs.specs.TablePairs.{tables_verdict}
use Rattle.table_pairs.proofs.PairLaws.{read-tables}
use Rattle.table_pairs.proofs.PairCauseLaws.{formed-read}
use Rattle.certificates.specs.declared.Sizes.{Sizes}
use Rattle.certificates.specs.Layout.{sizes_of}
use Rattle.certificates.specs.CertificateModel.{AreBytes, view_of}
use Rattle.certificate_reader.specs.CertificateReading.{read_relation}
use Rattle.certificate_reader.specs.CertificateVerdicts.{relation_verdict}
use Rattle.starts.specs.StartsNamed.{starts_named}
use Rattle.examination.specs.Examine.{examined}
use Rattle.inputs.specs.Inputs.{read_verdict}
use Rattle.inputs.specs.InputCauses.{input_code}
use Rattle.checker.specs.Judge.{judged_bytes, judge_verdict, judge_known, judge_answer}
use Rattle.lister.specs.Listing.{printed}
use Rattle.ranking.specs.Make.{file_for, examined_verdict, verdict_with, length_for, answer_after, make_answer, make_output}
use Rattle.ranking.specs.Enquire.{slip_for, slip_after, enquiry_verdict, enquiry_for, commit_answer, commit_output}
use Rattle.ranking.specs.declared.Enquiry.{Enquiry}
use Rattle.ranking.specs.MakerCauses.{examination_code}
use Rattle.demands.specs.Ask8.{Committed, OfReading, OfExamination}
use Rattle.demands.specs.Ask9.{AllSilent, SameAnswers}
use Rattle.demands.proofs.EnquiryExact.{committed}

-- ---- past its states and steps a table has zeros

module _ (s : List ℕ) (w : WellFormedTable s) where
  past-label : (t : ℕ) → states_of s ≤ t → (system_of s).label t ≡ 0
  unfolding system_of label_of
  past-label t l =
      big-past (labels_part s) (t * (layout_in s).label) (layout_in s).label
      (rw (labels_length s (formed-good s w)) (mul-le-mul_right (layout_in s).label l))

  past-steps : (j : ℕ) → steps_of s ≤ j → length (steps_part s) ≤ j * (layout_in s).step
  past-steps j l = rw (steps-length s (formed-good s w)) (mul-le-mul_right (layout_in s).step l)

  past-from : (j : ℕ) → steps_of s ≤ j → (system_of s).from j ≡ 0
  unfolding system_of from_of
  past-from j l = get_or-past (steps_part s) (j * (layout_in s).step) (past-steps j l)

  past_to : (j : ℕ) → steps_of s ≤ j → (system_of s).to j ≡ 0
  unfolding system_of to_of
  past_to j l = get_or-past (steps_part s) (j * (layout_in s).step + 1) (let a = past-steps j l in omega arith)

  past-key : (j : ℕ) → steps_of s ≤ j → key_in s j ≡ 0
  unfolding key_of
  past-key j l = go (layout_in s).keyed
    where
      go : (b : Bool) → cond b (byte_at (steps_part s) (j * (layout_in s).step + 2)) 0 ≡ 0
      go true = get_or-past (steps_part s) (j * (layout_in s).step + 2) (let a = past-steps j l in omega arith)
      go false = refl

  past-initial : (t : ℕ) → states_of s ≤ t → (system_of s).initial t ≡ false
  unfolding system_of
  past-initial t l = not-T-false ((system_of s).initial t) (λ h. let a = (table-formed s (formed-good s w)).initial< t h in omega arith)

-- ---- one system

-- two functions that agree below a number, and are alike from there on
agree : {A : Type 0} (n : ℕ) (f g : ℕ → A) (z : A) → ((i : ℕ) → i < n → f i ≡ g i) → ((i : ℕ) → n ≤ i → f i ≡ z) → ((i : ℕ) → n ≤ i → g i ≡ z) → f ≡ g
agree n f g z a b c = fun_ext λ i. elim (dec_lt i n) [ yes l ↦ a i l | no l ↦ b i (omega arith) ∙ sym (c i (omega arith)) ]

-- versions 3 and 4 have a start word
version-word : (k : Bool) (version : ℕ) → k ≡ false → (version ≡ 3) ⊎ (version ≡ 4) → (layout_of (format_of k version)).word ≡ true
unfolding layout_of format_of
version-word k version e (inl f) = rw (e, f)
version-word k version e (inr f) = rw (e, f)

module _ (s k : List ℕ) (a : AllSilent s k) where
  states-same : states_of s ≡ states_of k
  unfolding system_of
  states-same = a.states

  steps-same : steps_of s ≡ steps_of k
  unfolding system_of
  steps-same = a.steps

  keys-same : key_in s ≡ key_in k
  unfolding system_of
  keys-same =
      agree (steps_of s) (key_in s) (key_in k) 0 (λ j l. plain-key s a.plain j ∙ sym (a.keys j l)) (λ j l. plain-key s a.plain j)
      (λ j l. past-key k a.keyed-formed j (rw (← steps-same) l))

  label_same : (system_of s).label ≡ (system_of k).label
  unfolding system_of
  label_same =
      agree (states_of s) (system_of s).label (system_of k).label 0 a.marks (past-label s a.formed)
      (λ t l. past-label k a.keyed-formed t (rw (← states-same) l))

  initial-same : (system_of s).initial ≡ (system_of k).initial
  unfolding system_of
  initial-same =
      agree (states_of s) (system_of s).initial (system_of k).initial false a.starts (past-initial s a.formed)
      (λ t l. past-initial k a.keyed-formed t (rw (← states-same) l))

  from-same : (system_of s).from ≡ (system_of k).from
  unfolding system_of
  from-same =
      agree (steps_of s) (system_of s).from (system_of k).from 0 a.from-same (past-from s a.formed)
      (λ j l. past-from k a.keyed-formed j (rw (← steps-same) l))

  to_same : (system_of s).to ≡ (system_of k).to
  unfolding system_of
  to_same =
      agree (steps_of s) (system_of s).to (system_of k).to 0 a.to_same (past_to s a.formed)
      (λ j l. past_to k a.keyed-formed j (rw (← steps-same) l))

  silent-same : (system_of s).silent ≡ (system_of k).silent
  unfolding system_of
  silent-same = ap (λ (f : ℕ → ℕ). λ (j : ℕ). eqb (f j) 0) keys-same

  system-same : system_of s ≡ system_of k
  unfolding system_of
  system-same = rw (states-same, steps-same, initial-same, label_same, from-same, to_same, silent-same)

  -- both have a start word
  plain_word : start_word s ≡ true
  unfolding start_word format_in
  plain_word = version-word (keyed s) (version_of s) a.plain a.version

-- ---- the answers

-- a relation is read or refused alike, whatever the headers
read_alike : (x : Verdict Sizes) (h k : Heads) (r : Verdict (Unit {0})) → ((x and_then λ z. Ok h) and_then λ i. r) ≡ ((x and_then λ z. Ok k) and_then λ i. r)
read_alike (Ok z) h k r = refl
read_alike (Err answer) h k r = refl

module _ (left right left' right' : List ℕ) (a : AllSilent left left') (b : AllSilent right right') where
  sizes-same : sizes_of left right ≡ sizes_of left' right'
  unfolding sizes_of
  sizes-same = cc (states-same left left' a, states-same right right' b, steps-same left left' a, steps-same right right' b)

  view-same : view_of left right ≡ view_of left' right'
  unfolding view_of
  view-same =
      fun_ext λ rows.
      rw (system-same left left' a, system-same right right' b, states-same left left' a, keys-same left left' a, keys-same right right' b)

  named-same : starts_named left right ≡ starts_named left' right'
  unfolding starts_named
  named-same = rw (plain_word left left' a, keyed-word left' a.has-keys)

  read_plain : tables_verdict Both left right ≡ Ok (record { left = head_of left; right = head_of right })
  read_plain =
      read-tables left right (formed-read left right (record { left-formed = a.formed; right-formed = b.formed; one-kind = a.plain ∙ sym b.plain }))

  read-keyed : tables_verdict Both left' right' ≡ Ok (record { left = head_of left'; right = head_of right' })
  read-keyed =
      read-tables left' right'
      (formed-read left' right'
      (record { left-formed = a.keyed-formed; right-formed = b.keyed-formed; one-kind = a.has-keys ∙ sym b.has-keys }))

  judge-same : (c : List ℕ) → judge_answer left right c ≡ judge_answer left' right' c
  unfolding judge_known judge_verdict judged_bytes
  judge-same c = rw (read_plain, read-keyed, sizes-same, view-same, named-same, states-same left left' a)

  listing-same : (c : List ℕ) → printed left right c ≡ printed left' right' c
  unfolding printed
  listing-same c = rw (judge-same c, sizes-same, view-same)

  -- with the same question between the reading and the examination
  with-same : (between : Verdict (Unit {0})) (relation : List ℕ) → verdict_with between left right relation ≡ verdict_with between left' right' relation
  unfolding verdict_with read_verdict examined_verdict
  with-same between relation =
      rw (read_plain, read-keyed, sizes-same, view-same, named-same)
      (read_alike (relation_verdict 2 (read_relation (sizes_of left' right') relation))
      (record { left = head_of left; right = head_of right }) (record { left = head_of left'; right = head_of right' })
      (between and_then λ x. examined (view_of left' right' relation) (starts_named left' right')))

  file-same : (relation : List ℕ) → file_for left right relation ≡ file_for left' right' relation
  unfolding file_for
  file-same relation = rw (sizes-same, view-same)

  make_same : (relation output : List ℕ) → make_answer left right relation output ≡ make_answer left' right' relation output
  unfolding make_answer
  make_same relation output =
      rw sizes-same (ap (answer_after left' right') (with-same (room_verdict (length_for left' right') (length output)) relation))

  made-same : (relation output : List ℕ) → make_output left right relation output ≡ make_output left' right' relation output
  unfolding make_output
  made-same relation output =
      rw (sizes-same, file-same relation)
      (ap (λ (v : Verdict (Unit {0})). output_after v (file_for left' right' relation) output)
      (with-same (room_verdict (length_for left' right') (length output)) relation))

  -- ---- the enquiry and the commit

  module _ (relation : List ℕ) where
    abbrev asked : Enquiry
    asked = enquiry_for left right relation

    abbrev asked' : Enquiry
    asked' = enquiry_for left' right' relation

    -- two enquiries after one verdict
    enquired-same : (asked.answer ≡ asked'.answer) × (asked.slip.relation ≡ asked'.slip.relation)
        × (asked.slip.certificate ≡ asked'.slip.certificate) × (¬ (asked.answer.code ≡ 0) → asked.slip ≡ asked'.slip)
    unfolding enquiry_for
    enquired-same = rw (with-same passed relation) (go (enquiry_verdict left' right' relation))
      where
        go : (v : Verdict (Unit {0}))
            → (answer_after left right v ≡ answer_after left' right' v)
            × ((slip_after v (slip_for left right relation)).relation ≡ (slip_after v (slip_for left' right' relation)).relation)
            × ((slip_after v (slip_for left right relation)).certificate ≡ (slip_after v (slip_for left' right' relation)).certificate)
            × (¬ ((answer_after left right v).code ≡ 0) → slip_after v (slip_for left right relation) ≡ slip_after v (slip_for left' right' relation))
        go (Ok x) = (rw sizes-same, refl, rw sizes-same, λ n. absurd (n refl))
        go (Err answer) = (refl, refl, refl, λ n. refl)

    module _ (bytes : AreBytes relation) (output : List ℕ) where
      one : Committed left right relation asked.answer asked.slip
      one = committed left right relation bytes

      other : Committed left' right' relation asked'.answer asked'.slip
      other = committed left' right' relation bytes

      -- where the enquiries succeed, both commits are the makers; where they refuse, both refuse alike and write nothing
      commit-same : (commit_answer left right relation asked.slip output ≡ commit_answer left' right' relation asked'.slip output)
          × (commit_output left right relation asked.slip output ≡ commit_output left' right' relation asked'.slip output)
      commit-same = go one.refusals
        where
          refused : ¬ (asked.answer.code ≡ 0)
              → commit_output left right relation asked.slip output ≡ commit_output left' right' relation asked'.slip output
          refused n = (one.refused n output).1 ∙ sym (other.refused (rw enquired-same.0 at n) output).1

          go : (asked.answer.code ≡ 0) ⊎ (OfReading asked.answer ⊎ OfExamination asked.answer)
              → (commit_answer left right relation asked.slip output ≡ commit_answer left' right' relation asked'.slip output)
              × (commit_output left right relation asked.slip output ≡ commit_output left' right' relation asked'.slip output)
          go (inl e) =
              let x = one.as-maker e output in
              let y = other.as-maker (rw enquired-same.0 at e) output in
              (x.0 ∙ make_same relation output ∙ sym y.0, x.1 ∙ made-same relation output ∙ sym y.1)
          go (inr (inl h)) = (
            one.same-refusal h output ∙ enquired-same.0 ∙ sym (other.same-refusal (rw enquired-same.0 at h) output),
            refused (λ e. absurd (subst (λ (k : ℕ). T (input_code k)) e h)),
          )
          go (inr (inr h)) = (
            one.other-refusal h output ∙ sym (other.other-refusal (rw enquired-same.0 at h) output),
            refused (λ e. absurd (subst (λ (k : ℕ). T (examination_code k)) e h)),
          )

  pub silent-keys : SameAnswers left right left' right'
  silent-keys =
      record {
        judge = judge-same;
        listing = listing-same;
        make = make_same;
        made = made-same;
        enquiry = λ relation. (enquired-same relation).0;
        slip-relation = λ relation. (enquired-same relation).1;
        slip-certificate = λ relation. (enquired-same relation).2;
        slip-refused = λ relation. (enquired-same relation).3;
        commit = λ relation output bytes. (commit-same relation bytes output).0;
        committed = λ relation output bytes. (commit-same relation bytes output).1;
      }
