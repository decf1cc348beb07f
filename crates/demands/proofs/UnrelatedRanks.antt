-- Ranks of unrelated pairs are not looked at: two certificates that differ only there get the same six numbers. Assumes nothing.
use Rattle.std.specs.Prelude.{Ok, Err, Result}
use Prim.Native.Nat.{ℕ, ◌+◌, ◌*◌, ◌≤◌, ◌<◌}
use mathlib.Core.Path.{◌≡◌, refl, sym, ap, ap₂, ◌∙◌, subst, fun_ext}
use mathlib.Core.Bool.{Bool, true, false, cond, not, ◌&&◌}
use mathlib.Core.List.{List}
use native.Mathlib.Omega.{arith}
use lib.Dec.{T, ltb, eqb}
use lib.ListN.{length}
use borrow.Author.Tests.{eqb-true, not-false}
use lib.Seq.{ext_get_or}
use Rattle.lists.specs.Lists.{All}
use Rattle.lists.specs.Numbers.{byte_at, big_endian}
use Rattle.lists.proofs.BoolLaws.{and_r}
use Rattle.lists.proofs.JoinLaws.{all-imply}
use Rattle.lists.proofs.NumberLaws.{big-cong}
use Rattle.bisimulation.specs.Systems.{View, Ranks, flip, swap}
use Rattle.bisimulation.specs.Judge.{is2b, is2c, meets2c}
use Rattle.tables.specs.Table.{states_of, magic_fits}
use Rattle.answers.specs.Verdicts.{Verdict, ◌and_then◌, answer_of}
use Rattle.answers.proofs.VerdictLaws.{then-cong, along-cong}
use Rattle.certificates.specs.Layout.{sizes_of, certificate_length, certificate_header_length, al_at, rows_part}
use Rattle.certificate_reader.specs.CertificateReading.{certificate_sizes_fit, read_header, read_rows, with_rows, read_certificate}
use Rattle.certificates.specs.CertificateModel.{view_of, ranks_of, certified_view as view, certified_ranks as ranks}
use Rattle.certificates.specs.declared.Sizes.{Sizes}
use Rattle.refusals.specs.declared.CertificateRefusal.{CertificateRefusal}
use Rattle.refusals.specs.declared.CertificateRefusal.TheVariants as refused
use Rattle.certificates.proofs.ModelLaws.{rows-length, rows-byte}
use Rattle.certificate_reader.proofs.CertificateLaws.{certificate-ok}
use Rattle.sweeps.specs.Tallies.{none, tallied, acceptance}
use Rattle.checker.specs.Judge.{pairs_in, judged, judged_bytes, judge_verdict, answer_after, judge_known, judge_answer}
use Rattle.sweeps.specs.declared.Tally.{Tally}
use Rattle.table_pairs.specs.declared.Heads.{Heads}
use Rattle.table_reader.specs.declared.Known.TheVariants.{Both}
use Rattle.table_pairs.specs.TablePairs.{tables_verdict}
use Rattle.certificate_reader.specs.CertificateVerdicts.{certificate_verdict}
use Rattle.demands.specs.Demand2.{SameWhereRelated}
use Rattle.outcomes.specs.Obligation.{obligation_at}
use Rattle.starts.specs.StartsNamed.{StartsNamed, starts_named}
use Rattle.obligations.specs.Judging.{Check, checks, Finding, step_verdict, check_verdict}
use Rattle.starts.specs.StartsVerdict.{starts_verdict}
use Rattle.obligations.proofs.JudgingLaws.{checks-all}

-- The ranks are the same where the own state and the other's are related.
record SameRanks (v : View) (r r' : Ranks) : Type 0 where
  stutter : (s t : ℕ) → T (v.related s t) → r.stutter s t ≡ r'.stutter s t
  match : (j t : ℕ) → T (v.related (v.own.from j) t) → r.match j t ≡ r'.match j t

-- a test whose second part is looked at only where the first passes
and_same : (a : Bool) {b c : Bool} → (T a → b ≡ c) → (a && b) ≡ (a && c)
and_same true h = h tt
and_same false h = refl

module _ (v : View) (r r' : Ranks) (same : SameRanks v r r') (j t : ℕ) (rel : T (v.related (v.own.from j) t)) where
  same-2b : is2b v r j t ≡ is2b v r' j t
  unfolding is2b
  same-2b =
      and_same (v.own.silent j && v.related (v.own.to j) t)
      (λ h. ap₂ ltb (same.stutter (v.own.to j) t (and_r (v.own.silent j) _ h)) (same.stutter (v.own.from j) t rel))

  same-2c : meets2c v r j t ≡ meets2c v r' j t
  same-2c = fun_ext λ k.
      and_same (eqb (v.other.from k) t && v.other.silent k && v.related (v.own.from j) (v.other.to k))
      (λ h. ap₂ ltb (same.match j (v.other.to k) (and_r (eqb (v.other.from k) t && v.other.silent k) _ h))
      (same.match j t rel))

  same-obligation : obligation_at v r j t ≡ obligation_at v r' j t
  unfolding obligation_at is2c
  same-obligation = rw (same-2b, same-2c)

module _ (v : View) (r r' : Ranks) where
  abbrev Same : Check → Type 0
  Same c = check_verdict v r c ≡ check_verdict v r' c

  -- every check is one of a related pair
  checks-same : SameRanks v r r' → SameRanks (flip v) (swap r) (swap r') → All Same (checks v)
  unfolding check_verdict
  checks-same a b =
      checks-all v Same (record {
        labels = λ s t h. refl;
        left = λ s t h j l e. ap (step_verdict 0 s t j) (same-obligation v r r' a j t (subst (λ (x : ℕ). T (v.related x t)) (sym e) h));
        right = λ s t h j l e. ap (step_verdict 1 s t j) (same-obligation (flip v) (swap r) (swap r') b j s (subst (λ (x : ℕ). T (v.related s x)) (sym e) h));
      })

  judged-same-ranks : SameRanks v r r' → SameRanks (flip v) (swap r) (swap r') → (named : StartsNamed) → judged v r named ≡ judged v r' named
  unfolding judged
  judged-same-ranks a b named =
      then-cong (starts_verdict v named)
      (λ x. along-cong (λ c. tallied (check_verdict v r c)) (λ c. tallied (check_verdict v r' c))
      (checks v) (all-imply Same _ (λ c h y. ap (λ (x : Verdict Finding). tallied x y) h) (checks v) (checks-same a b)) none)

-- ---- on bytes

module _ (left right c c' : List ℕ) (d : SameWhereRelated left right c c') where
  abbrev z : Sizes
  z = sizes_of left right

  head-number : (i k : ℕ) → i + k ≤ 11 → big_endian c i k ≡ big_endian c' i k
  unfolding al_at
  head-number i k l = big-cong c c' i i k (λ x b. d.head (i + x) (omega arith))

  head_byte : (i : ℕ) → i < 11 → byte_at c i ≡ byte_at c' i
  unfolding al_at
  head_byte i l = d.head i (omega arith)

  magic-same : magic_fits 0x43 c ≡ magic_fits 0x43 c'
  unfolding magic_fits
  magic-same = rw (head_byte 0 (omega arith), head_byte 1 (omega arith), head_byte 2 (omega arith))

  sizes-same : certificate_sizes_fit z c ≡ certificate_sizes_fit z c'
  unfolding certificate_sizes_fit
  sizes-same = rw (head_byte 5 (omega arith), head_byte 6 (omega arith), head-number 7 2 (omega arith), head-number 9 2 (omega arith))

  header-same : read_header z c ≡ read_header z c'
  unfolding read_header
  header-same = rw (d.long, magic-same, head-number 3 2 (omega arith), sizes-same)

  -- where the length is right, the rows are the same
  rows_same : length c ≡ certificate_length z → rows_part c z ≡ rows_part c' z
  unfolding al_at
  rows_same e =
      let a = rows-length z c e in
      let b = rows-length z c' (sym d.long ∙ e) in
      ext_get_or 0 (rows_part c z) (rows_part c' z) (a ∙ sym b)
      (λ i l. let k : i < 8 * z.n1 = rw a at l in
      rows-byte z c i k ∙ d.head (certificate_header_length + i) (omega arith) ∙ sym (rows-byte z c' i k))

  -- a good header has the sizes and the length
  good-header : {y : Sizes} → read_header z c ≡ Ok y → (y ≡ z) × (length c ≡ certificate_length z)
  unfolding read_header
  good-header {y} e =
      let q = last (ltb (length c) 11) (not (magic_fits 0x43 c))
      (not (eqb (big_endian c 3 2) 1)) (not (certificate_sizes_fit z c)) (not (eqb (length c) (certificate_length z))) e in
      (q.0, eqb-true _ _ (not-false _ q.1))
    where
      no : {r : CertificateRefusal} {s : Sizes} → ◌≡◌ {A = Result Sizes CertificateRefusal} (Err r) (Ok s) → ⊥
      no q = let z : ◌≡◌ {A = ℕ} 0 1 = cc q in omega arith

      last : (a b d f g : Bool)
          → cond a (Err refused.Short) (cond b (Err refused.Magic)
          (cond d (Err refused.Version) (cond f (Err refused.Sizes)
          (cond g (Err refused.Length) (Ok z)))))
          ≡ Ok y
          → (y ≡ z) × (g ≡ false)
      last true b d f g e = absurd (no e)
      last false true d f g e = absurd (no e)
      last false false true f g e = absurd (no e)
      last false false false true g e = absurd (no e)
      last false false false false true e = absurd (no e)
      last false false false false false e = (cc e, refl)

  read_same : read_certificate z c ≡ read_certificate z c'
  unfolding read_certificate
  read_same = go (read_header z c) refl
    where
      go : (x : Result Sizes CertificateRefusal) → read_header z c ≡ x → with_rows c (read_header z c) ≡ with_rows c' (read_header z c')
      go (Err r) e = rw (← header-same, e)
      go (Ok y) e =
          let q = good-header e in
          rw (← header-same, e) (ap (read_rows y) (subst (λ (x : Sizes). rows_part c x ≡ rows_part c' x) (sym q.0) (rows_same q.1)))

  -- the ranks are the same where related
  ranks-same : SameRanks (view left right c) (ranks left right c) (ranks left right c')
  unfolding ranks_of view_of sizes_of
  ranks-same = record { stutter = d.al; match = d.cl }

  ranks-same' : SameRanks (flip (view left right c)) (swap (ranks left right c)) (swap (ranks left right c'))
  unfolding ranks_of view_of sizes_of
  ranks-same' = record { stutter = λ t s h. d.ar s t h; match = λ j s h. d.cr j s h }

  -- where the certificate is read, the verdict and the pairs are the same
  judged-same : length c ≡ certificate_length z → judged_bytes left right c ≡ judged_bytes left right c'
  unfolding judged_bytes
  judged-same e =
      judged-same-ranks (view left right c) (ranks left right c) (ranks left right c') ranks-same ranks-same' (starts_named left right)
      ∙ ap (λ (rows : List ℕ). judged (view_of left right rows) (ranks left right c') (starts_named left right)) (rows_same e)

  -- the verdict on a certificate where the verdict on the tables is this
  abbrev verdict_on : List ℕ → Verdict Heads → Verdict Tally
  verdict_on x tables = tables and_then λ h. certificate_verdict 2 (read_certificate z x) and_then λ y. judged_bytes left right x

  -- two certificates that differ only in ranks of unrelated pairs get the same six numbers
  pub unrelated-ranks : judge_answer left right c ≡ judge_answer left right c'
  unfolding judge_known judge_verdict
  unrelated-ranks = go (tables_verdict Both left right) (read_certificate z c) refl
    where
      go : (x : Verdict Heads) (k : Result Sizes CertificateRefusal) → read_certificate z c ≡ k
          → answer_after left right c (verdict_on c x) ≡ answer_after left right c' (verdict_on c' x)
      go (Err a) k e = refl
      go (Ok h) (Err r) e = rw (← read_same, e)
      go (Ok h) (Ok s) e =
          let l = (certificate-ok z c e).1.long in
          rw (← read_same, e, judged-same l)
          (ap (λ (rows : List ℕ). answer_of (acceptance (pairs_in rows (states_of left))) (judged_bytes left right c'))
          (rows_same l))
