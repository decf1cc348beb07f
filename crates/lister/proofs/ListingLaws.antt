-- The text that is read off two sides is that of the listing, and it is not long: at most 32,768 lines of at most 17 bytes. Assumes nothing.
use Rattle.outcomes.specs.declared.Outcome.{Outcome}
use Rattle.outcomes.specs.declared.Outcome.TheVariants.{Met, Failed}
use Prim.Native.Nat.{ℕ, ◌*◌, ◌≤◌, ◌<◌, zero-le}
use mathlib.Core.Path.{◌≡◌, refl, sym, ap, ap₂, ◌∙◌}
use mathlib.Core.Bool.{cond}
use mathlib.Core.List.{List, [], ◌∷◌, ◌++◌, map, flat_map, append-nil}
use native.Mathlib.Nat.{mul-le-mul}
use native.Mathlib.Omega.{arith}
use lib.ListN.{length, length-append}
use Rattle.lists.specs.Lists.{All}
use Rattle.lists.proofs.JoinLaws.{join-cong}
use Rattle.lists.proofs.FlatLaws.{flat_append, flat-join, flat-when, flat-map, flat-flat, flat-cong}
use Rattle.words.specs.Bits.{has_bit}
use Rattle.bisimulation.specs.Systems.{View, Ranks, WellFormed, flip, swap}
use Rattle.bisimulation.proofs.ClauseLaws.{flip-formed}
use Rattle.sides.specs.declared.Side.{Side}
use Rattle.sides.specs.Side.{related_to, system_in, steps_in}
use Rattle.sides.specs.Views.{view_in}
use Rattle.outcomes.specs.declared.Clause.{Clause}
use Rattle.outcomes.specs.declared.Clause.TheVariants.{Step, Stutter, Match}
use Rattle.outcomes.specs.Obligation.{clause_number, obligation_at}
use Rattle.obligations.specs.declared.Run.{Run}
use Rattle.obligations.specs.Outcomes.{HasOutcome}
use Rattle.obligations.specs.Judging.{Check, labels_of, left_step, right_step, pair_checks, checks_by, checks, is_obligation, count_obligations}
use Rattle.obligations.specs.OnSides.{checks_in}
use Rattle.obligations.proofs.OutcomeLaws.{outcome-is}
use Rattle.obligations.proofs.JudgingLaws.{checks-all}
use Rattle.obligations.proofs.CountLaws.{count-checks, obligations-most}
use Rattle.obligations.proofs.OnSidesLaws.{checks-in, Holding, left-outcome, right-outcome}
use Rattle.texts.proofs.DecimalLaws.{decimal-one, decimal-two, decimal-three}
use Rattle.texts.proofs.TextLaws.{six-length}
use Rattle.lister.specs.Listing.{outcome_lines, check_lines, listing, line_text}
use Rattle.lister.specs.OnSides.{step_text, steps_text, pair_text, row_text, all_text}

-- ---- the text

module _ (ours theirs : Side) (certificate : List ℕ) (left right : Run) where
  -- The text of a check, as it is read off.
  check_text : Check → List ℕ
  check_text (labels_of s t) = []
  check_text (left_step s t j) = step_text ours theirs certificate left (record { side = 0; own = s; other = t }) j
  check_text (right_step s t j) = step_text theirs ours certificate right (record { side = 1; own = t; other = s }) j

  pair_is : (s t : ℕ) → flat_map check_text (pair_checks (steps_in ours) (steps_in theirs) s t)
      ≡ steps_text ours theirs certificate left (record { side = 0; own = s; other = t })
      ++ steps_text theirs ours certificate right (record { side = 1; own = t; other = s })
  unfolding pair_checks flat_map check_text steps_text
  pair_is s t =
      flat_append check_text (map (left_step s t) (steps_in ours s)) (map (right_step s t) (steps_in theirs t))
      ∙ ap₂ ◌++◌ (flat-map check_text (left_step s t) (steps_in ours s)) (flat-map check_text (right_step s t) (steps_in theirs t))

  all-is : flat_map check_text (checks_in ours theirs) ≡ all_text ours theirs certificate left right
  unfolding checks_in checks_by all_text row_text pair_text
  all-is =
      flat-join check_text (system_in ours).states _
      ∙ join-cong (system_in ours).states _ _ (λ s l.
      flat-join check_text (system_in theirs).states _
      ∙ join-cong (system_in theirs).states _ _ (λ t k.
      flat-when check_text (has_bit (related_to ours s) t) (pair_checks (steps_in ours) (steps_in theirs) s t)
      ∙ ap (λ (text : List ℕ). cond (has_bit (related_to ours s) t) text []) (pair_is s t)))

  module _ (r : Ranks) (holding : Holding ours theirs certificate left right r) where
    abbrev v : View
    v = view_in ours theirs

    check-is : Check → Type 0
    check-is c = check_text c ≡ flat_map line_text (check_lines v r c)

    -- the pairs' lines, over the related pairs in order, are the listing
    pub text-is : all_text ours theirs certificate left right ≡ flat_map line_text (listing v r)
    unfolding check-is check_text check_lines listing step_text flat_map
    text-is =
        sym all-is
        ∙ ap (flat_map check_text) (checks-in holding.linked holding.linked')
        ∙ flat-cong check_text (λ c. flat_map line_text (check_lines v r c)) (checks v)
        (checks-all v check-is (record {
          labels = λ s t h. refl;
          left = λ s t h j l e. ap (λ (o : Outcome). flat_map line_text (outcome_lines 0 s t j o))
              (left-outcome ours theirs certificate left right r holding s t h j l);
          right = λ s t h j l e. ap (λ (o : Outcome). flat_map line_text (outcome_lines 1 s t j o))
              (right-outcome ours theirs certificate left right r holding s t h j l);
        }))
        ∙ sym (flat-flat line_text (check_lines v r) (checks v))

-- ---- its length

-- a line of such numbers
line-short : (side s t j clause x : ℕ) → side < 10 → s < 100 → t < 100 → j < 1000 → clause < 10 → x < 100
    → length (line_text (record { side = side; left = s; right = t; step = j; clause = clause; state = x })) ≤ 17
line-short side s t j clause x a b c d e f =
    let n = six-length side s t j clause x in
    let a' = decimal-one side a in
    let b' = decimal-two s b in
    let c' = decimal-two t c in
    let d' = decimal-three j d in
    let e' = decimal-one clause e in
    let f' = decimal-two x f in
    omega arith

clause-small : (clause : Clause) → clause_number clause < 10
clause-small Step = omega arith
clause-small Stutter = omega arith
clause-small Match = omega arith

-- the state that serves is one of the other side's
state-below : (v : View) (w : WellFormed v) (r : Ranks) (j t : ℕ) → t < v.other.states → (clause : Clause) (x : ℕ)
    → HasOutcome v r j t (Met clause x) → x < v.other.states
state-below v w r j t h Step x p = let q = p.1.0 in rw (← q.3) (w.there.to< q.0 q.1)
state-below v w r j t h Stutter x p = rw p.1.0 h
state-below v w r j t h Match x p = let q = p.1.0 in rw (← q.3) (w.there.to< q.0 q.1)

outcome-short : (v : View) (w : WellFormed v) (r : Ranks) (side s t j i : ℕ) → v.other.states ≤ 64 → i < v.other.states
    → side < 10 → s < 100 → t < 100 → j < 1000 → (o : Outcome) → HasOutcome v r j i o
    → length (flat_map line_text (outcome_lines side s t j o)) ≤ 17
unfolding flat_map
outcome-short v w r side s t j i few h a b c d (Met clause x) p =
    let l = state-below v w r j i h clause x p in
    rw (append-nil (line_text (record { side = side; left = s; right = t; step = j; clause = clause_number clause; state = x })))
    (line-short side s t j (clause_number clause) x a b c d (clause-small clause) (omega arith))
outcome-short v w r side s t j i few h a b c d (Failed failure) p = zero-le

module _ (v : View) (w : WellFormed v) (r : Ranks) (n : v.own.states ≤ 64) (n' : v.other.states ≤ 64) (m : v.own.steps ≤ 256)
    (m' : v.other.steps ≤ 256) where
  short : Check → Type 0
  short c = length (flat_map line_text (check_lines v r c)) ≤ 17 * is_obligation c

  all_short : All short (checks v)
  unfolding short check_lines flat_map
  all_short =
      checks-all v short (record {
        labels = λ s t h. zero-le;
        left = λ s t h j l e.
            let a = w.here.related< s t h in
            let b = w.there.related< t s h in
            outcome-short v w r 0 s t j t n' b (omega arith) (omega arith) (omega arith) (omega arith) (obligation_at v r j t) (outcome-is v r j t);
        right = λ s t h j l e.
            let a = w.here.related< s t h in
            let b = w.there.related< t s h in
            outcome-short (flip v) (flip-formed v w) (swap r) 1 s t j s n a (omega arith) (omega arith) (omega arith) (omega arith)
            (obligation_at (flip v) (swap r) j s) (outcome-is (flip v) (swap r) j s);
      })

  lines-short : (cs : List Check) → All short cs → length (flat_map (λ c. flat_map line_text (check_lines v r c)) cs) ≤ 17 * count_obligations cs
  unfolding flat_map count_obligations short
  lines-short [] a = zero-le
  lines-short (c ∷ cs) a =
      let x = a.0 in
      let y = lines-short cs a.1 in
      let e = length-append (flat_map line_text (check_lines v r c)) (flat_map (λ c. flat_map line_text (check_lines v r c)) cs) in
      omega arith

  pub listing-short : length (flat_map line_text (listing v r)) ≤ 557056
  unfolding listing
  listing-short =
      let l = lines-short (checks v) all_short in
      let e = ap length (flat-flat line_text (check_lines v r) (checks v)) in
      let c = count-checks v in
      let o = obligations-most v in
      let p : v.own.steps * v.other.states ≤ 256 * 64 = mul-le-mul m n' in
      let q : v.other.steps * v.own.states ≤ 256 * 64 = mul-le-mul m' n in
      omega arith
