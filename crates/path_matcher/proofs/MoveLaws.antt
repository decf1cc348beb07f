-- Laws of one move of the path matcher: it is read off two sides, and it tells which law of a standing loop applies. Assumes nothing.
use Rattle.outcomes.specs.declared.Outcome.{Outcome}
use Rattle.outcomes.specs.declared.Outcome.TheVariants.{Met}
use Prim.Native.Nat.{ℕ, ◌+◌, ◌≤◌, ◌<◌}
use mathlib.Core.Path.{◌≡◌, refl, sym, ap, ◌∙◌, subst}
use mathlib.Core.Logic.{◌⊎◌, inl, inr}
use mathlib.Core.Bool.{Bool, true, false, cond, not, ◌&&◌}
use mathlib.Core.List.{List}
use native.Mathlib.Omega.{arith}
use native.Mathlib.Decide.{dec_lt}
use lib.Dec.{T, ltb, eqb, eqb→eq, ltb→lt, lt→ltb}
use lib.ListN.{length}
use borrow.Author.Tests.{lt-ltb, le-ltb}
use Rattle.std.specs.Prelude.{Option, Some, None}
use Rattle.lists.proofs.SomeLaws.{some-e, none-e}
use Rattle.sides.specs.declared.Side.{Side}
use Rattle.sides.proofs.ViewLaws.{steps-few}
use Rattle.path_matcher.specs.Following.{has_step}
use Rattle.lists.specs.Numbers.{byte_at}
use Rattle.lists.proofs.BelowLaws.{any-e, any-i, smallest-one}
use Rattle.lists.proofs.BoolLaws.{and_l, and_r, and_i, eq→eqb, T_true, not-T-false}
use Rattle.words.specs.Bits.{has_bit, first_bit}
use Rattle.words.proofs.BitLaws.{first-has, first-least, first-none, first-bound}
use Rattle.bisimulation.specs.Judge.{meets2a, meets2c, is2a, is2b, is2c}
use Rattle.bisimulation.specs.Matcher.{smallest_entered, moves}
use Rattle.bisimulation.specs.Systems.{System, View, Ranks}
use Rattle.bisimulation.specs.Triples.{step_of}
use Rattle.bisimulation.proofs.ClauseLaws.{Enters, smallest-entered}
use Rattle.bisimulation.proofs.PathMatchingLaws.{path-e}
use Rattle.bisimulation.proofs.PlainPaths.{step-of}
use Rattle.sides.specs.Side.{system_in, silent_from}
use Rattle.sides.specs.Views.{view_in}
use Rattle.sides.specs.Built.{PlainSide}
use Rattle.sides.proofs.PlainLaws.{plain-entered, plain-small}
use Rattle.outcomes.specs.declared.Clause.{Clause}
use Rattle.outcomes.specs.declared.Clause.TheVariants.{Step}
use Rattle.outcomes.specs.Obligation.{outcome_after2a, is_apart, obligation_at}
use Rattle.obligations.specs.declared.Run.{Run}
use Rattle.obligations.specs.OnSides.{obligation_in}
use Rattle.obligations.proofs.OnSidesLaws.{obligation-in}
use Rattle.path_matcher.specs.declared.Move.{Move}
use Rattle.path_matcher.specs.declared.Move.TheVariants.{Enter, Stay, Push, End}
use Rattle.path_matcher.specs.OnSides.{step_between, ranks_in, AllMet, StandsAt, move_after, next_move}
use Rattle.path_matcher.proofs.FollowCauseLaws.{has-step-decides}
use Rattle.path_matcher.proofs.PathLaws.{between_is}

-- ---- the smallest state that a step enters

module _ {side : Side} (plain : PlainSide side) (s : ℕ) {x : ℕ} (e : x ≡ first_bit (silent_from side s)) where
  abbrev S : System
  S = system_in side

  from-s : ℕ → Bool
  from-s k = eqb (S.from k) s

  enters : (u : ℕ) → T (has_bit (silent_from side s) u) → Enters S from-s u
  unfolding from-s
  enters u h =
      let q = any-e _ _ (subst T (plain-entered plain s u) h) in
      (q.0, q.1, and_l (eqb (S.from q.0) s) _ q.2, eqb→eq _ _ (and_r (eqb (S.from q.0) s) _ q.2))

  entered_by : (u : ℕ) → Enters S from-s u → T (has_bit (silent_from side s) u)
  unfolding from-s
  entered_by u q = subst T (sym (plain-entered plain s u)) (any-i _ _ q.0 q.1 (and_i (eqb (S.from q.0) s) _ q.2 (eq→eqb _ _ q.3)))

  -- the first state of the word
  pub after-some : x < 64 → T (moves S s) × (x ≡ smallest_entered S (λ k. eqb (S.from k) s))
  unfolding moves from-s
  after-some h =
      let l : first_bit (silent_from side s) < 64 = rw e at h in
      let q = enters _ (first-has (silent_from side s) l) in
      let m = any-i _ from-s q.0 q.1 q.2 in
      (m, e ∙ smallest-one (Enters S from-s) (q, λ y p. least y (entered_by y p)) (smallest-entered S from-s m))
    where
      least : (y : ℕ) → T (has_bit (silent_from side s) y) → first_bit (silent_from side s) ≤ y
      least y p = elim (dec_lt y (first_bit (silent_from side s))) [
        | yes l ↦ absurd (first-least (silent_from side s) y l p)
        | no l ↦ omega arith
      ]

  -- and an empty word
  pub after_none : 64 ≤ x → ¬ T (moves S s)
  unfolding moves from-s
  after_none h m =
      let q = any-e _ from-s m in
      let l : first_bit (silent_from side s) ≡ 64 = omega (arith, first-bound (silent_from side s), e) in
      first-none (silent_from side s) l (S.to q.0) (plain-small plain s) (entered_by _ (q.0, q.1, q.2, refl))

-- ---- the move is read off the sides

module _ {ours theirs : Side} {certificate : List ℕ} {run : Run} {path : List ℕ} {place state : ℕ} {step : Option ℕ} (all : AllMet ours theirs certificate run)
    (at : StandsAt ours theirs path place state step) where
  abbrev v : View
  v = view_in ours theirs

  abbrev r : Ranks
  r = ranks_in certificate run

  module _ (more : place + 1 < length path) where
    enters-next : T (has_step v.own (byte_at path place) (byte_at path (place + 1)))
    enters-next = (has-step-decides v.own _ _).complete ((path-e v.own path at.path-is).2 place more)

    between : step_between ours (byte_at path place) (byte_at path (place + 1)) ≡ step_of v.own (byte_at path place) (byte_at path (place + 1))
    between = between_is ours all.plain.linked _ _ enters-next

    small : step_of v.own (byte_at path place) (byte_at path (place + 1)) < v.own.steps
    small = (step-of v.own _ _ ((path-e v.own path at.path-is).2 place more)).0

    -- there is a step
    pub some-step : step ≡ None → ⊥
    some-step e = let n = none-e (sym at.step_is ∙ e) in omega (arith, between, small, steps-few ours)

    -- j is the step from the place
    pub step-named : {j : ℕ} → step ≡ Some j → j ≡ step_of v.own (byte_at path place) (byte_at path (place + 1))
    step-named e = sym (some-e (sym at.step_is ∙ e)).1 ∙ between

    outcome-named : {j : ℕ} → step ≡ Some j
        → obligation_in ours theirs certificate run j state ≡ obligation_at v r (step_of v.own (byte_at path place) (byte_at path (place + 1))) state
    outcome-named {j} e =
        let h = all.formed.there.related< state (byte_at path place) at.related in
        obligation-in ours theirs certificate run j state r all.plain.linked all.plain'.linked
        (record { stutter-are = λ s t a b. refl; match-are = λ i t. refl }) (omega arith) (rw (step-named e) small)
        ∙ ap (λ (i : ℕ). obligation_at v r i state) (step-named e)

    -- by the obligation's outcome
    pub move-by : {j : ℕ} → step ≡ Some j → {o : Outcome} (o' : Outcome) → o ≡ obligation_in ours theirs certificate run j state → o ≡ o'
        → move_after o' ≡ next_move v r path place state
    unfolding next_move
    move-by is o' e q = sym (rw (lt-ltb (place + 1) (length path) more) (ap move_after (sym (outcome-named is) ∙ sym e ∙ q)))

    pub move-met : {j : ℕ} → step ≡ Some j → {o : Outcome} {clause : Clause} {x : ℕ} (k : Clause)
        → o ≡ obligation_in ours theirs certificate run j state → o ≡ Met clause x
        → clause ≡ k → move_after (Met k x) ≡ next_move v r path place state
    move-met is {x = x} k e q c = move-by is (Met k x) e (q ∙ ap (λ (z : Clause). Met z x) c)

  module _ (last : length path ≤ place + 1) where
    -- past the last state
    pub move-on : {x : ℕ} → ¬ T (moves v.own (byte_at path place)) → T (moves v.other state)
        → x ≡ smallest_entered v.other (λ k. eqb (v.other.from k) state) → Push x ≡ next_move v r path place state
    unfolding next_move
    move-on n m e =
        let own = not-T-false (moves v.own (byte_at path place)) n in
        sym (rw (le-ltb (place + 1) (length path) last, own, T_true (moves v.other state) m) (ap Push (sym e)))

    pub move-none : T (moves v.own (byte_at path place)) ⊎ (¬ T (moves v.other state)) → End ≡ next_move v r path place state
    unfolding next_move
    move-none c = sym (rw (le-ltb (place + 1) (length path) last) (go _ (moves v.own (byte_at path place)) (moves v.other state) c))
      where
        go : (x : Move) (a b : Bool) → T a ⊎ (¬ T b) → cond (not a && b) x End ≡ End
        go x true b c = refl
        go x false true (inl a) = absurd a
        go x false true (inr n) = absurd (n tt)
        go x false false c = refl

-- ---- what a move tells

module _ (v : View) (r : Ranks) (path : List ℕ) (i t : ℕ) where
  -- The step from the place.
  abbrev step_at : ℕ
  step_at = step_of v.own (byte_at path i) (byte_at path (i + 1))

  -- By which clause a move goes, and to which state.
  abbrev pub Told : Move → Type 0
  Told (Enter x) = (i + 1 < length path) × T (is2a v step_at t) × (x ≡ smallest_entered v.other (meets2a v step_at t))
  Told Stay = (i + 1 < length path) × (¬ T (is2a v step_at t)) × T (is2b v r step_at t)
  Told (Push x) =
      ((i + 1 < length path) × (¬ T (is2a v step_at t)) × (¬ T (is2b v r step_at t)) × T (is2c v r step_at t)
      × (x ≡ smallest_entered v.other (meets2c v r step_at t)))
      ⊎ ((length path ≤ i + 1) × (¬ T (moves v.own (byte_at path i))) × T (moves v.other t)
      × (x ≡ smallest_entered v.other (λ k. eqb (v.other.from k) t)))
  Told End =
      ((i + 1 < length path) × (¬ T (is2a v step_at t)) × (¬ T (is2b v r step_at t)) × (¬ T (is2c v r step_at t)))
      ⊎ ((length path ≤ i + 1) × (T (moves v.own (byte_at path i)) ⊎ (¬ T (moves v.other t))))

  -- the test b passes just where X does
  abbrev Says : Bool → Bool → Type 0
  Says b X = (T b → T X) × (¬ T b → ¬ T X)

  told-by : (l a b c d p q : Bool) → (T l → i + 1 < length path) → (¬ T l → length path ≤ i + 1) → Says a (is2a v step_at t)
      → Says b (is2b v r step_at t) → Says c (is2c v r step_at t) → Says p (moves v.own (byte_at path i)) → Says q (moves v.other t)
      → Told (cond l
      (move_after (cond a (Met Step (smallest_entered v.other (meets2a v step_at t)))
      (outcome_after2a b t c (smallest_entered v.other (meets2c v r step_at t)) d)))
      (cond (not p && q) (Push (smallest_entered v.other (λ k. eqb (v.other.from k) t))) End))
  unfolding outcome_after2a
  told-by true true b c d p q k n A B C P Q = (k tt, A.0 tt, refl)
  told-by true false true c d p q k n A B C P Q = (k tt, A.1 (λ z. z), B.0 tt)
  told-by true false false true d p q k n A B C P Q = inl (k tt, A.1 (λ z. z), B.1 (λ z. z), C.0 tt, refl)
  told-by true false false false true p q k n A B C P Q = inl (k tt, A.1 (λ z. z), B.1 (λ z. z), C.1 (λ z. z))
  told-by true false false false false p q k n A B C P Q = inl (k tt, A.1 (λ z. z), B.1 (λ z. z), C.1 (λ z. z))
  told-by false a b c d true q k n A B C P Q = inr (n (λ z. z), inl (P.0 tt))
  told-by false a b c d false true k n A B C P Q = inr (n (λ z. z), P.1 (λ z. z), Q.0 tt, refl)
  told-by false a b c d false false k n A B C P Q = inr (n (λ z. z), inr (Q.1 (λ z. z)))

  pub told : Told (next_move v r path i t)
  unfolding next_move obligation_at
  told =
      told-by (ltb (i + 1) (length path)) (is2a v step_at t) (is2b v r step_at t) (is2c v r step_at t) (is_apart v step_at t) (moves v.own (byte_at path i))
      (moves v.other t) (ltb→lt _ _) (λ n. elim (dec_lt (i + 1) (length path)) [ yes h ↦ absurd (n (lt→ltb _ _ h)) | no h ↦ omega arith ])
      ((λ h. h), (λ n. n)) ((λ h. h), (λ n. n)) ((λ h. h), (λ n. n)) ((λ h. h), (λ n. n)) ((λ h. h), (λ n. n))
