-- Laws of what is read off two sides: the checks in judging order and one obligation are those of the view that the sides hold; how many steps
-- there can be from a state, and where the runs of ranks lie. Assumes nothing.
use Rattle.outcomes.specs.declared.Outcome.TheVariants.{Met}
use Prim.Native.Nat.{ℕ, zero, suc, ◌+◌, ◌*◌, ◌^◌, ◌≤◌, ◌<◌}
use mathlib.Core.Path.{◌≡◌, refl, sym, ap, ap₂, fun_ext, ◌∙◌}
use mathlib.Core.Bool.{Bool, true, false, cond, ◌&&◌, and_assoc, and-false}
use mathlib.Core.List.{List, [], ◌∷◌}
use native.Mathlib.Nat.{add_assoc, mul-le-mul}
use native.Mathlib.Omega.{arith}
use lib.Bits.{bit_and}
use lib.Dec.{T, ltb, eqb}
use lib.ListN.{length}
use lib.Seq.{get_or-drop}
use borrow.Author.Tests.{lt-ltb, le-ltb}
use Rattle.lists.specs.Below.{any_below, some_below}
use Rattle.lists.specs.Numbers.{byte_at}
use Rattle.lists.proofs.BelowLaws.{any-cong}
use Rattle.words.specs.Bits.{has_bit}
use Rattle.bisimulation.specs.Systems.{View, Ranks, WellFormed, flip, swap}
use Rattle.certificates.specs.declared.Sizes.{Sizes}
use Rattle.certificates.specs.Layout.{al_at, ar_at, cl_at, cr_at}
use Rattle.certificates.proofs.LayoutLaws.{products-fit}
use Rattle.sides.specs.declared.Side.{Side}
use Rattle.sides.specs.Side.{system_in, key_at, related_to, silent_from, linked_from, next_step, steps_in, entered_by}
use Rattle.sides.specs.Views.{view_in}
use Rattle.sides.specs.Built.{Linked}
use Rattle.sides.proofs.GroupLaws.{silent-start}
use Rattle.sides.proofs.LinkLaws.{eqb_swap}
use Rattle.outcomes.specs.declared.Clause.TheVariants.{Step, Stutter}
use Rattle.std.specs.Prelude.{Some, None}
use Rattle.obligations.specs.declared.Run.{Run}
use Rattle.outcomes.specs.Obligation.{without_stutter, without_step, obligation_of, obligation_at}
use Rattle.lists.proofs.SomeLaws.{some-e, none-e}
use Rattle.outcomes.proofs.ObligationLaws.{Faces, Ranked, obligation-is}
use Rattle.obligations.specs.Judging.{checks_by, checks}
use Rattle.obligations.specs.OnSides.{checks_in, stutter_at, match_row, facing_in, serving_in, outcome_by_ranks, obligation_in}

-- ---- the checks

-- at most k steps are met along k links, and 256 from a state
linked-few : (side : Side) (k j : ℕ) → length (linked_from side k j) ≤ k
unfolding linked_from
linked-few side zero j = omega arith
linked-few side (suc k) j = when (ltb j 256) _ (linked-few side k (next_step side j))
  where
    when : (b : Bool) (l : List ℕ) → length l ≤ k → length (cond b (j ∷ l) []) ≤ suc k
    when true l h = omega arith
    when false l h = omega arith

pub steps-few : (side : Side) (s : ℕ) → length (steps_in side s) ≤ 256
unfolding steps_in
steps-few side s = linked-few side 256 _

-- in sides of tables that are read they are the theory's
pub checks-in : {ours theirs : Side} → Linked ours → Linked theirs → checks_in ours theirs ≡ checks (view_in ours theirs)
unfolding checks_in checks
checks-in {ours} {theirs} a b =
    ap₂ (checks_by (system_in ours).states (system_in theirs).states (view_in ours theirs).related) (fun_ext a.steps-are) (fun_ext b.steps-are)

-- ---- the ranks

-- a product of two bytes is small
pub product_small : (a b : ℕ) → a < 256 → b < 256 → a * b ≤ 255 * 255
product_small a b h k = mul-le-mul (let z : a ≤ 255 = omega arith in z) (let z : b ≤ 255 = omega arith in z)

-- whatever the sizes are, the runs begin below 2 to the power 32
pub record RunsLow (z : Sizes) : Type 0 where
  pub al< : al_at z < 2 ^ 32
  pub ar< : ar_at z < 2 ^ 32
  pub cl< : cl_at z < 2 ^ 32
  pub cr< : cr_at z < 2 ^ 32

pub runs-low : (z : Sizes) → z.n1 < 256 → z.n2 < 256 → z.m1 < 65536 → z.m2 < 65536 → RunsLow z
unfolding al_at ar_at cl_at cr_at
runs-low z a b c d =
    let p = products-fit {n = 255} {m = 65535} z (omega arith) (omega arith) (omega arith) (omega arith) in
    record { al< = omega arith; ar< = omega arith; cl< = omega arith; cr< = omega arith }

-- The ranks of a side stand in a certificate where its runs begin.
pub record RanksAt (certificate : List ℕ) (run : Run) (r : Ranks) : Type 0 where
  pub stutter-are : (s t : ℕ) → s < 64 → t < 64 → byte_at certificate (run.stutter + (s * run.states + t)) ≡ r.stutter s t
  pub match-are : (j t : ℕ) → byte_at certificate (run.matches + (j * run.states + t)) ≡ r.match j t

module _ (certificate : List ℕ) (run : Run) (r : Ranks) (at : RanksAt certificate run r) where
  stutter-is : (s t : ℕ) → s < 64 → t < 64 → stutter_at certificate run s t ≡ r.stutter s t
  unfolding stutter_at
  stutter-is s t h k = rw (lt-ltb s 64 h, lt-ltb t 64 k) (at.stutter-are s t h k)

  match_is : (j t : ℕ) → j < 256 → byte_at (match_row certificate run j) t ≡ r.match j t
  unfolding match_row
  match_is j t h =
      rw (lt-ltb j 256 h)
      (get_or-drop (run.matches + j * run.states) certificate t 0 ∙ ap (byte_at certificate) (add_assoc run.matches (j * run.states) t) ∙ at.match-are j t)

-- ---- one obligation

module _ (ours theirs : Side) (certificate : List ℕ) (run : Run) (j t : ℕ) where
  -- 2a holds
  pub by-step : {state : ℕ} → some_below 64 (serving_in ours theirs j t) ≡ Some state → Met Step state ≡ obligation_in ours theirs certificate run j t
  unfolding obligation_in obligation_of
  by-step e = let s = some-e e in sym (rw (lt-ltb (serving_in ours theirs j t) 64 s.0, s.1))

  -- it does not
  pub by-ranks : some_below 64 (serving_in ours theirs j t) ≡ None
      → outcome_by_ranks ours theirs certificate run j t ≡ obligation_in ours theirs certificate run j t
  unfolding obligation_in outcome_by_ranks obligation_of
  by-ranks e = sym (rw (le-ltb (serving_in ours theirs j t) 64 (none-e e)))

  -- where 2a does not hold: 2b is looked at first, for a step that stays, and then 2c
  module _ {s u : ℕ} {stays : Bool} (es : s ≡ (system_in ours).from j) (eu : u ≡ (system_in ours).to j)
      (ey : stays ≡ ((system_in ours).silent j && has_bit (related_to ours u) t)) where
    stays-is : stays ≡ ((system_in ours).silent j && has_bit (related_to ours ((system_in ours).to j)) t)
    stays-is = ey ∙ ap (λ (x : ℕ). (system_in ours).silent j && has_bit (related_to ours x) t) eu

    -- the test of 2b
    abbrev pub falls : Bool
    falls = ltb (stutter_at certificate run ((system_in ours).to j) t) (stutter_at certificate run ((system_in ours).from j) t)

    abbrev pub stutters : Bool
    stutters = ((system_in ours).silent j && has_bit (related_to ours ((system_in ours).to j)) t) && falls

    pub by-stutter : {before after : ℕ} → stays ≡ true → before ≡ stutter_at certificate run s t → after ≡ stutter_at certificate run u t → after < before
        → Met Stutter t ≡ outcome_by_ranks ours theirs certificate run j t
    unfolding outcome_by_ranks without_step
    by-stutter y eb ea h = let k = rw (ea, eb, eu, es) at h in sym (rw (sym stays-is ∙ y, lt-ltb _ _ k))

    -- it does not stay, or the rank does not fall
    pub stutters-not : stays ≡ false → stutters ≡ false
    stutters-not y = ap (λ (b : Bool). b && falls) (sym stays-is ∙ y)

    pub stutters-level : {before after : ℕ} → before ≡ stutter_at certificate run s t → after ≡ stutter_at certificate run u t → before ≤ after → stutters ≡ false
    stutters-level eb ea h =
        let k = rw (ea, eb, eu, es) at h in
        ap (λ (b : Bool). ((system_in ours).silent j && has_bit (related_to ours ((system_in ours).to j)) t) && b) (le-ltb _ _ k)
        ∙ and-false ((system_in ours).silent j && has_bit (related_to ours ((system_in ours).to j)) t)

    pub by-match : {ahead : ℕ} {ranks : List ℕ} → stutters ≡ false → ahead ≡ bit_and (silent_from theirs t) (related_to ours s)
        → ranks ≡ match_row certificate run j
        → without_stutter stays ahead ranks t ≡ outcome_by_ranks ours theirs certificate run j t
    unfolding outcome_by_ranks without_step
    by-match n ea er = sym (rw n (sym (rw (ea, er, stays-is, es))))

  -- in sides of tables that are read, with the ranks of the certificate, it has the theory's outcome
  module _ (r : Ranks) (a : Linked ours) (b : Linked theirs) (at : RanksAt certificate run r) (h : t < 64) (l : j < (system_in ours).steps) where
    serving-is : (u : ℕ) → has_bit (entered_by theirs t (key_at ours j)) u
        ≡ any_below (system_in theirs).steps (λ k. eqb ((system_in theirs).from k) t && eqb (key_at ours j) (key_at theirs k) && eqb ((system_in theirs).to k) u)
    serving-is u =
        b.entered-are t (key_at ours j) u
        ∙ any-cong _ _ _ (λ k _. sym (and_assoc (eqb ((system_in theirs).from k) t) (eqb (key_at ours j) (key_at theirs k)) (eqb ((system_in theirs).to k) u)))

    silent-is : (u : ℕ) → has_bit (silent_from theirs t) u
        ≡ any_below (system_in theirs).steps (λ k. eqb ((system_in theirs).from k) t && (system_in theirs).silent k && eqb ((system_in theirs).to k) u)
    silent-is u =
        ap (λ (x : ℕ). has_bit x u) (sym (silent-start theirs t 0 refl))
        ∙ b.entered-are t 0 u
        ∙ any-cong _ _ _ (λ k _. sym (and_assoc (eqb ((system_in theirs).from k) t) (eqb 0 (key_at theirs k)) (eqb ((system_in theirs).to k) u))
        ∙ ap (λ (x : Bool). eqb ((system_in theirs).from k) t && x && eqb ((system_in theirs).to k) u) (eqb_swap 0 (key_at theirs k)))

    faces : Faces (view_in ours theirs) j t (facing_in ours theirs j t)
    faces =
        record {
          related-from = λ x. refl;
          related-to = λ x. refl;
          serving = serving-is;
          silent = silent-is;
          quiet = refl;
          serving< = b.entered< t (key_at ours j);
          silent< = rw (← silent-start theirs t 0 refl) (b.entered< t 0);
        }

    ranked : Ranked (view_in ours theirs) r j t
        (stutter_at certificate run ((system_in ours).from j) t) (stutter_at certificate run ((system_in ours).to j) t) (match_row certificate run j)
    ranked =
        record {
          before-is = stutter-is certificate run r at _ t (a.from< j l) h;
          after_is = stutter-is certificate run r at _ t (a.to< j l) h;
          ranks-are = λ x. match_is certificate run r at j x (omega arith);
        }

    pub obligation-in : obligation_in ours theirs certificate run j t ≡ obligation_at (view_in ours theirs) r j t
    unfolding obligation_in
    obligation-in = obligation-is (view_in ours theirs) r j t _ faces _ _ _ ranked

-- ---- both sides

-- Two sides and a certificate hold what is judged: the sides are linked and seen from either side the same, and the ranks stand at the two runs.
pub record Holding (ours theirs : Side) (certificate : List ℕ) (left right : Run) (r : Ranks) : Type 0 where
  pub linked : Linked ours
  pub linked' : Linked theirs
  pub formed : WellFormed (view_in ours theirs)
  pub turned : view_in theirs ours ≡ flip (view_in ours theirs)
  pub ranks-at : RanksAt certificate left r
  pub ranks-at' : RanksAt certificate right (swap r)

module _ (ours theirs : Side) (certificate : List ℕ) (left right : Run) (r : Ranks) (holding : Holding ours theirs certificate left right r) (s t : ℕ)
    (h : T ((view_in ours theirs).related s t)) (j : ℕ) where
  pub left-outcome : j < (system_in ours).steps → obligation_in ours theirs certificate left j t ≡ obligation_at (view_in ours theirs) r j t
  left-outcome l =
      let k = holding.formed.there.related< t s h in
      obligation-in ours theirs certificate left j t r holding.linked holding.linked' holding.ranks-at (omega arith) l

  pub right-outcome : j < (system_in theirs).steps
      → obligation_in theirs ours certificate right j s ≡ obligation_at (flip (view_in ours theirs)) (swap r) j s
  right-outcome l =
      let k = holding.formed.here.related< s t h in
      obligation-in theirs ours certificate right j s (swap r) holding.linked' holding.linked holding.ranks-at' (omega arith) l
      ∙ ap (λ (v : View). obligation_at v (swap r) j s) holding.turned
