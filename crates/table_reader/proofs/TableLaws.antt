-- What a good read says: the header's fields and limits (`HeadOk`), the lengths of the two parts, that the system that the bytes give is well
-- formed (`TableFormed`), and which state the start is. All of it follows from the fact that no cause for turning the table away applies. Assumes nothing.
use Rattle.std.specs.Prelude.{Ok}
use Prim.Native.Nat.{ℕ, ◌*◌, ◌^◌, ◌≤◌, ◌<◌}
use mathlib.Core.Path.{◌≡◌, sym, ap, ◌∙◌, subst}
use mathlib.Core.Logic.{inl, inr, ⊎_elim}
use mathlib.Core.Bool.{Bool, false, cond, ◌||◌, or-false}
use mathlib.Core.List.{List, ◌++◌}
use native.Mathlib.Nat.{mod-lt, zero-lt-suc}
use native.Mathlib.Omega.{arith}
use native.Mathlib.Decide.{dec_lt}
use lib.Dec.{T, eqb, eqb_refl, eqb→eq}
use lib.ListN.{length}
use Rattle.lists.specs.Below.{first_below}
use Rattle.lists.specs.Numbers.{big_endian}
use Rattle.lists.proofs.BelowLaws.{first-is}
use Rattle.lists.proofs.BoolLaws.{T-dec, T_true, not-T-false, false-not-T}
use Rattle.lists.proofs.FillLaws.{part_length}
use Rattle.words.specs.Bits.{has_bit, add_bit, first_bit}
use Rattle.words.proofs.BitLaws.{has-add-below, has-empty, from-none}
use Rattle.bisimulation.specs.Systems.{NoTwice}
use Rattle.tables.specs.declared.Head.{Head}
use Rattle.tables.specs.Table.{keyed, format_in, layout_in, states_of, start_of, starts_of}
use Rattle.tables.specs.Table.{start_word, initial_of, steps_of, steps_at, table_length, labels_part, steps_part}
use Rattle.table_reader.specs.declared.Known.{Known}
use Rattle.table_reader.specs.declared.Known.TheVariants.{Both}
use Rattle.table_reader.specs.TableReading.{head_of, read_table}
use Rattle.table_reader.specs.TableCauses.{StartWord, WrongStarts, EndOutside, EqualsEarlier, header_causes, end_causes, order_causes}
use Rattle.answers.specs.Numbers.{six_numbers}
use Rattle.answers.specs.Causes.{NoCause}
use Rattle.answers.proofs.CauseLaws.{append-none, below_none, none-at}
use Rattle.tables.specs.Model.{system_of}
use Rattle.answers.proofs.DecideLaws.{decides-stable, eqb-decides}
use Rattle.table_reader.proofs.TestLaws.{states-decides, from-decides}
use Rattle.table_reader.proofs.OrderLaws.{steps-once}
use Rattle.table_reader.proofs.TableCauseLaws.{good_none}

-- ---- the header

-- The header's fields are what the bytes say, and these keep the limits.
pub record HeadOk (s : List ℕ) (h : Head) : Type 0 where
  pub format-is : h.format ≡ format_in s
  pub states-is : h.states ≡ states_of s
  pub steps-is : h.steps ≡ steps_of s
  pub initial-is : h.initial.0 ≡ initial_of s
  pub states-pos : 1 ≤ states_of s
  pub states-le : states_of s ≤ 64
  pub start-lt : start_word s ≡ false → start_of s < states_of s
  pub starts_fit : StartWord s → ¬ WrongStarts (starts_of s) (states_of s)
  pub steps-le : steps_of s ≤ 256
  pub long : length s ≡ table_length s

-- so it is where no cause of the header applies
pub head_ok : (known : Known) (s : List ℕ) {h : Head} → h ≡ head_of s → NoCause (header_causes known 0 s) → HeadOk s h
head_ok known s {h} e n =
    let none = none-at (header_causes known 0 s) n in
    let limits = decides-stable (states-decides (states_of s)) (none 4) in
    let start : (¬ StartWord s) × (states_of s ≤ start_of s) → ⊥ = none 5 in
    let steps : 256 < steps_of s → ⊥ = none 7 in
    record {
      format-is = ap (λ (k : Head). k.format) e;
      states-is = ap (λ (k : Head). k.states) e;
      steps-is = ap (λ (k : Head). k.steps) e;
      initial-is = ap (λ (k : Head). k.initial.0) e;
      states-pos = limits.0;
      states-le = limits.1;
      start-lt = λ w. elim (dec_lt (start_of s) (states_of s)) [ yes p ↦ p | no q ↦ absurd (start (false-not-T (start_word s) w, omega arith)) ];
      starts_fit = λ w n. none 6 (w, n);
      steps-le = omega arith;
      long = decides-stable (eqb-decides (length s) (table_length s)) (none 8);
    }

-- and so where a table is read
pub table-ok : (s : List ℕ) {h : Head} → read_table s ≡ Ok h → HeadOk s h
table-ok s e = let g = good_none Both 0 s e in head_ok Both s g.0 (append-none (header_causes Both 0 s) (end_causes 0 s ++ order_causes 0 s) g.1).0

-- ---- the two parts

module _ (s : List ℕ) {h : Head} (good : read_table s ≡ Ok h) where
  pub labels_length : length (labels_part s) ≡ states_of s * (layout_in s).label
  unfolding labels_part steps_at table_length
  labels_length = let o = (table-ok s good).long in part_length s (layout_in s).header (states_of s * (layout_in s).label) (omega arith)

  pub steps-length : length (steps_part s) ≡ steps_of s * (layout_in s).step
  unfolding steps_part table_length
  steps-length = let o = (table-ok s good).long in part_length s (steps_at s) (steps_of s * (layout_in s).step) (omega arith)

-- ---- the system

-- no cause of the steps applies
pub steps-none : (s : List ℕ) {h : Head} → read_table s ≡ Ok h → NoCause (end_causes 0 s) × NoCause (order_causes 0 s)
steps-none s e =
    append-none (end_causes 0 s) (order_causes 0 s) (append-none (header_causes Both 0 s) (end_causes 0 s ++ order_causes 0 s) (good_none Both 0 s e).1).1

-- a start word has 64 bits
starts-small : (s : List ℕ) → starts_of s < 2 ^ 64
unfolding starts_of
starts-small s = mod-lt (big_endian s 6 8) (zero-lt-suc 18446744073709551615)

-- The system is well formed; without keys no two steps have the same ends; and where the file has no start word, the start is its one initial state.
pub record TableFormed (s : List ℕ) : Type 0 where
  pub from< : (j : ℕ) → j < (system_of s).steps → (system_of s).from j < (system_of s).states
  pub to< : (j : ℕ) → j < (system_of s).steps → (system_of s).to j < (system_of s).states
  pub no-twice : keyed s ≡ false → NoTwice (system_of s)
  pub initial< : (t : ℕ) → T ((system_of s).initial t) → t < (system_of s).states
  pub one-initial : start_word s ≡ false → (t : ℕ) → (system_of s).initial t ≡ eqb t (start_of s)

pub table-formed : (s : List ℕ) {h : Head} → read_table s ≡ Ok h → TableFormed s
unfolding system_of initial_of
table-formed s {h} e =
    record {
      from< = λ j l. elim (dec_lt ((system_of s).from j) (states_of s)) [ yes p ↦ p | no q ↦ absurd (inside j l (inl (omega arith))) ];
      to< = λ j l. elim (dec_lt ((system_of s).to j) (states_of s)) [ yes p ↦ p | no q ↦ absurd (inside j l (inr (omega arith))) ];
      no-twice = λ plain i j k l p q.
          elim (dec_lt i j) [
            | yes a ↦ absurd (once plain j l (i, a, p, q))
            | no a ↦ elim (dec_lt j i) [
              | yes b ↦ absurd (once plain i k (j, b, sym p, sym q))
              | no b ↦ omega arith
            ]
          ];
      initial< = ⊎_elim of_word of-start (T-dec (start_word s));
      one-initial = one;
    }
  where
    inside : (j : ℕ) → j < steps_of s → ¬ EndOutside s j
    inside = below_none (steps_of s) (EndOutside s) (six_numbers 8 0) (steps-none s e).0

    once : keyed s ≡ false → (j : ℕ) → j < steps_of s → ¬ EqualsEarlier s j
    once = steps-once s (steps-none s e).1

    ok : HeadOk s h
    ok = table-ok s e

    one : start_word s ≡ false → (t : ℕ) → (system_of s).initial t ≡ eqb t (start_of s)
    one w t =
        ap (λ (b : Bool). has_bit (cond b (starts_of s) (add_bit 0 (start_of s))) t) w
        ∙ has-add-below 0 (start_of s) t (omega (arith, ok.start-lt w, ok.states-le))
        ∙ ap (λ (b : Bool). eqb t (start_of s) || b) (has-empty t) ∙ or-false (eqb t (start_of s))

    of-start : ¬ StartWord s → (t : ℕ) → T ((system_of s).initial t) → t < states_of s
    of-start n t b =
        let w = not-T-false (start_word s) n in
        let z : t ≡ start_of s = eqb→eq t (start_of s) (rw (one w t) at b) in
        omega (arith, ok.start-lt w)

    of_word : StartWord s → (t : ℕ) → T ((system_of s).initial t) → t < states_of s
    of_word w t b =
        let e : initial_of s ≡ starts_of s = ap (λ (x : Bool). cond x (starts_of s) (add_bit 0 (start_of s))) (T_true (start_word s) w) in
        from-none (starts_of s) (states_of s) (λ f. ok.starts_fit w (inr ((from-decides (starts_of s) (states_of s)).sound f))) (starts-small s) t
        (subst (λ (x : ℕ). T (has_bit x t)) e b)

-- of one start, the smallest initial state is the start
pub start_first : (s : List ℕ) {h : Head} → read_table s ≡ Ok h → start_word s ≡ false → first_bit h.initial.0 ≡ start_of s
unfolding first_bit system_of
start_first s e w =
    let o = table-ok s e in
    let one = (table-formed s e).one-initial w in
    let n = o.states-le in
    let l = o.start-lt w in
    ap (λ (x : ℕ). first_below 64 (has_bit x)) o.initial-is
    ∙ first-is 64 (has_bit (initial_of s)) (start_of s) (omega arith) (rw (one (start_of s)) (eqb_refl (start_of s)))
    (λ k b q. let z = eqb→eq k (start_of s) (subst T (one k) q) in omega arith)
