-- One obligation (document 01, Duties and clauses): its outcome by the theory's tests, and the same on words of states.
use Rattle.outcomes.specs.declared.Outcome.{Outcome}
use Rattle.outcomes.specs.declared.Outcome.TheVariants.{Met, Failed}
use Rattle.std.specs.Prelude.{ℕ, Bool, cond, not, ◌&&◌, List, ltb}
use Rattle.std.specs.Int.Bits.{bit_and}
use Rattle.lists.specs.Below.{first_below}
use Rattle.lists.specs.Numbers.{byte_at}
use Rattle.words.specs.Bits.{has_bit, first_bit}
use Rattle.bisimulation.specs.Systems.{View, Ranks, stays}
use Rattle.bisimulation.specs.Judge.{meets2a, meets2c, is2a, is2b, is2c}
use Rattle.bisimulation.specs.Matcher.{smallest_entered}
use Rattle.bisimulation.specs.Triples.{ahead}
use Rattle.tables.specs.Table.{max_states}
use Rattle.outcomes.specs.declared.Clause.{Clause}
use Rattle.outcomes.specs.declared.Clause.TheVariants.{Step, Stutter, Match}
use Rattle.outcomes.specs.declared.Failure.{Failure}
use Rattle.outcomes.specs.declared.Failure.TheVariants.{Apart, Rank}

-- The clauses are printed as 1, 2 and 3.
abbrev pub clause_number : Clause → ℕ
clause_number Step = 1
clause_number Stutter = 2
clause_number Match = 3

-- The failures are 18 and 19.
abbrev pub failure_number : Failure → ℕ
failure_number Apart = 18
failure_number Rank = 19

-- Where neither 2a nor 2b holds: it is met by 2c, with the state x, or else it failed, with 18 where the two are apart and 19 otherwise.
abbrev pub outcome_after2b : (by2c : Bool) → ℕ → (apart : Bool) → Outcome
outcome_after2b c x apart = cond c (Met Match x) (cond apart (Failed Apart) (Failed Rank))

-- Where 2a does not hold: it is met by 2b, with the state t, or else as above.
unfoldable pub outcome_after2a : (by2b : Bool) → ℕ → (by2c : Bool) → ℕ → (apart : Bool) → Outcome
outcome_after2a b t c x apart = cond b (Met Stutter t) (outcome_after2b c x apart)

-- Where 18 fits: u, t unrelated (or the step not silent), and no silent step from t to a state related to s.
unfoldable pub is_apart : View → ℕ → ℕ → Bool
is_apart v j t = not (stays v j t) && not (ahead v (v.own.from j) t)

-- The outcome of the obligation of the own step j at t: it is met by the first of 2a, 2b and 2c that holds, with the smallest state that serves, which
-- for 2b is t itself.
unfoldable pub obligation_at : View → Ranks → ℕ → ℕ → Outcome
obligation_at v r j t =
    cond (is2a v j t) (Met Step (smallest_entered v.other (meets2a v j t)))
    (outcome_after2a (is2b v r j t) t (is2c v r j t) (smallest_entered v.other (meets2c v r j t)) (is_apart v j t))

-- ---- on words

-- What an obligation looks at, as words: the states related to s and to u; those that steps from t enter which serve this one in 2a, and those that silent
-- steps from t enter; and whether the step is silent.
pub record Facing : Type 0 where
  pub from : ℕ
  pub to : ℕ
  pub serving : ℕ
  pub silent : ℕ
  pub quiet : Bool

-- The smallest state of the word at which the rank is below that at t, and 64 where there is none.
unfoldable pub first_falling : ℕ → List ℕ → ℕ → ℕ
first_falling word ranks t = first_below max_states (λ x. has_bit word x && ltb (byte_at ranks x) (byte_at ranks t))

-- The step stays inside a block: it is silent, and enters a state related to t.
abbrev pub stays_at : Facing → ℕ → Bool
stays_at f t = f.quiet && has_bit f.to t

-- The outcome where neither 2a nor 2b holds, by the word of the states ahead.
unfoldable pub without_stutter : Bool → ℕ → List ℕ → ℕ → Outcome
without_stutter stays ahead ranks t =
    outcome_after2b (ltb (first_falling ahead ranks t) max_states) (first_falling ahead ranks t) (not stays && not (ltb (first_bit ahead) max_states))

-- The outcome where 2a does not hold.
unfoldable pub without_step : Facing → ℕ → ℕ → ℕ → List ℕ → Outcome
without_step f t before after ranks =
    cond (stays_at f t && ltb after before) (Met Stutter t) (without_stutter (stays_at f t) (bit_and f.silent f.from) ranks t)

-- The smallest state that meets it by 2a, and 64 where there is none.
unfoldable pub serving_state : Facing → ℕ
serving_state f = first_bit (bit_and f.serving f.to)

-- The outcome, where the words have the states that the theory's tests speak of.
unfoldable pub obligation_of : Facing → ℕ → ℕ → ℕ → List ℕ → Outcome
obligation_of f t before after ranks = cond (ltb (serving_state f) max_states) (Met Step (serving_state f)) (without_step f t before after ranks)
