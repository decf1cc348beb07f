-- Inner: the path and what matches it, as they are read off two sides and a certificate; and what is known of them where the judge accepts.
use Rattle.outcomes.specs.declared.Outcome.{Outcome}
use Rattle.outcomes.specs.declared.Outcome.TheVariants.{Met, Failed}
use Rattle.std.specs.Prelude.{ℕ, ◌+◌, ◌*◌, ◌≤◌, ◌<◌, ◌≡◌, cond, not, ◌&&◌, List, [], ◌∷◌, T, ltb, eqb, length, Option}
use Rattle.lists.specs.Below.{some_below}
use Rattle.lists.specs.Numbers.{byte_at}
use Rattle.bisimulation.specs.Clauses.{Meets, EveryObligation}
use Rattle.bisimulation.specs.Matcher.{smallest_entered, moves}
use Rattle.bisimulation.specs.PathMatching.{Entry}
use Rattle.bisimulation.specs.PathProperty.{IsPath}
use Rattle.bisimulation.specs.Systems.{View, Ranks, WellFormed, flip}
use Rattle.bisimulation.specs.Triples.{step_of}
use Rattle.answers.specs.Verdicts.{Verdict}
use Rattle.tables.specs.Table.{max_steps}
use Rattle.sides.specs.declared.Side.{Side}
use Rattle.sides.specs.Side.{system_in, steps_in}
use Rattle.sides.specs.Views.{view_in}
use Rattle.sides.specs.Built.{PlainSide}
use Rattle.outcomes.specs.declared.Clause.TheVariants.{Step, Stutter, Match}
use Rattle.outcomes.specs.Obligation.{obligation_at}
use Rattle.obligations.specs.declared.Run.{Run}
use Rattle.path_matcher.specs.declared.Move.{Move}
use Rattle.path_matcher.specs.declared.Move.TheVariants.{Enter, Stay, Push, End}
use Rattle.path_matcher.specs.Following.{given_along, matched_along, match_verdict}

-- The first of the steps that enters u, and 256 where none does.
unfoldable pub first_to : (side : Side) → ℕ → List ℕ → ℕ
first_to side u [] = max_steps
first_to side u (j ∷ js) = cond (eqb ((system_in side).to j) u) j (first_to side u js)

-- The step from s to u, among those that the links lead along.
unfoldable pub step_between : (side : Side) → ℕ → ℕ → ℕ
step_between side s u = first_to side u (steps_in side s)

-- Our side's ranks, which stand in the certificate where the run begins. The other side's are not looked at, and stand as 0.
abbrev pub ranks_in : (certificate : List ℕ) → Run → Ranks
ranks_in certificate run =
    record {
      stutter = λ s t. byte_at certificate (run.stutter + (s * run.states + t));
      match = λ j t. byte_at certificate (run.matches + (j * run.states + t));
      stutter' = λ t s. 0;
      match' = λ k s. 0;
    }

module _ (ours theirs : Side) (certificate : List ℕ) (run : Run) where
  abbrev pub given_in : (path : List ℕ) → (start : ℕ) → List Entry
  given_in = given_along (view_in ours theirs) (ranks_in certificate run)

  abbrev pub matched_in : (path : List ℕ) → (start : ℕ) → List Entry
  matched_in = matched_along (view_in ours theirs) (ranks_in certificate run)

  -- The side's number, which is known to be one, is no part of it.
  abbrev pub verdict_in : (start : ℕ) → (path states blocks : List ℕ) → Verdict ℕ
  verdict_in = match_verdict (view_in ours theirs) (ranks_in certificate run) 0

  -- The sides are those of tables without keys, and every obligation of both is met, of theirs with whatever ranks.
  pub record AllMet : Type 0 where
    pub plain : PlainSide ours
    pub plain' : PlainSide theirs
    pub formed : WellFormed (view_in ours theirs)
    pub met : EveryObligation Meets (view_in ours theirs) (ranks_in certificate run)
    pub ranks' : Ranks
    pub met' : EveryObligation Meets (flip (view_in ours theirs)) ranks'

-- The bytes are a path of our table, and its first state is related to the start.
pub record StartsAt (ours theirs : Side) (path : List ℕ) (start : ℕ) : Type 0 where
  pub few : length path ≤ 256
  pub path-is : IsPath (system_in ours) path
  pub related : T ((view_in ours theirs).related (byte_at path 0) start)

-- Their state stands beside state `place` of the path, to which it is related, and the step, if there is one, goes from there to the next.
pub record StandsAt (ours theirs : Side) (path : List ℕ) (place state : ℕ) (step : Option ℕ) : Type 0 where
  pub path-is : IsPath (system_in ours) path
  pub inside : place < length path
  pub related : T ((view_in ours theirs).related (byte_at path place) state)
  pub step_is : step ≡ some_below max_steps (step_between ours (byte_at path place) (byte_at path (place + 1)))

-- ---- one move of the path matcher

-- After an obligation's outcome: a new block after 2a, a given state more after 2b, a written one after 2c.
abbrev pub move_after : Outcome → Move
move_after (Met Step x) = Enter x
move_after (Met Stutter x) = Stay
move_after (Met Match x) = Push x
move_after (Failed failure) = End

-- Beside state i of the path, from t: by the step to the next state, and past the last on to a terminal state where it has ended in one.
unfoldable pub next_move : View → Ranks → (path : List ℕ) → (i t : ℕ) → Move
next_move v r path i t =
    cond (ltb (i + 1) (length path)) (move_after (obligation_at v r (step_of v.own (byte_at path i) (byte_at path (i + 1))) t))
    (cond (not (moves v.own (byte_at path i)) && moves v.other t) (Push (smallest_entered v.other (λ k. eqb (v.other.from k) t))) End)
