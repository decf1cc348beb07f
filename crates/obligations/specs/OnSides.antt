-- What is read off two sides and a certificate: the checks in judging order, and one obligation with its ranks.
use Rattle.outcomes.specs.declared.Outcome.{Outcome}
use Rattle.std.specs.Prelude.{ℕ, ◌+◌, ◌*◌, cond, ◌&&◌, List, [], ltb, drop}
use Rattle.lists.specs.Numbers.{byte_at}
use Rattle.tables.specs.Table.{max_states, max_steps}
use Rattle.answers.specs.declared.Which.{Which}
use Rattle.answers.specs.declared.Which.TheVariants.{Left, Right}
use Rattle.certificates.specs.Layout.{al_at, ar_at, cl_at, cr_at}
use Rattle.certificates.specs.declared.Sizes.{Sizes}
use Rattle.sides.specs.declared.Side.{Side}
use Rattle.sides.specs.Side.{system_in, key_at, related_to, silent_from, steps_in, entered_by}
use Rattle.sides.specs.Views.{view_in}
use Rattle.outcomes.specs.Obligation.{Facing, serving_state, without_step, obligation_of}
use Rattle.obligations.specs.Judging.{Check, checks_by}
use Rattle.obligations.specs.declared.Run.{Run}

-- The checks of the related pairs, the steps in the order in which the links lead along them.
unfoldable pub checks_in : (ours theirs : Side) → List Check
checks_in ours theirs = checks_by (system_in ours).states (system_in theirs).states (view_in ours theirs).related (steps_in ours) (steps_in theirs)

-- ---- the ranks

-- Where the runs of a side begin in a certificate, with the other side's number of states.
abbrev pub left_run : Sizes → Run
left_run z = record { stutter = al_at z; matches = cl_at z; states = z.n2 }

abbrev pub right_run : Sizes → Run
right_run z = record { stutter = ar_at z; matches = cr_at z; states = z.n1 }

abbrev pub run_of : Which → Sizes → Run
run_of Left z = left_run z
run_of Right z = right_run z

-- The A rank of s at t; a state of 64 or more has rank 0.
unfoldable pub stutter_at : List ℕ → Run → ℕ → ℕ → ℕ
stutter_at certificate run s t = cond (ltb s max_states && ltb t max_states) (byte_at certificate (run.stutter + (s * run.states + t))) 0

-- The certificate from the C ranks of step j on; a step of 256 or more has none.
unfoldable pub match_row : List ℕ → Run → ℕ → List ℕ
match_row certificate run j = cond (ltb j max_steps) (drop (run.matches + j * run.states) certificate) []

-- ---- one obligation

module _ (ours theirs : Side) where
  -- What the obligation of our step j at t looks at.
  abbrev pub facing_in : ℕ → ℕ → Facing
  facing_in j t =
      record {
        from = related_to ours ((system_in ours).from j);
        to = related_to ours ((system_in ours).to j);
        serving = entered_by theirs t (key_at ours j);
        silent = silent_from theirs t;
        quiet = (system_in ours).silent j;
      }

  -- The smallest state that meets it by 2a, and 64 where there is none.
  abbrev pub serving_in : ℕ → ℕ → ℕ
  serving_in j t = serving_state (facing_in j t)

  module _ (certificate : List ℕ) (run : Run) (j t : ℕ) where
    -- Its outcome where 2a does not hold, and its outcome, with the ranks that stand in the certificate.
    unfoldable pub outcome_by_ranks : Outcome
    outcome_by_ranks =
        without_step (facing_in j t) t (stutter_at certificate run ((system_in ours).from j) t) (stutter_at certificate run ((system_in ours).to j) t)
        (match_row certificate run j)

    unfoldable pub obligation_in : Outcome
    obligation_in =
        obligation_of (facing_in j t) t (stutter_at certificate run ((system_in ours).from j) t) (stutter_at certificate run ((system_in ours).to j) t)
        (match_row certificate run j)
