-- What reading a table gives (document 01, Table and What is turned away; document 02, Asks 1, 5, 6 and 9): a header, or the first cause that applies.
use Rattle.std.specs.Prelude.{ℕ, zero, suc, List, Bool, false, cond, not, ◌&&◌, ◌||◌, length, ltb, leb, eqb, Result, Ok, Err}
use Rattle.lists.specs.Below.{any_below, first_below}
use Rattle.words.specs.Bits.{has_from}
use Rattle.tables.specs.declared.Format.{Format}
use Rattle.tables.specs.Table.{
  max_states,
  max_steps,
  start_header,
  layout_of,
  last_version,
  magic_fits,
  version_of,
  format_in,
  layout_in,
  states_of,
  start_of,
  starts_of,
  start_word,
  initial_of,
  steps_of,
  table_length,
  steps_part,
  from_of,
  to_of,
  key_of,
}
use Rattle.tables.specs.declared.Head.{Head}
use Rattle.refusals.specs.declared.TableRefusal.{TableRefusal}
use Rattle.refusals.specs.declared.TableRefusal.TheVariants.{
  Short,
  Magic,
  Version,
  States,
  Start,
  Starts,
  Steps,
  Length,
  StepEnd,
  Doubled,
  NotGreater,
}
use Rattle.table_reader.specs.declared.Known.{Known}
use Rattle.table_reader.specs.declared.Known.TheVariants.{Both, Plain}

-- The first three bytes are those of a kind that is known: "TPT", or "TPK" of a table with keys; or "TPT" alone.
unfoldable pub magic_known : Known → List ℕ → Bool
magic_known Both s = magic_fits 0x54 s || magic_fits 0x4B s
magic_known Plain s = magic_fits 0x54 s

-- The version is 1 to 4, and 1 of a table with keys.
unfoldable pub version_fits : List ℕ → Bool
version_fits s = leb 1 (version_of s) && leb (version_of s) (last_version s)

-- n is 1 to 64.
unfoldable pub states_fit : ℕ → Bool
states_fit n = leb 1 n && leb n max_states

-- The start word of n states is 0 or has a bit n or more.
unfoldable pub wrong_starts : (word n : ℕ) → Bool
wrong_starts word n = eqb word 0 || has_from word n

module _ (f : Format) (steps : List ℕ) where
  -- An end of step j is n or more.
  unfoldable pub ends_outside : ℕ → ℕ → Bool
  ends_outside n j = leb n (from_of f steps j) || leb n (to_of f steps j)

  -- Step j equals step i.
  unfoldable pub same_step : ℕ → ℕ → Bool
  same_step j i = eqb (from_of f steps i) (from_of f steps j) && eqb (to_of f steps i) (to_of f steps j)

  -- Step j equals an earlier one.
  unfoldable pub doubled : ℕ → Bool
  doubled j = any_below j (same_step j)

  -- Step j is greater than step i: by from, then by to, then by key.
  unfoldable pub greater : ℕ → ℕ → Bool
  greater j i =
      ltb (from_of f steps i) (from_of f steps j)
      || (eqb (from_of f steps i) (from_of f steps j)
      && (ltb (to_of f steps i) (to_of f steps j) || (eqb (to_of f steps i) (to_of f steps j) && ltb (key_of f steps i) (key_of f steps j))))

  -- Step j is not greater than the one before it; step 0 has none before it.
  unfoldable pub not_greater : ℕ → Bool
  not_greater zero = false
  not_greater (suc i) = not (greater (suc i) i)

-- What the header of a good table says.
abbrev pub head_of : List ℕ → Head
head_of s = record { format = format_in s; states = states_of s; steps = steps_of s; initial = record { 0 = initial_of s } }

-- Causes 6 and 7: the first that applies, or the header.
unfoldable pub read_length : List ℕ → Result Head TableRefusal
read_length s =
    cond (ltb max_steps (steps_of s)) (Err Steps)
    (cond (not (eqb (length s) (table_length s))) (Err Length)
    (Ok (head_of s)))

-- Cause 1 of a header that is longer than 9 bytes, then 4, then 5 of one start and 28 of a start word, then 6 and 7.
unfoldable pub read_sizes : List ℕ → Result Head TableRefusal
read_sizes s =
    cond (ltb (length s) (layout_in s).header) (Err Short)
    (cond (not (states_fit (states_of s))) (Err States)
    (cond (not (start_word s) && leb (states_of s) (start_of s)) (Err Start)
    (cond (start_word s && wrong_starts (starts_of s) (states_of s)) (Err Starts)
    (read_length s))))

-- Causes 1 to 3, then the others of the header.
unfoldable pub read_header : Known → List ℕ → Result Head TableRefusal
read_header known s =
    cond (ltb (length s) start_header) (Err Short)
    (cond (not (magic_known known s)) (Err Magic)
    (cond (not (version_fits s)) (Err Version)
    (read_sizes s)))

-- Causes 8, 9 and 24 of a table whose header is good: the first step with an end outside, then where the steps rise the first that is not greater than the
-- one before it, and otherwise the first that equals an earlier one.
unfoldable pub read_steps : Head → List ℕ → Result Head TableRefusal
read_steps h steps =
    let outside = first_below h.steps (ends_outside h.format steps h.states) in
    let late = first_below h.steps (not_greater h.format steps) in
    let twice = first_below h.steps (doubled h.format steps) in
    cond (ltb outside h.steps) (Err (StepEnd outside))
    (cond (layout_of h.format).rising
    (cond (ltb late h.steps) (Err (NotGreater late)) (Ok h))
    (cond (ltb twice h.steps) (Err (Doubled twice)) (Ok h)))

-- The steps are looked at where the header is good.
abbrev pub with_steps : List ℕ → Result Head TableRefusal → Result Head TableRefusal
with_steps s (Ok h) = read_steps h (steps_part s)
with_steps s (Err r) = Err r

-- What reading a table of the kinds that are known gives: a header, or the refusal.
unfoldable pub read_known : Known → List ℕ → Result Head TableRefusal
read_known known s = with_steps s (read_header known s)

-- The same where both kinds are known.
abbrev pub read_table : List ℕ → Result Head TableRefusal
read_table = read_known Both
