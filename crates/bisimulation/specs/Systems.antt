-- State tables as transition systems, two of them seen from one side, and the ranks of a certificate.
-- Every fact about a side is stated of a view: `own` is the side whose steps make the obligations, and `flip` gives the other side's view.
use Rattle.std.specs.Prelude.{ℕ, ◌<◌, ◌≡◌, Bool, cond, ◌&&◌, List, [], ◌∷◌, T, eqb}
use Rattle.lists.specs.Lists.{join_below}

-- A table: its states and its steps are numbered from 0, and step j goes from `from j` to `to j`. A label is document 01's mark, an initial
-- state its start. A silent step is one that no key names; in a plain table every step is silent.
pub record System : Type 0 where
  pub states : ℕ
  pub steps : ℕ
  pub initial : ℕ → Bool
  pub label : ℕ → ℕ
  pub from : ℕ → ℕ
  pub to : ℕ → ℕ
  pub silent : ℕ → Bool

-- Some step goes from s to u.
abbrev pub Step : System → ℕ → ℕ → Type 0
Step S s u = (j : ℕ) × (j < S.steps) × (S.from j ≡ s) × (S.to j ≡ u)

-- The steps from s, in table order.
unfoldable pub steps_from : System → ℕ → List ℕ
steps_from S s = join_below S.steps (λ j. cond (eqb (S.from j) s) (j ∷ []) [])

-- A terminal state, document 01's dead end: no step leaves it.
abbrev pub Terminal : System → ℕ → Type 0
Terminal S s = (j : ℕ) → j < S.steps → S.from j ≡ s → ⊥

-- No two steps have the same ends (cause 9 rules it out).
abbrev pub NoTwice : System → Type 0
NoTwice S = (i j : ℕ) → i < S.steps → j < S.steps → S.from i ≡ S.from j → S.to i ≡ S.to j → i ≡ j

-- Two systems and their relation: `related s t` for an own state s and another's state t; `serves j k` where the other's step k may serve
-- the own step j in clause 2a.
pub record View : Type 0 where
  pub own : System
  pub other : System
  pub related : ℕ → ℕ → Bool
  pub serves : ℕ → ℕ → Bool

-- The same two systems seen from the other side.
abbrev pub flip : View → View
flip v = record { own = v.other; other = v.own; related = λ t s. v.related s t; serves = λ k j. v.serves j k }

-- The own step j stays at t: it is silent, and the state u that it enters is related to t. As a test, and as a statement.
abbrev pub stays : View → ℕ → ℕ → Bool
stays v j t = v.own.silent j && v.related (v.own.to j) t

abbrev pub Stays : View → ℕ → ℕ → Type 0
Stays v j t = T (v.own.silent j) × T (v.related (v.own.to j) t)

-- A certificate's ranks: the own stutter ranks A at (s, t) and match ranks C at (j, t), then the other side's.
pub record Ranks : Type 0 where
  pub stutter : ℕ → ℕ → ℕ
  pub match : ℕ → ℕ → ℕ
  pub stutter' : ℕ → ℕ → ℕ
  pub match' : ℕ → ℕ → ℕ

abbrev pub swap : Ranks → Ranks
swap r = record { stutter = r.stutter'; match = r.match'; stutter' = r.stutter; match' = r.match }

-- Each rank is one byte.
abbrev pub Bytes : Ranks → Type 0
Bytes r =
    ((s t : ℕ) → r.stutter s t < 256) × ((j t : ℕ) → r.match j t < 256) × ((t s : ℕ) → r.stutter' t s < 256) × ((k s : ℕ) → r.match' k s < 256)

-- What the readers ensure of one side: the ends of steps, the related states and the initial states are states; and two silent steps serve each other.
pub record SideFormed (v : View) : Type 0 where
  pub from< : (j : ℕ) → j < v.own.steps → v.own.from j < v.own.states
  pub to< : (j : ℕ) → j < v.own.steps → v.own.to j < v.own.states
  pub related< : (s t : ℕ) → T (v.related s t) → s < v.own.states
  pub initial< : (s : ℕ) → T (v.own.initial s) → s < v.own.states
  pub quiet : (j k : ℕ) → T (v.own.silent j) → T (v.other.silent k) → T (v.serves j k)

pub record WellFormed (v : View) : Type 0 where
  pub here : SideFormed v
  pub there : SideFormed (flip v)

-- Plain tables, whose steps have no keys: every step is silent and serves every other.
pub record Plain (v : View) : Type 0 where
  pub silent : (j : ℕ) → T (v.own.silent j)
  pub silent' : (k : ℕ) → T (v.other.silent k)
  pub serves : (j k : ℕ) → T (v.serves j k)

-- Each own initial state is related to some initial state of the other.
abbrev pub InitialRelated : View → Type 0
InitialRelated v = (s : ℕ) → T (v.own.initial s) → (t : ℕ) × T (v.other.initial t) × T (v.related s t)

-- The starts rule (document 02, Ask 5): each left start is related to some right start, and each right start to some left one.
abbrev pub StartsRule : View → Type 0
StartsRule v = InitialRelated v × InitialRelated (flip v)

-- Related states have equal labels.
abbrev pub LabelsEqual : View → Type 0
LabelsEqual v = (s t : ℕ) → T (v.related s t) → v.own.label s ≡ v.other.label t
