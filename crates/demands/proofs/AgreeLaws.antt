-- Ranks that agree inside the tables: what one is accepted with, the other is too. Assumes nothing.
use Prim.Native.Nat.{ℕ, ◌<◌}
use mathlib.Core.Path.{◌≡◌}
use mathlib.Core.Logic.{inl, inr}
use lib.Dec.{T}
use Rattle.bisimulation.specs.Systems.{View, Ranks, WellFormed, flip, swap}
use Rattle.bisimulation.specs.Clauses.{Meets, EveryObligation}
use Rattle.bisimulation.specs.Judge.{accepts}
use Rattle.bisimulation.proofs.ClauseLaws.{flip-formed, accepts-iff}

-- The own ranks agree at every own state or step with every state of the other.
pub record AgreeInside (v : View) (q r : Ranks) : Type 0 where
  pub stutter : (s t : ℕ) → s < v.own.states → t < v.other.states → q.stutter s t ≡ r.stutter s t
  pub match : (j t : ℕ) → j < v.own.steps → t < v.other.states → q.match j t ≡ r.match j t

side-agree : (v : View) → WellFormed v → (q r : Ranks) → AgreeInside v q r → EveryObligation Meets v q → EveryObligation Meets v r
side-agree v w q r a m j t l h = go (m j t l h)
  where
    t< : t < v.other.states
    t< = w.there.related< t (v.own.from j) h

    go : Meets v q j t → Meets v r j t
    go (inl x) = inl x
    go (inr (inl x)) = inr (inl (
      x.0,
      rw (
        ← (a.stutter (v.own.to j) t (w.here.to< j l) t<),
        ← (a.stutter (v.own.from j) t (w.here.from< j l) t<),
      ) x.1,
    ))
    go (inr (inr x)) = inr (inr (
      x.0,
      x.1,
      x.2,
      x.3,
      x.4,
      rw (← (a.match j (v.other.to x.0) l (w.there.to< x.0 x.1)), ← (a.match j t l t<)) x.5,
    ))

pub accepts-agree : (v : View) → WellFormed v → (q r : Ranks) → AgreeInside v q r → AgreeInside (flip v) (swap q) (swap r) → T (accepts v q) → T (accepts v r)
accepts-agree v w q r a b h =
    let c = (accepts-iff v w q).0 h in
    (accepts-iff v w r).1 (record {
      starts = c.starts;
      labels = c.labels;
      own-met = side-agree v w q r a c.own-met;
      other-met = side-agree (flip v) (flip-formed v w) (swap q) (swap r) b c.other-met;
    })
