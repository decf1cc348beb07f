-- How a certificate's ranks and the paper's rank of triples meet, in plain tables: the rank is split into A and C; and the A ranks raised.
use Rattle.std.specs.Prelude.{ℕ, suc, Bool, ◌&&◌, cond, eqb}
use Rattle.std.proofs.Common.{inl, inr}
use Rattle.lists.specs.Below.{any_below, most_below, first_below}
use Rattle.bisimulation.specs.Systems.{System, View, Ranks, flip, swap}
use Rattle.bisimulation.specs.Namjoshi.{joint}

-- The step from s to u, the first where there are more.
unfoldable pub step_of : System → ℕ → ℕ → ℕ
step_of X s u = first_below X.steps (λ j. eqb (X.from j) s && eqb (X.to j) u)

-- The rank of the own triple (u, s, t): the A rank of (s, t) where u is s, else the C rank of the step from s to u at t.
unfoldable pub own_rank : View → Ranks → ℕ → ℕ → ℕ → ℕ
own_rank v r u s t = cond (eqb u s) (r.stutter s t) (r.match (step_of v.own s u) t)

-- The rank of triples of the two tables side by side that a certificate gives; it is 0 where u and s are not of one table and t of the other.
abbrev pub triple_rank : (v : View) → Ranks → (joint v).S → (joint v).S → (joint v).S → ℕ
triple_rank v r (inl u) (inl s) (inl t) = 0
triple_rank v r (inl u) (inl s) (inr t) = own_rank v r u.0 s.0 t.0
triple_rank v r (inl u) (inr s) (inl t) = 0
triple_rank v r (inl u) (inr s) (inr t) = 0
triple_rank v r (inr u) (inl s) (inl t) = 0
triple_rank v r (inr u) (inl s) (inr t) = 0
triple_rank v r (inr u) (inr s) (inl t) = own_rank (flip v) (swap r) u.0 s.0 t.0
triple_rank v r (inr u) (inr s) (inr t) = 0

-- Some silent step leaves t for a state related to s.
unfoldable pub ahead : View → ℕ → ℕ → Bool
ahead v s t = any_below v.other.steps (λ k. eqb (v.other.from k) t && v.other.silent k && v.related s (v.other.to k))

-- The A rank raised: one more than the greatest A rank at t where such a step is ahead, else as it is.
unfoldable pub raised_rank : View → Ranks → ℕ → ℕ → ℕ
raised_rank v r s t = cond (ahead v s t) (suc (most_below v.own.states (λ x. r.stutter x t))) (r.stutter s t)

-- The certificate's C ranks, with its A ranks raised.
abbrev pub raised : View → Ranks → Ranks
raised v r = record { stutter = raised_rank v r; match = r.match; stutter' = raised_rank (flip v) (swap r); match' = r.match' }
