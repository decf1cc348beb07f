-- The maker's ranks mean what document 01 says: the least number of steps inside a matching run, and the most steps of a chain. Assumes nothing.
use Prim.Native.Nat.{ℕ, ◌<◌}
use mathlib.Core.Path.{◌≡◌, sym, ◌∙◌}
use native.Mathlib.Omega.{arith}
use lib.Dec.{T, ltb→lt}
use Rattle.lists.proofs.BoolLaws.{cond-true, cond-false, and_l, and_r}
use Rattle.bisimulation.specs.Systems.{View, WellFormed, flip}
use Rattle.bisimulation.specs.Maker.{matched, distance, match_rank, chain_length, stutter_rank, none_endless, succeeds}
use Rattle.bisimulation.proofs.ClauseLaws.{pairs-e}
use Rattle.bisimulation.proofs.RunLaws.{matched-iff, matched-run, run-matched, chain-some, chain-longest}
use Rattle.demands.specs.Ranks.{MatchRanks, StutterRanks}

pub match-ranks : (v : View) → WellFormed v → MatchRanks v (match_rank v)
unfolding match_rank
match-ranks v w =
    record {
      some-run = λ j t l k p.
          let m = (matched-iff v w j t).1 p in
          let q = matched-run v w j t m in
          (q.0, q.1, q.2 ∙ sym (cond-true (matched v j t) (distance v j t) 0 m));
      none-fewer = λ j t l k K m. let q = run-matched v w j t K m in let e = cond-true (matched v j t) (distance v j t) 0 q.0 in omega (arith, e, q.1);
      no_run = λ j t l k n. cond-false (matched v j t) (distance v j t) 0 (λ m. n ((matched-iff v w j t).0 m));
    }

pub stutter-ranks : (v : View) → WellFormed v → T (none_endless v) → StutterRanks v (stutter_rank v)
unfolding stutter_rank none_endless
stutter-ranks v w e =
    record {
      some_chain = λ s t l k h.
          let q = chain-some v w t v.own.states s h in
          (q.0, q.1, q.2 ∙ sym (cond-true (v.related s t) (chain_length v t v.own.states s) 0 h));
      none-longer = λ s t l k h J c.
          let b : chain_length v t v.own.states s < v.own.states = ltb→lt _ _ (pairs-e v w _ e s t h) in
          let d = cond-true (v.related s t) (chain_length v t v.own.states s) 0 h in
          omega (arith, chain-longest v w t v.own.states s J c b, d);
      unrelated = λ s t l k h. cond-false (v.related s t) (chain_length v t v.own.states s) 0 h;
    }

-- what success says of the chains of both sides
pub success-endless : (v : View) → T (succeeds v) → T (none_endless v) × T (none_endless (flip v))
unfolding succeeds
success-endless v h = (search (and_l, and_r), search (and_l, and_r))

-- ranks that agree inside mean the same
pub match-agree : (v : View) (C D : ℕ → ℕ → ℕ) → ((j t : ℕ) → j < v.own.steps → t < v.other.states → C j t ≡ D j t) → MatchRanks v C → MatchRanks v D
match-agree v C D e m =
    record {
      some-run = λ j t l k p. let q = m.some-run j t l k p in (q.0, q.1, q.2 ∙ e j t l k);
      none-fewer = λ j t l k K r. omega (arith, e j t l k, m.none-fewer j t l k K r);
      no_run = λ j t l k n. sym (e j t l k) ∙ m.no_run j t l k n;
    }

pub stutter-agree : (v : View) (A B : ℕ → ℕ → ℕ) → ((s t : ℕ) → s < v.own.states → t < v.other.states → A s t ≡ B s t) → StutterRanks v A → StutterRanks v B
stutter-agree v A B e m =
    record {
      some_chain = λ s t l k h. let q = m.some_chain s t l k h in (q.0, q.1, q.2 ∙ e s t l k);
      none-longer = λ s t l k h J c. omega (arith, e s t l k, m.none-longer s t l k h J c);
      unrelated = λ s t l k h. sym (e s t l k) ∙ m.unrelated s t l k h;
    }
