-- The ranks made for the counterexample: the judge accepts them by document 01's clauses, and they do not meet the paper's as they stand, so
-- document 01 accepts strictly more certificates. The relation is a well-founded bisimulation all the same: the raised ranks meet the paper's clauses.
-- Assumes nothing.
use Prim.Native.Nat.{ℕ, zero, suc, ◌<◌, zero-le, suc-le-suc}
use mathlib.Core.Path.{◌≡◌, refl, sym, subst}
use mathlib.Core.Logic.{inl, inr, ⊎_elim}
use mathlib.Core.Bool.{true}
use mathlib.Core.List.{[], ◌∷◌}
use native.Mathlib.Nat.{not-suc-le-zero}
use native.Mathlib.Omega.{arith}
use lib.Dec.{T, eqb→eq}
use lib.ListN.{get_or}
use Rattle.lists.specs.Below.{any_below, all_below, first_below, most_below}
use Rattle.bisimulation.specs.Counterexample.{two_states, two_rows, two_two}
use Rattle.bisimulation.specs.Judge.{is2a, is2b, is2c, is_met, all_pairs, all_steps_from, initial_related, labels_equal, obligations_met, accepts}
use Rattle.bisimulation.specs.Maker.{
  matches_within,
  matched,
  distance,
  may_chain,
  chain_along,
  stutter_rank,
  match_rank,
  made,
  none_unmatched,
  none_endless,
  succeeds,
}
use Rattle.bisimulation.specs.Namjoshi.{joint, Related, Bisimulation}
use Rattle.bisimulation.specs.Systems.{Step, WellFormed, Plain}
use Rattle.bisimulation.specs.Triples.{own_rank, triple_rank, raised}
use Rattle.bisimulation.proofs.NamjoshiTheorems.{accepted-bisimulation}

-- document 01's judge accepts
pub two-accepted : accepts two_two (made two_two) ≡ true
unfolding
    accepts initial_related labels_equal obligations_met all_pairs all_steps_from is_met is2a is2b is2c
    stutter_rank match_rank distance matched may_chain chain_along matches_within any_below all_below most_below first_below two_states two_rows two_two
two-accepted = refl

-- the maker succeeds, so a judge with the paper's 2c would refuse what the maker writes here
pub two_made : succeeds two_two ≡ true
unfolding
    succeeds initial_related labels_equal none_unmatched none_endless all_pairs all_steps_from matched may_chain chain_along
    matches_within is2a any_below all_below most_below two_states two_rows two_two
two_made = refl

-- the only step from 0 enters 1
only_step : (x : ℕ) → Step two_states 0 x → 1 ≡ x
unfolding two_states
only_step x (zero, l, e, f) = f
only_step x (suc zero, l, e, f) = omega arith
only_step x (suc (suc j), l, e, f) = omega arith

-- the pair (0, 0) and the left step from 0 to 1: 2a fails, 1 is related to 0 so the paper's 2c is shut, and both A ranks are 0
pub two-not-literal : Bisimulation two_two ◌<◌ (triple_rank two_two (made two_two)) → ⊥
unfolding two_states two_rows two_two own_rank stutter_rank matched may_chain chain_along matches_within is2a any_below most_below
two-not-literal b =
    ⊎_elim (λ a. not-2a a.0 a.1 a.2)
    (λ a. ⊎_elim (λ c. not-suc-le-zero c.1) (λ c. c.0 tt) a)
    (b.clause2 s t tt u (0, suc-le-suc zero-le, refl, refl))
  where
    s : (joint two_two).S
    s = inl (0, suc-le-suc zero-le)

    t : (joint two_two).S
    t = inr (0, suc-le-suc zero-le)

    u : (joint two_two).S
    u = inl (1, suc-le-suc (suc-le-suc zero-le))

    not-2a : (x : (joint two_two).S) → (joint two_two).◌⟶◌ t x → Related two_two u x → ⊥
    not-2a (inl x) e h = e
    not-2a (inr x) e h = subst (λ y. T (two_two.related 1 y)) (sym (only_step x.0 e)) h

-- yet the rows are a well-founded bisimulation: the ranks raised are a rank for the paper's clauses
ends-small : (x y j : ℕ) → j < 2 → x < 2 → y < 2 → get_or (x ∷ y ∷ []) j 0 < 2
ends-small x y zero l a b = a
ends-small x y (suc zero) l a b = b
ends-small x y (suc (suc j)) l a b = omega arith

rows-small : (s t : ℕ) → T (two_two.related s t) → (s < 2) × (t < 2)
unfolding two_two two_rows
rows-small zero zero h = omega arith
rows-small zero (suc zero) h = omega arith
rows-small zero (suc (suc t)) h = absurd h
rows-small (suc zero) zero h = omega arith
rows-small (suc zero) (suc zero) h = absurd h
rows-small (suc zero) (suc (suc t)) h = absurd h
rows-small (suc (suc s)) t h = absurd h

two-initial : (s : ℕ) → T (two_states.initial s) → s < 2
unfolding two_states
two-initial s h = let e = eqb→eq s 0 h in omega arith

two_formed : WellFormed two_two
unfolding two_states two_rows two_two
two_formed =
    record {
      here = record {
        from< = λ j l. ends-small 0 1 j l (omega arith) (omega arith);
        to< = λ j l. ends-small 1 0 j l (omega arith) (omega arith);
        related< = λ s t h. (rows-small s t h).0;
        initial< = two-initial;
        quiet = λ j k a b. tt;
      };
      there = record {
        from< = λ j l. ends-small 0 1 j l (omega arith) (omega arith);
        to< = λ j l. ends-small 1 0 j l (omega arith) (omega arith);
        related< = λ t s h. (rows-small s t h).1;
        initial< = two-initial;
        quiet = λ j k a b. tt;
      };
    }

two-plain : Plain two_two
unfolding two_states two_rows two_two
two-plain = record { silent = λ j. tt; silent' = λ j. tt; serves = λ j k. tt }

pub two-bisimulation : Bisimulation two_two ◌<◌ (triple_rank two_two (raised two_two (made two_two)))
two-bisimulation = (accepted-bisimulation two_two two_formed two-plain (made two_two) (subst T (sym two-accepted) tt)).1
