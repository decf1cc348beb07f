-- Laws of the search for a chain that is too long: by fixed state, then by first state. Assumes nothing.
use Rattle.std.specs.Prelude.{Err, Some, None}
use Prim.Native.Nat.{ℕ, ◌≤◌, ◌<◌}
use mathlib.Core.Path.{◌≡◌, refl, sym, ap, ◌∙◌}
use mathlib.Core.Bool.{Bool, cond}
use native.Mathlib.Omega.{arith}
use Rattle.lists.specs.Below.{found_below}
use Rattle.lists.proofs.BoolLaws.{cond-true, cond-false}
use Rattle.answers.specs.Verdicts.{Verdict, passed, first_of}
use Rattle.answers.proofs.VerdictLaws.{of-cong, of_none, of-hit, test-hit, test-none}
use Rattle.obligations.specs.CheckAnswers.{chain_answer}
use Rattle.lists.proofs.SomeLaws.{some-e, none-e}
use Rattle.examination.specs.Examine.{first_chain}

module _ (side m n : ℕ) (long : ℕ → ℕ → Bool) where
  -- The verdict on a chain at b from c, and on all chains at the fixed state b.
  abbrev chain_at : ℕ → ℕ → Verdict (Unit {0})
  chain_at b c = cond (long b c) (Err (chain_answer side b c)) passed

  abbrev pub chains_at : ℕ → Verdict (Unit {0})
  chains_at b = first_of n (chain_at b)

  -- the first state that is found decides at b
  module _ (b : ℕ) where
    found : {c : ℕ} → found_below n (long b) ≡ Some c → chains_at b ≡ Err (chain_answer side b c)
    found e =
        let p = some-e e in
        test-hit n (chain_at b) (long b) (chain_answer side b) (λ i h. cond-true (long b i) _ _ h) (λ i h. cond-false (long b i) _ _ h) (sym p.1)
        (rw p.1 at p.0)

    pub none_found : found_below n (long b) ≡ None → chains_at b ≡ passed
    none_found e =
        test-none n (chain_at b) (long b) (chain_answer side b) (λ i h. cond-true (long b i) _ _ h) (λ i h. cond-false (long b i) _ _ h) refl
        (none-e e)

    pub chain-found : {a c : ℕ} → ((i : ℕ) → i < b → chains_at i ≡ passed) → b < m → a ≡ side → found_below n (long b) ≡ Some c
        → Err (chain_answer a b c) ≡ first_chain side m n long
    unfolding first_chain
    chain-found {c = c} w h z e = ap (λ (a : ℕ). Err (chain_answer a b c)) z ∙ sym (of-hit m b chains_at (chain_answer side b c) h w (found e))

  pub chain-none : {b : ℕ} → ((i : ℕ) → i < b → chains_at i ≡ passed) → m ≤ b → passed ≡ first_chain side m n long
  unfolding first_chain
  chain-none {b} w l = sym (of_none m chains_at (λ i h. w i (omega arith)))

-- tests that agree inside the bounds find the same chain
pub chains-cong : (side m n : ℕ) (long long' : ℕ → ℕ → Bool) → ((b c : ℕ) → b < m → c < n → long b c ≡ long' b c)
    → first_chain side m n long ≡ first_chain side m n long'
unfolding first_chain
chains-cong side m n long long' e =
    of-cong m _ _ (λ b hb. of-cong n _ _ (λ c hc. ap (λ (k : Bool). cond k (Err (chain_answer side b c)) passed) (e b c hb hc)))
