-- What the two tables of lengths hold: match distances, and with the table of distances the theory's chain lengths. Assumes nothing.
use Prim.Native.Nat.{ℕ, zero, suc, ◌+◌, ◌*◌, ◌≤◌, ◌<◌}
use mathlib.Core.Path.{◌≡◌, refl, ap, ap₂, ◌∙◌}
use mathlib.Core.Bool.{Bool, cond, ◌&&◌}
use mathlib.Core.List.{List}
use native.Mathlib.Omega.{arith}
use lib.Dec.{leb, eqb}
use borrow.Author.Tests.{lt-ltb}
use Rattle.lists.specs.Lists.{grid}
use Rattle.lists.specs.Numbers.{byte_at}
use Rattle.lists.proofs.BelowLaws.{most-cong}
use Rattle.lists.proofs.FillLaws.{get_or-grid, length-grid, grid-cells}
use Rattle.bisimulation.specs.Systems.{System, View, stays}
use Rattle.bisimulation.specs.Maker.{distance, may_chain, chain_along, chain_length}
use Rattle.lengths.specs.Cells.{distance_at, chain_at}
use Rattle.lengths.specs.Chains.{open_by, chain_by}
use Rattle.lengths.proofs.DistanceLaws.{unmatched-distance}

-- two grids with the same cells
pub grid-cong : (n m : ℕ) (f g : ℕ → ℕ → ℕ) → 0 < m → ((s t : ℕ) → s < n → t < m → f s t ≡ g s t) → grid n m f ≡ grid n m g
grid-cong n m f g p h = grid-cells n m g (grid n m f) p (length-grid n m f) (λ s t a b. get_or-grid n m f s t a b ∙ h s t a b)

-- two tests that agree on every step give the same chains
along-cong : (S : System) (f g : ℕ → Bool) → ((j : ℕ) → j < S.steps → f j ≡ g j) → (k s : ℕ) → chain_along S f k s ≡ chain_along S g k s
unfolding chain_along
along-cong S f g h zero s = refl
along-cong S f g h (suc k) s =
    most-cong S.steps _ _ (λ j l. ap₂ (λ (b : Bool) (x : ℕ). cond (eqb (S.from j) s && b) (suc x) 0) (h j l) (along-cong S f g h k (S.to j)))

module _ (v : View) (few : v.own.steps ≤ 256) where
  -- what the table has for step j at t
  pub table-distance : (j t : ℕ) → j < v.own.steps → t < 64 → byte_at (grid 256 64 (distance_at v)) (j * 64 + t) ≡ distance v j t
  unfolding distance_at
  table-distance j t h l = get_or-grid 256 64 (distance_at v) j t (omega arith) l ∙ ap (λ (b : Bool). cond b (distance v j t) 0) (lt-ltb j v.own.steps h)

  module _ {distances : List ℕ} (are : distances ≡ grid 256 64 (distance_at v)) (t : ℕ) (l : t < 64) where
    -- by a table that holds the distances a step may stand in a chain where it may
    pub open-by-table : (j : ℕ) → j < v.own.steps → open_by v distances t j ≡ may_chain v t j
    unfolding open_by may_chain
    open-by-table j h =
        ap (λ (d : List ℕ). stays v j t && leb v.other.states (byte_at d (j * 64 + t))) are
        ∙ ap (λ (d : ℕ). stays v j t && leb v.other.states d) (table-distance j t h l)
        ∙ ap (λ (b : Bool). stays v j t && b) (unmatched-distance v j t)

    -- and the chains by the table are the theory's
    pub chain-by-table : (s : ℕ) → chain_by v distances t s ≡ chain_length v t v.own.states s
    chain-by-table s = along-cong v.own (open_by v distances t) (may_chain v t) open-by-table v.own.states s

  -- so the table of chains by the table of distances is the table of chains
  pub table-chains : {distances : List ℕ} → distances ≡ grid 256 64 (distance_at v) → grid 64 64 (chain_by v distances) ≡ grid 64 64 (chain_at v)
  table-chains {distances} are = grid-cong 64 64 (chain_by v distances) (chain_at v) (omega arith) (λ t s l k. chain-by-table are t l s)

-- what the table of chains has at t for s
pub table-chain : (v : View) (t s : ℕ) → t < 64 → s < 64 → byte_at (grid 64 64 (chain_at v)) (t * 64 + s) ≡ chain_length v t v.own.states s
table-chain v t s h l = get_or-grid 64 64 (chain_at v) t s h l
