-- Laws of a text that is put piece by piece. Assumes nothing.
use Prim.Native.Nat.{ℕ, ◌+◌, ◌≤◌}
use mathlib.Core.Path.{◌≡◌, sym, ap, ◌∙◌, subst}
use mathlib.Core.List.{List, [], ◌++◌, append_assoc, append-nil}
use native.Mathlib.Omega.{arith}
use lib.ListN.{length, length-append}
use Rattle.texts.specs.Wrote.{Wrote}
use Rattle.texts.proofs.TextLaws.{wrote_none, wrote_then, wrote-length}

-- The whole text is put over `before` from `at` on; up to `end` all but `rest` is put, and the list is `after`.
pub record Putting (whole : List ℕ) (at : ℕ) (before rest : List ℕ) (end : ℕ) (after : List ℕ) : Type 0 where
  pub done : List ℕ
  pub wrote : Wrote done at end before after
  pub parts : done ++ rest ≡ whole

module _ (whole : List ℕ) (at : ℕ) (before : List ℕ) where
  pub putting-start : {rest : List ℕ} {end : ℕ} → end ≡ at → rest ≡ whole → Putting whole at before rest end before
  putting-start {rest} {end} e q = record { done = []; wrote = subst (λ (k : ℕ). Wrote [] at k before before) (sym e) (wrote_none at before); parts = q }

  module _ {rest : List ℕ} {end : ℕ} {after : List ℕ} (w : Putting whole at before rest end after) where
    pub putting-end : rest ≡ [] → Wrote whole at end before after
    putting-end e =
        let q : w.done ≡ whole = sym (append-nil w.done) ∙ ap (λ (l : List ℕ). w.done ++ l) (sym e) ∙ w.parts in
        subst (λ (t : List ℕ). Wrote t at end before after) q w.wrote

    module _ (k : ℕ) (room : at + length whole + k ≤ length before) where
      done-length : length whole ≡ length w.done + length rest
      done-length = sym (ap length w.parts) ∙ length-append w.done rest

      pub putting-length : length after ≡ length before
      putting-length = let n = done-length in wrote-length w.wrote (omega arith)

      -- so much room is kept
      pub putting-space : end + k ≤ length after
      putting-space =
          let n = done-length in
          let q = w.wrote.end_is in
          let l = putting-length in
          omega arith

    -- where the next piece is put
    module _ (piece later : List ℕ) (e : rest ≡ piece ++ later) (k : ℕ) (room : at + length whole + k ≤ length before) where
      lengths : length whole ≡ length w.done + (length piece + length later)
      lengths =
          sym (ap length w.parts) ∙ length-append w.done rest
          ∙ ap (λ (l : ℕ). length w.done + l) (ap length e ∙ length-append piece later)

      pub putting-room : end + length piece + k ≤ length after
      putting-room =
          let n = lengths in
          let q = w.wrote.end_is in
          let l = wrote-length w.wrote (omega arith) in
          omega arith

      pub putting-next : {end' : ℕ} {after' : List ℕ} → Wrote piece end end' after after' → Putting whole at before later end' after'
      putting-next x =
          let n = lengths in
          record {
            done = w.done ++ piece;
            wrote = wrote_then (omega arith) w.wrote x;
            parts = append_assoc w.done piece later ∙ ap (λ (l : List ℕ). w.done ++ l) (sym e) ∙ w.parts;
          }
