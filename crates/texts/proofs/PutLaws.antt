-- What the functions put, step by step: a digit after the others, a byte after a number, a number after the others, and nothing where there is no room.
-- Assumes nothing.
use Prim.Native.Nat.{ℕ, ◌+◌, ◌^◌, ◌/◌, ◌%◌, ◌≤◌, ◌<◌}
use mathlib.Core.Path.{◌≡◌}
use mathlib.Core.List.{List, ◌++◌, append_assoc}
use native.Mathlib.Omega.{arith}
use lib.ListN.{length, set}
use Rattle.texts.specs.Texts.{digit, space, newline, decimal, number_text, six_text, most_text, fitting}
use Rattle.texts.specs.Wrote.{most_number, Wrote}
use Rattle.texts.proofs.DecimalLaws.{decimal-is-one, decimal-one, decimal-more, decimal-longer, decimal-most}
use Rattle.texts.proofs.TextLaws.{wrote_none, wrote-byte, wrote_then, wrote-length, fitting-room, fitting-none, number-most}

-- ---- the digits of a number, written one after the other

-- the one digit of a number below 10: there is room for it, and then the number is written
pub one_end : {n at : ℕ} (x : List ℕ) → n < 10 → at + length (decimal n) ≤ length x → at < length x
one_end {n} x h b = omega (arith, decimal-one n h)

pub digits-one : {n at : ℕ} {x : List ℕ} → n < 10 → at + length (decimal n) ≤ length x → Wrote (decimal n) at (at + 1) x (set x at (digit n))
digits-one {n} {at} {x} h b = rw (decimal-is-one n h) (wrote-byte (digit n) at x (one_end x h b))

-- the last digit after the others: there is room for it, and then the number is written
pub digits-end : {n at end : ℕ} {x y : List ℕ} → 10 ≤ n → n < 2 ^ 64 → at + length (decimal n) ≤ length x → Wrote (decimal (n / 10)) at end x y
    → end < length y
digits-end {n} {at} {end} {x} {y} l h b w =
    let k = decimal-longer n l h in
    let m : length y ≡ length x = wrote-length w (omega arith) in
    omega arith

pub digits_more : {n at end : ℕ} {x y : List ℕ} → 10 ≤ n → n < 2 ^ 64 → at + length (decimal n) ≤ length x → Wrote (decimal (n / 10)) at end x y
    → Wrote (decimal n) at (end + 1) x (set y end (digit (n % 10)))
digits_more {n} {at} {end} {x} {y} l h b w =
    let k = decimal-longer n l h in
    rw (decimal-more n l h) (wrote_then (omega arith) w (wrote-byte (digit (n % 10)) end y (digits-end l h b w)))

-- ---- the byte after a number

pub number-end : (n : ℕ) {at end : ℕ} {x y : List ℕ} → at + most_number ≤ length x → Wrote (decimal n) at end x y → end < length y
number-end n b w = let k = decimal-most n in omega (arith, wrote-length w (omega arith), w.end_is)

pub number_more : (n after : ℕ) {at end : ℕ} {x y : List ℕ} → at + most_number ≤ length x → Wrote (decimal n) at end x y
    → Wrote (number_text n after) at (end + 1) x (set y end after)
unfolding number_text
number_more n after {at} {end} {x} {y} b w =
    let k = decimal-most n in
    wrote_then (omega arith) w (wrote-byte after end y (number-end n b w))

pub number_small : (n : ℕ) {at end : ℕ} {x y : List ℕ} → Wrote (decimal n) at end x y → end + 1 ≤ at + most_number
number_small n w = omega (arith, decimal-most n, w.end_is)

-- ---- six numbers, and nothing where there is no room

-- a number after a text
number-then : (n after : ℕ) {text : List ℕ} {a b c : ℕ} {x y z : List ℕ} → b + most_number ≤ length x → Wrote text a b x y
    → Wrote (number_text n after) b c y z → Wrote (text ++ number_text n after) a c x z
number-then n after h v w = let k = number-most n after in wrote_then (omega (arith, v.end_is)) v w

pub six-put : (k l m n o p : ℕ) {a b c d e f g : ℕ} {t u v w x y z : List ℕ} → a + most_text ≤ length t
    → Wrote (number_text k space) a b t u → Wrote (number_text l space) b c u v → Wrote (number_text m space) c d v w
    → Wrote (number_text n space) d e w x → Wrote (number_text o space) e f x y → Wrote (number_text p newline) f g y z
    → Wrote (fitting (six_text k l m n o p) a t) a g t z
unfolding six_text
six-put k l m n o p {a} {b} {c} {d} {e} {f} {t = t} room w1 w2 w3 w4 w5 w6 =
    let at_b : b ≤ a + most_number = omega (arith, w1.end_is, number-most k space) in
    let at_c : c ≤ b + most_number = omega (arith, w2.end_is, number-most l space) in
    let at-d : d ≤ c + most_number = omega (arith, w3.end_is, number-most m space) in
    let at-e : e ≤ d + most_number = omega (arith, w4.end_is, number-most n space) in
    let at_f : f ≤ e + most_number = omega (arith, w5.end_is, number-most o space) in
    let to-c = number-then l space (omega arith) w1 w2 in
    let to-d = number-then m space (omega arith) to-c w3 in
    let to-e = number-then n space (omega arith) to-d w4 in
    let to-f = number-then o space (omega arith) to-e w5 in
    let to-g = number-then p newline (omega arith) to-f w6 in
    rw (fitting-room _ a t room) (simp append_assoc at to-g)

pub none-put : (text : List ℕ) (at : ℕ) (l : List ℕ) → length l < at + most_text → Wrote (fitting text at l) at at l l
none-put text at l h = rw (fitting-none text at l h) (wrote_none at l)
