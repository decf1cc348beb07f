-- What the calls of `standard_input::read_pieces` say: each was lent as many places as bytes are missing.
use Rattle.std.proofs.Common.{◌≡◌, ◌+◌, ◌-◌, ◌≤◌, length, take, refl, rules, arith, ℕ, ap, subst, ◌∙◌, Option, Some, List}
use Rattle.std.specs.Prelude.{pos}
use lib.Seq.{length-take-le}
use lib.Signed.{le_z_yes}
use borrow.Rule.Slice.PartMut.{mid_len, take_put}
use Rattle.pieces.specs.Pieces.{missing_of, ReadCall}
use Rattle.pieces.specs.Pieces.ReadCall.{call}
use Rattle.pieces.specs.Pieces.Reading.{nothing}
use Rattle.pieces.specs.Pieces.ReadOut.{ended}
use Rattle.pieces.proofs.PieceLaws.{reading-more}
use Rattle.standard_input.specs.Answered.{answered}
use Rattle.standard_input.proofs.read_pieces.Goals as goal
use Rattle.standard_input.proofs.read_pieces.Goals.{After-read_once}

-- the call was lent as many places as bytes are missing
asked : (c : After-read_once) → let l = c.loop-places in ReadCall (missing_of (take l.n l.places)) (answered c.read_once.result) c.read_once.new.places
asked c =
    let l = c.loop-places in
    let m = c.missing-missing in
    let e = length-take-le l.n l.places l.invariant.0 in
    let fits : l.n + m.result ≤ length l.places = omega arith in
    let lent = mid_len l.n (l.n + m.result) l.places fits in
    let d : l.n + m.result - l.n ≡ missing_of (take l.n l.places) = let v = m.ensures.value in omega arith in
    rw (← d, ← lent) c.read_once.ensures

-- and put no more than it was lent
within : {n k : ℕ} {t : List ℕ} → ReadCall n (pos k) t → k ≤ n
within (call h l) = h

pub loop-places-init : goal.loop-places-init
loop-places-init c = (omega arith, refl, nothing)

pub returns-in_default-clause-read : goal.returns-in_default-clause-read
returns-in_default-clause-read c =
    let l = c.loop-places in
    let a = subst (λ (o : Option ℕ). ReadCall (missing_of (take l.n l.places)) (answered o) c.read_once.new.places) c.in_default.is
    (asked (goal.at.returns-in_default-clause-read c).After-read_once) in
    rw (take_put l.n _ l.places c.read_once.new.places l.invariant.0) (ended _ _ l.invariant.2 a (le_z_yes tt))

pub returns-then-got-eq0-clause-read : goal.returns-then-got-eq0-clause-read
returns-then-got-eq0-clause-read c =
    let l = c.loop-places in
    let none : c.read_once.result ≡ Some 0 = c.in-Some.is ∙ ap Some c.if-got-eq0.true in
    let a = subst (λ (o : Option ℕ). ReadCall (missing_of (take l.n l.places)) (answered o) c.read_once.new.places) none
    (asked (goal.at.returns-then-got-eq0-clause-read c).After-read_once) in
    rw (take_put l.n _ l.places c.read_once.new.places l.invariant.0) (ended _ _ l.invariant.2 a (le_z_yes tt))

pub loop-places-preserved : goal.loop-places-preserved
loop-places-preserved c =
    let l = c.loop-places in
    let a = subst (λ (o : Option ℕ). ReadCall (missing_of (take l.n l.places)) (answered o) c.read_once.new.places) c.in-Some.is
    (asked (goal.at.loop-places-preserved c).After-read_once) in
    let e = length-take-le l.n l.places l.invariant.0 in
    let v = c.missing-missing.ensures.value in
    let k = within a in
    (search rules, search rules, reading-more l.n _ e l.invariant.2 a)
