-- `lister::list_accepted` meets its contract: two sides are made of what the judge has read, and their lines are put. Assumes nothing.
use Prim.Native.Nat.{ℕ, ◌+◌, ◌≤◌}
use mathlib.Core.Path.{◌≡◌}
use native.Mathlib.Omega.{arith}
use Rattle.certificates.specs.CertificateModel.{AreBytes}
use Rattle.texts.proofs.TextLaws.{wrote-fits}
use Rattle.lister.proofs.AcceptedLaws.{Accepts, accepts}
use Rattle.lister.proofs.list_accepted.Goals as goal
use Rattle.lister.proofs.list_accepted.Goals.{After-of}

accepted : (c : After-of) → let a = c.args in
    Accepts a.left.now a.right.now a.certificate.now c.sides_of-sides.result.ours c.sides_of-sides.result.theirs c.of.result.left c.of.result.right
accepted c =
    let a = c.args in
    let bytes : AreBytes a.certificate.now = λ i. omega (arith, c.type_inv.certificate i) in
    accepts a.left.now a.right.now a.certificate.now c.requires.certificate_value bytes c.sides_of-sides.ensures
    c.of.ensures.left c.of.ensures.right

inside : {text long : ℕ} → text ≤ 557056 → long ≡ 557182 → text ≤ long
inside s l = omega arith

room : {text long : ℕ} → text ≤ 557056 → long ≡ 557182 → 0 + text + 126 ≤ long
room s l = omega arith

pub list_all-requires : goal.list_all-requires
list_all-requires c =
    rw c.of.ensures.certificate (room (accepted (goal.at.list_all-requires c).After-of).short c.requires.output_len)

pub returns : goal.returns
returns c =
    let made = (goal.at.returns c).After-of in
    let wrote = rw c.of.ensures.certificate at c.list_all.ensures in
    record {
      fits = wrote-fits _ (inside (accepted made).short c.requires.output_len) wrote;
      text = rw (← (accepted made).text) wrote;
    }
