-- A step has one answer. Assumes nothing.
use Prim.Native.Nat.{ℕ}
use mathlib.Core.Path.{◌≡◌, refl, sym, ap, ◌∙◌}
use Rattle.refusals.specs.Told.{Told, answered, refused}
use Rattle.pll_step.specs.declared.PllSequence.{PllSequence}
use Rattle.pll_step.specs.declared.Request.{Request}
use Rattle.pll_step.specs.declared.Request.TheVariants.{Read, Write, Locked, LockTimeout}
use Rattle.pll_step.specs.declared.Step.{Step}
use Rattle.pll_step.specs.Step.{Asked, reads, writes, locked, told, Steps}

-- the request is found again from what it tells
request_of : Told Asked → Request
request_of (answered (reads i)) = Read i
request_of (answered (writes i v)) = Write i v
request_of (answered locked) = Locked
request_of (refused n ns) = LockTimeout

again : (r : Request) → request_of (told r) ≡ r
unfolding request_of
again (Read i) = refl
again (Write i v) = refl
again Locked = refl
again LockTimeout = refl

pub one_request : (a b : Request) → told a ≡ told b → a ≡ b
one_request a b e = sym (again a) ∙ ap request_of e ∙ again b

pub unique : {s : PllSequence} {x : ℕ} {a b : Step} → Steps s x a → Steps s x b → a ≡ b
unique {a} {b} h g =
    let request = one_request a.request b.request (h.asked ∙ sym g.asked) in
    let place = h.place ∙ sym g.place in
    let plan = h.plan ∙ sym g.plan in
    λ i. record { request = request i; next = record { plan = plan i; place = place i } }
