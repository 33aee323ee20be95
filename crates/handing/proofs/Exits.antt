-- The ends of a call that looks at its row by `room` and hands on by `?` what another call refuses. Assumes nothing.
use Prim.Native.Nat.{ℕ, ◌≤◌, ◌<◌}
use mathlib.Core.Path.{◌≡◌, ap, ◌∙◌}
use native.Mathlib.Omega.{arith}
use native.Mathlib.Decide.{dec_le}
use Rattle.std.specs.Prelude.{Result, Ok, Err}
use Rattle.std.specs.Result.{IsErrAnd}
use Rattle.std.proofs.lemmas.Result.{err_from_is_err_and}
use Rattle.bounds.specs.Within.{Within}
use Rattle.refusals.specs.declared.Refusal.{Refusal}
use Rattle.refusals.specs.declared.Refusal.TheVariants.{NoRoom}

-- where `room` refuses nothing, there is room
pub room_left : {places lent : ℕ} {r : Result (Unit {0}) Refusal} {fine : Unit {0}} →
    Within places lent (r ≡ Ok tt) (r ≡ Err (NoRoom places)) → r ≡ Ok fine → places ≤ lent
room_left {places} {lent} looked ok =
    elim (dec_le places lent) [
      | yes fits ↦ fits
      | no short ↦ let e = looked.full (omega arith) in absurd (cc)
    ]

-- what the exit of a `?` returns
pub passed_on : {A : Type 0} {r : Result A Refusal} {e : Refusal} → IsErrAnd r (λ x. x ≡ e) → r ≡ Err e
passed_on {r = r} h = let p = err_from_is_err_and r h in p.1 ∙ ap (λ x. Err x) p.2

-- and where it refuses, there is none, and it says how much there has to be
pub no_room_left : {places lent : ℕ} {r : Result (Unit {0}) Refusal} {e : Refusal} →
    Within places lent (r ≡ Ok tt) (r ≡ Err (NoRoom places)) → r ≡ Err e → (lent < places) × (e ≡ NoRoom places)
no_room_left {places} {lent} looked refused =
    elim (dec_le places lent) [
      | yes fits ↦ let e = looked.fits fits in absurd (cc)
      | no short ↦ let h : lent < places = omega arith in let e = looked.full h in (h, cc)
    ]
