-- How each call shows what it hands back: from what its code says of each of its ends. Assumes nothing.
use Prim.Native.Nat.{ℕ, ◌≤◌, ◌<◌}
use mathlib.Core.Path.{◌≡◌, refl, sym, subst, ap}
use mathlib.Core.List.{List, [], ◌∷◌, ◌++◌}
use native.Mathlib.Omega.{arith}
use lib.Dec.{T}
use lib.ListN.{length, drop}
use Rattle.std.specs.Prelude.{Result, Ok, Err}
use Rattle.bounds.proofs.Bound.{kept, past}
use Rattle.refusals.specs.Told.{Told, answered, InWords}
use Rattle.refusals.specs.Carried.{Carried, carries, carries_nothing}
use Rattle.refusals.specs.Refusal.{told, number_of, carried_by, listed}
use Rattle.refusals.specs.declared.Refusal.{Refusal}
use Rattle.refusals.specs.declared.Refusal.TheVariants.{BadImage, DivisorZero, Overflow, ZeroInput, MulRange, ZeroTarget, BadMax, NoPair, NoRoom, Speed, LockTimeout, BadLimit, Already, ZeroClock, BadSettings, Newer, NotYours, BadRows, TraceLong, BadField}
use Rattle.handing.specs.Handed.{Given, Handed, Answers, code, returned}

-- what stands behind a refusal's number is what may stand there
pub right_carried : (e : Refusal) → Carried (number_of e) (listed (carried_by e))
right_carried BadImage = tt
right_carried (DivisorZero _) = tt
right_carried (Overflow _) = tt
right_carried ZeroInput = tt
right_carried (MulRange _) = tt
right_carried ZeroTarget = tt
right_carried BadMax = tt
right_carried NoPair = tt
right_carried (NoRoom _) = tt
right_carried Speed = tt
right_carried LockTimeout = tt
right_carried BadLimit = tt
right_carried Already = tt
right_carried ZeroClock = tt
right_carried (BadSettings _) = tt
right_carried Newer = tt
right_carried NotYours = tt
right_carried BadRows = tt
right_carried TraceLong = tt
right_carried BadField = tt

pub no_row : {room : ℕ} {Tells : Told (List ℕ) → Type 0} {before : List ℕ} {r : Result (Unit {0}) Refusal} → length before < room → r ≡ Err (NoRoom room) →
    Handed room Tells before (returned r) before
no_row h e = past h (ap returned e, refl)

module _ {A : Type 0} {words : A → List ℕ} {Right : Told A → Type 0} {room : ℕ} {before : List ℕ} where
  -- the error `e` of a call that promises `Right` of what it tells, handed on as a refusal
  pub refuses : {t : Told A} {r : Result (Unit {0}) Refusal} {e : Refusal} → room ≤ length before → Right t → t ≡ told (Err e) → r ≡ Err e →
      Handed room (InWords words Right) before (returned r) before
  refuses {e = e} h right same is =
      kept h (subst (λ (n : ℕ). Given (InWords words Right) before n before) (sym (ap returned is))
      (Given.refusal (right_carried e) (InWords.refusal (subst Right same right))))

  pub answers : {t : Told A} {a : A} {r : Result (Unit {0}) Refusal} {after : List ℕ} → room ≤ length before → Right t → t ≡ answered a →
      (r ≡ Ok tt) × (after ≡ words a ++ drop (length (words a)) before) → Handed room (InWords words Right) before (returned r) after
  answers {after = after} h right e (z, w) =
      kept h
      (subst (λ (n : ℕ). Given (InWords words Right) before n after) (sym (ap returned z))
      (subst (Given (InWords words Right) before 0) (sym w) (Given.answer (InWords.answer (subst Right e right)))))

-- one number, put into the row
pub one_number : {value : ℕ} {before after : List ℕ} {r : Result (Unit {0}) Refusal} → (r ≡ Ok tt) × (after ≡ (value ∷ []) ++ drop 1 before) → Given (Answers value) before (returned r) after
one_number (z, w) = rw (z, w) (Given.answer Answers.answers)

-- what is given by one rule is given by any rule that follows from it
pub given_by : {Tells Wider : Told (List ℕ) → Type 0} {before after : List ℕ} {r : ℕ} → ((t : Told (List ℕ)) → Tells t → Wider t) →
    Given Tells before r after → Given Wider before r after
given_by wider (Given.refusal c t) = Given.refusal c (wider _ t)
given_by wider (Given.answer t) = Given.answer (wider _ t)

widened : {A : Type 0} {words : A → List ℕ} {Right Wider : Told A → Type 0} → ((t : Told A) → Right t → Wider t) → (t : Told (List ℕ)) → InWords words Right t → InWords words Wider t
widened wider _ (InWords.answer right) = InWords.answer (wider _ right)
widened wider _ (InWords.refusal right) = InWords.refusal (wider _ right)

-- and so for what is handed back
pub handed_by : {A : Type 0} {words : A → List ℕ} {Right Wider : Told A → Type 0} {room : ℕ} {before after : List ℕ} {r : ℕ} → ((t : Told A) → Right t → Wider t) →
    Handed room (InWords words Right) before r after → Handed room (InWords words Wider) before r after
handed_by wider h = record { fits = λ k. given_by (widened wider) (h.fits k); full = h.full }

-- 0 is no refusal's number
no_number : {n : ℕ} → n ≡ 0 → T (carries_nothing n) → ⊥
no_number e t = subst (λ (k : ℕ). T (carries_nothing k)) e t

no_carrier : {n : ℕ} → n ≡ 0 → T (carries n) → ⊥
no_carrier e t = subst (λ (k : ℕ). T (carries k)) e t

pub not_zero : (n : ℕ) (carried : List ℕ) → Carried n carried → code n carried ≡ 0 → ⊥
not_zero n [] c e = no_number {n = n} (omega arith) c
not_zero n (x ∷ []) c e = no_carrier {n = n} (omega arith) c
not_zero n (x ∷ (_ ∷ _)) c e = elim c [ ]
