-- What is told of evaluation's error is what is told of the refusal that it is, by every call that refuses as it does. Assumes nothing.
use Prim.Native.Nat.{ℕ, ◌≤◌}
use mathlib.Core.Path.{◌≡◌, refl}
use mathlib.Core.List.{List}
use lib.ListN.{length}
use Rattle.std.specs.Prelude.{Err}
use Rattle.refusals.specs.Refusal.{told}
use Rattle.refusals.specs.Told.{Told, InWords}
use Rattle.handing.specs.Handed.{Handed, coded}
use Rattle.handing.proofs.Handing.{refuses}
use Rattle.evaluation.specs.declared.ClockReadError.{ClockReadError}
use Rattle.evaluation.specs.declared.ClockReadError.TheVariants.{BadImage, DivisorZero, Overflow}
use Rattle.evaluation.specs.Evaluated.{refusal_of, told_error}

pub as_refusal : {A : Type 0} (e : ClockReadError) → told_error {A = A} e ≡ told (Err (refusal_of e))
as_refusal BadImage = refl
as_refusal (DivisorZero id) = refl
as_refusal (Overflow id) = refl

-- What evaluation refuses is handed back with its number, what it carries, and no word.
module _ {A : Type 0} {words : A → List ℕ} {Right : Told A → Type 0} {room : ℕ} {before : List ℕ} where
  pub error_handed : (e : ClockReadError) → room ≤ length before → Right (told_error e) →
      Handed room (InWords words Right) before (coded {A = ℕ} (told_error e)) before
  error_handed BadImage h right = refuses {r = Err (refusal_of BadImage)} h right refl refl
  error_handed (DivisorZero id) h right = refuses {r = Err (refusal_of (DivisorZero id))} h right refl refl
  error_handed (Overflow id) h right = refuses {r = Err (refusal_of (Overflow id))} h right refl refl
