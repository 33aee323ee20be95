-- What evaluation tells of a crystal and an image: refusal 1 before all else, then the first broken check, then the clocks.
use Rattle.std.specs.Prelude.{ℕ, Bool, true, false, List, [], ◌∷◌, Result, Ok, Err, eqb, length}
use Rattle.refusals.specs.Told.{Told, answered, refused}
use Rattle.refusals.specs.Number.{BAD_IMAGE, DIVISOR_ZERO, OVERFLOW}
use Rattle.refusals.specs.declared.Refusal.{Refusal}
use Rattle.refusals.specs.declared.Refusal.TheVariants as refusal_case
use Rattle.registers.specs.Words.{WORDS}
use Rattle.clocks.specs.declared.Clocks.{Clocks}
use Rattle.clocks.specs.Module.{module_number}
use Rattle.checks.specs.Check.{Reason, reason, refusal}
use Rattle.evaluation.specs.declared.ClockReadError.{ClockReadError}
use Rattle.evaluation.specs.declared.ClockReadError.TheVariants.{BadImage, DivisorZero, Overflow}
use Rattle.evaluation.specs.Formulas.{clocks_of}

-- document 01's number and values for each case of the answer
abbrev pub told_error : {A : Type 0} → ClockReadError → Told A
told_error BadImage = refused BAD_IMAGE []
told_error (DivisorZero id) = refused DIVISOR_ZERO (module_number id ∷ [])
told_error (Overflow id) = refused OVERFLOW (module_number id ∷ [])

abbrev pub told : Result Clocks ClockReadError → Told Clocks
told (Ok clocks) = answered clocks
told (Err error) = told_error error

-- the same refusal, in the words of all calls
abbrev pub refusal_of : ClockReadError → Refusal
refusal_of BadImage = refusal_case.BadImage
refusal_of (DivisorZero id) = refusal_case.DivisorZero (module_number id)
refusal_of (Overflow id) = refusal_case.Overflow (module_number id)

-- the first broken check's refusal, or what is told where none is broken
abbrev pub judged : {A : Type 0} → Reason → Told A → Told A
judged (Ok _) whole = whole
judged (Err check) whole = refusal check

abbrev pub pick_told : {A : Type 0} → Bool → Told A → Told A → Told A
pick_told true a b = a
pick_told false a b = b

unfoldable pub evaluated : ℕ → List ℕ → Told Clocks
evaluated crystal image =
    pick_told (eqb (length image) WORDS)
    (judged (reason crystal image) (answered (clocks_of crystal image)))
    (refused BAD_IMAGE [])
