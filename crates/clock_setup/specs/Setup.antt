-- What a set-up is told: its clocks, or why its divisors are refused.
use Rattle.std.specs.Prelude.{[], ◌∷◌, Result, Ok, Err}
use Rattle.refusals.specs.Told.{Told, answered, refused}
use Rattle.refusals.specs.Number.{DIVISOR_ZERO, BAD_FIELD}
use Rattle.refusals.specs.declared.Refusal.{Refusal}
use Rattle.refusals.specs.declared.Refusal.TheVariants as refusal
use Rattle.clocks.specs.Module.{module_number}
use Rattle.clock_setup.specs.declared.SetupError.{SetupError}
use Rattle.clock_setup.specs.declared.SetupError.TheVariants.{DivisorZero, BadField}

-- document 01's number and values for each case of the answer
abbrev pub told : {Clocks : Type 0} → Result Clocks SetupError → Told Clocks
told (Ok clocks) = answered clocks
told (Err (DivisorZero id)) = refused DIVISOR_ZERO (module_number id ∷ [])
told (Err BadField) = refused BAD_FIELD []

abbrev pub refusal_of : SetupError → Refusal
refusal_of (DivisorZero id) = refusal.DivisorZero (module_number id)
refusal_of BadField = refusal.BadField
