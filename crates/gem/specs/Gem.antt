-- The reference clock of an Ethernet controller. Its word has two divisors and the source field of the other peripherals: the EMIO
-- bit, bit 6, is no part of it.
use Rattle.std.specs.Prelude.{◌≡◌, [], ◌∷◌, ℕ, ◌<◌, Result, Ok, Err}
use Rattle.refusals.specs.Told.{Told, answered, refused}
use Rattle.refusals.specs.Number.{DIVISOR_ZERO}
use Rattle.refusals.specs.declared.Refusal.{Refusal}
use Rattle.refusals.specs.declared.Refusal.TheVariants as refusal
use Rattle.fields.specs.Word.{read_field}
use Rattle.registers.specs.Fields.{DIVISOR, DIVISOR_1}
use Rattle.sources.specs.declared.PllOutputs.{PllOutputs}
use Rattle.sources.specs.Clock.{frequency, dual}
use Rattle.clocks.specs.declared.module_id.ClockModuleId.{ClockModuleId}
use Rattle.clocks.specs.Module.{module_number}
use Rattle.gem.specs.declared.DivisorZero.{DivisorZero}

-- document 01's number and values for each case of the answer
abbrev pub told : Result ℕ DivisorZero → Told ℕ
told (Ok hertz) = answered hertz
told (Err zero) = refused DIVISOR_ZERO (module_number zero.0 ∷ [])

-- the same refusal, in the words of all calls
abbrev pub refusal_of : DivisorZero → Refusal
refusal_of zero = refusal.DivisorZero (module_number zero.0)

-- divisor 0, then divisor 1
pub data Right (out : PllOutputs) (word : ℕ) (id : ClockModuleId) : Told ℕ → Type 0 where
  divisor_0 : read_field word DIVISOR ≡ 0 → Right out word id (refused DIVISOR_ZERO (module_number id ∷ []))
  divisor_1 : 0 < read_field word DIVISOR → read_field word DIVISOR_1 ≡ 0 → Right out word id (refused DIVISOR_ZERO (module_number id ∷ []))
  clock : 0 < read_field word DIVISOR → 0 < read_field word DIVISOR_1 → Right out word id (answered (frequency out (dual word)))
