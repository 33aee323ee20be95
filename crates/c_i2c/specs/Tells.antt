-- What the I2C search tells, as numbers: the register values a - 1 and b - 1, or the refusal.
use Rattle.std.specs.Prelude.{ℕ, Bool, true, false, List, [], ◌∷◌}
use Rattle.refusals.specs.Told.{Told, InWords}
use Rattle.i2c.specs.Divisors.{Right}
use Rattle.i2c.specs.declared.ClockConfig.{ClockConfig}
use Rattle.i2c.specs.declared.Speed.{Speed}
use Rattle.i2c.specs.declared.Speed.TheVariants.{Normal100kHz, HighSpeed400KHz}

abbrev pub config_words : ClockConfig → List ℕ
config_words c = c.div_a ∷ c.div_b ∷ []

abbrev pub speed_of : Bool → Speed
speed_of true = HighSpeed400KHz
speed_of false = Normal100kHz

abbrev pub I2cTells : ℕ → Bool → Told (List ℕ) → Type 0
I2cTells input fast = InWords config_words (Right input (speed_of fast))
