-- The I2C divisors, in document 01's words. Every quotient is rounded down.
use Rattle.std.specs.Prelude.{[], ◌≡◌, ℕ, ◌-◌, ◌*◌, ◌/◌, ◌≤◌, ◌<◌, Result, Ok, Err}
use Rattle.refusals.specs.Told.{Told, answered, refused}
use Rattle.refusals.specs.Number.{SPEED}
use Rattle.refusals.specs.Refusal.{told as told_of}
use Rattle.refusals.specs.declared.Refusal.{Refusal}
use Rattle.refusals.specs.declared.Refusal.TheVariants as refusal
use Rattle.nearness.specs.Distance.{distance, InRange}
use Rattle.nearness.specs.Nearest.{Nearest}
use Rattle.i2c.specs.declared.Speed.{Speed}
use Rattle.i2c.specs.declared.Speed.TheVariants.{Normal100kHz, HighSpeed400KHz}
use Rattle.i2c.specs.declared.ClockConfig.{ClockConfig}
use Rattle.i2c.specs.declared.SpeedNotAttainable.{SpeedNotAttainable}

-- calculation frequencies 90,000 and 384,600
abbrev pub calculation : Speed → ℕ
calculation Normal100kHz = 90_000
calculation HighSpeed400KHz = 384_600

-- nominal 100,000 and 400,000
abbrev pub nominal : Speed → ℕ
nominal Normal100kHz = 100_000
nominal HighSpeed400KHz = 400_000

-- input/(22ab)
abbrev pub clock : ℕ → ℕ → ℕ → ℕ
clock input a b = input / (22 * a * b)

-- among a 1..=4, b 1..=64, the nearest input/(22ab); ties by smaller a, then b
pub record Best (input target a b : ℕ) : Type 0 where
  pub nearest : Nearest (clock input) target 4 64 a b
  pub smallest_second : (e : ℕ) → InRange 64 e → distance (clock input a e) target ≡ distance (clock input a b) target → b ≤ e

-- the answer is a-1, b-1
abbrev pub config : ℕ → ℕ → ClockConfig
config a b = record { div_a = a - 1; div_b = b - 1 }

-- what the call must tell
pub data Right (input : ℕ) (speed : Speed) : Told ClockConfig → Type 0 where
  not_attainable : 5632 * calculation speed < input → Right input speed (refused SPEED [])
  found : (a b : ℕ) → input ≤ 5632 * calculation speed → Best input (calculation speed) a b → Right input speed (answered (config a b))

-- the refusal that the error is
abbrev pub refusal_of : SpeedNotAttainable → Refusal
refusal_of e = refusal.Speed

-- document 01's number and values for each case
abbrev pub told : Result ClockConfig SpeedNotAttainable → Told ClockConfig
told (Ok c) = answered c
told (Err e) = told_of (Err (refusal_of e))
