-- Document 01's starred cases, as one table in its order: what each call is given, and what it must tell.
use Rattle.std.specs.Prelude.{ℕ, ◌≡◌, List, [], ◌∷◌, Option, None, Some}
use Rattle.refusals.specs.Told.{Told, answered, refused}
use Rattle.refusals.specs.Number.{MUL_RANGE, SPEED}
use Rattle.two_stage.specs.Best.{frequency}
use Rattle.two_stage.specs.Answer.{Right as RightPair}
use Rattle.two_stage.specs.declared.DivisorPair.{DivisorPair}
use Rattle.i2c.specs.Divisors.{Right as RightDivisors}
use Rattle.i2c.specs.declared.Speed.{Speed}
use Rattle.i2c.specs.declared.Speed.TheVariants.{Normal100kHz}
use Rattle.i2c.specs.declared.ClockConfig.{ClockConfig}
use Rattle.ttc.specs.Interval.{Right as RightInterval}
use Rattle.ttc.specs.declared.Setting.{Setting}
use Rattle.pll_settings.specs.Settings.{Right as RightMultiplier, RightTarget}
use Rattle.pll_settings.specs.declared.PllConfig.{PllConfig}

pub data Case : Type 0 where
  two_stage : (reference target largest : ℕ) → Told DivisorPair → Case
  two_stage_hertz : (reference d0 d1 hertz : ℕ) → Case
  i2c : (input : ℕ) → Speed → Told ClockConfig → Case
  ttc : (reference frequency : ℕ) → Told Setting → Case
  pll_target : (crystal target : ℕ) → Told PllConfig → Case
  pll_mul : (multiplier : ℕ) → Told PllConfig → Case

-- a case holds where what it tells is right by the call's own promise
abbrev pub Holds : Case → Type 0
Holds (two_stage reference target largest tells) = RightPair reference target largest tells
Holds (two_stage_hertz reference d0 d1 hertz) = frequency reference d0 d1 ≡ hertz
Holds (i2c input speed tells) = RightDivisors input speed tells
Holds (ttc reference frequency tells) = RightInterval reference frequency tells
Holds (pll_target crystal target tells) = RightTarget crystal target tells
Holds (pll_mul multiplier tells) = RightMultiplier multiplier tells

abbrev pub pair : ℕ → ℕ → Told DivisorPair
pair d0 d1 = answered (record { div0 = d0; div1 = d1 })

abbrev pub raw : ℕ → ℕ → Told ClockConfig
raw a b = answered (record { div_a = a; div_b = b })

abbrev pub interval : Option ℕ → ℕ → Told Setting
interval p t = answered (record { prescaler_reg = p; interval_ticks = t })

abbrev pub row : ℕ → ℕ → ℕ → ℕ → Told PllConfig
row m p r n = answered (record { fdiv = m; charge_pump = p; loop_resistor = r; lock_count = n })

abbrev pub starred : List Case
starred =
    two_stage 1_000_000_000 12_288_000 63 (pair 3 27)
    ∷ two_stage_hertz 1_000_000_000 3 27 12_345_679
    ∷ two_stage 8 3 4 (pair 1 2)
    ∷ two_stage 5 1 63 (pair 1 5)
    ∷ two_stage 10 100 63 (pair 1 1)
    ∷ two_stage 1_000_000 1 10 (pair 10 10)
    ∷ two_stage 0 7 9 (pair 1 1)
    ∷ i2c 111_111_111 Normal100kHz (raw 0 55)
    ∷ i2c 506_880_000 Normal100kHz (raw 3 63)
    ∷ i2c 506_880_001 Normal100kHz (refused SPEED [])
    ∷ ttc 4_294_967_295 1 (interval (Some 15) 65_535)
    ∷ ttc 65_535 1 (interval None 65_535)
    ∷ ttc 65_536 1 (interval (Some 0) 32_768)
    ∷ pll_target 33_333_333 1_333_333_320 (row 40 2 2 250)
    ∷ pll_target 33_333_333 1_333_333_319 (row 39 2 2 250)
    ∷ pll_mul 12 (refused MUL_RANGE (12 ∷ []))
    ∷ pll_mul 67 (refused MUL_RANGE (67 ∷ []))
    ∷ []
