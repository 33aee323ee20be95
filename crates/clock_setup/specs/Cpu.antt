-- The pure part of the CPU's clock set-up. Its formulas are not evaluation's: 2x and 3x2x are multiples of 1x.
use Rattle.std.specs.Prelude.{◌≡◌, [], ◌∷◌, ℕ, ◌*◌, ◌/◌, ◌<◌, ◌≤◌}
use Rattle.refusals.specs.Told.{Told, answered, refused}
use Rattle.refusals.specs.Number.{DIVISOR_ZERO, BAD_FIELD}
use Rattle.clocks.specs.declared.arm.ArmClocks.{ArmClocks}
use Rattle.clocks.specs.declared.arm.CpuClockRatio.{CpuClockRatio}
use Rattle.clocks.specs.declared.arm.CpuClockRatio.TheVariants.{FourToTwoToOne, SixToTwoToOne}
use Rattle.clocks.specs.declared.module_id.ClockModuleId.TheVariants.{Arm}
use Rattle.clocks.specs.Module.{module_number}

-- 1x is q/4 or q/6, where q is the PLL's output over the divisor
abbrev pub one : CpuClockRatio → ℕ → ℕ
one FourToTwoToOne q = q / 4
one SixToTwoToOne q = q / 6

-- 3x2x is two or three times 1x
abbrev pub times_3x2x : CpuClockRatio → ℕ
times_3x2x FourToTwoToOne = 2
times_3x2x SixToTwoToOne = 3

abbrev pub cpu_clocks : ℕ → CpuClockRatio → ℕ → ArmClocks
cpu_clocks pll ratio q =
    record {
      ref_clk = pll;
      ratio = ratio;
      cpu_1x_clk = one ratio q;
      cpu_2x_clk = one ratio q * 2;
      cpu_3x2x_clk = one ratio q * times_3x2x ratio;
      cpu_6x4x_clk = q;
    }

pub data CpuRight (pll : ℕ) (ratio : CpuClockRatio) (divisor : ℕ) : Told ArmClocks → Type 0 where
  divisor_zero : divisor ≡ 0 → CpuRight pll ratio divisor (refused DIVISOR_ZERO (module_number Arm ∷ []))
  bad_field : 63 < divisor → CpuRight pll ratio divisor (refused BAD_FIELD [])
  clocks : 0 < divisor → divisor ≤ 63 → CpuRight pll ratio divisor (answered (cpu_clocks pll ratio (pll / divisor)))
