-- What the pure parts of the clock set-up tell, as numbers: the clocks, or the refusal.
use Rattle.std.specs.Prelude.{ℕ, Bool, true, false, List, [], ◌∷◌}
use Rattle.refusals.specs.Told.{Told, InWords}
use Rattle.clocks.specs.declared.arm.ArmClocks.{ArmClocks}
use Rattle.clocks.specs.declared.arm.CpuClockRatio.{CpuClockRatio}
use Rattle.clocks.specs.declared.arm.CpuClockRatio.TheVariants.{FourToTwoToOne, SixToTwoToOne}
use Rattle.clocks.specs.declared.ddr.DdrClocks.{DdrClocks}
use Rattle.clock_setup.specs.Cpu.{CpuRight}
use Rattle.clock_setup.specs.Ddr.{DdrRight}

abbrev pub ratio_of : Bool → CpuClockRatio
ratio_of true = SixToTwoToOne
ratio_of false = FourToTwoToOne

-- 1x, 2x, 3x2x, 6x4x
abbrev pub cpu_words : ArmClocks → List ℕ
cpu_words c = c.cpu_1x_clk ∷ c.cpu_2x_clk ∷ c.cpu_3x2x_clk ∷ c.cpu_6x4x_clk ∷ []

abbrev pub CpuInitTells : ℕ → Bool → ℕ → Told (List ℕ) → Type 0
CpuInitTells pll six divisor = InWords cpu_words (CpuRight pll (ratio_of six) divisor)

-- 3x, 2x
abbrev pub ddr_words : DdrClocks → List ℕ
ddr_words c = c.ddr_3x_clk ∷ c.ddr_2x_clk ∷ []

abbrev pub DdrInitTells : ℕ → ℕ → ℕ → Told (List ℕ) → Type 0
DdrInitTells reference div_3x div_2x = InWords ddr_words (DdrRight reference div_3x div_2x)
