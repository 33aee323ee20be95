-- The registers of each PLL.
use Rattle.std.specs.Prelude.{ℕ}
use Rattle.fields.specs.declared.Field.{Field}
use Rattle.registers.specs.declared.PllType.{PllType}
use Rattle.registers.specs.declared.PllType.TheVariants.{Arm, Ddr, Io}
use Rattle.registers.specs.Fields.{ARM_LOCK, DDR_LOCK, IO_LOCK}
use Rattle.registers.specs.Words.{ARM_PLL_CTRL, DDR_PLL_CTRL, IO_PLL_CTRL, ARM_PLL_CFG, DDR_PLL_CFG, IO_PLL_CFG}

-- its control word
abbrev pub pll_ctrl : PllType → ℕ
pll_ctrl Arm = ARM_PLL_CTRL
pll_ctrl Ddr = DDR_PLL_CTRL
pll_ctrl Io = IO_PLL_CTRL

-- its configuration word
abbrev pub pll_cfg : PllType → ℕ
pll_cfg Arm = ARM_PLL_CFG
pll_cfg Ddr = DDR_PLL_CFG
pll_cfg Io = IO_PLL_CFG

-- its bit of the status word
abbrev pub pll_lock : PllType → Field
pll_lock Arm = ARM_LOCK
pll_lock Ddr = DDR_LOCK
pll_lock Io = IO_LOCK
