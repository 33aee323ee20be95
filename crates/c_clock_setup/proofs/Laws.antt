-- One PLL output, ratio and divisor, or one reference and two divisors, have one result, and one thing is handed back. Assumes nothing.
use Prim.Native.Nat.{ℕ}
use mathlib.Core.Bool.{Bool}
use Rattle.clock_setup.proofs.Laws.{cpu_same, ddr_same}
use Rattle.handing.proofs.Unique.{Single, single, Settled, settled}
use Rattle.c_clock_setup.specs.Tells.{CpuInitTells, DdrInitTells}

pub one_cpu : (pll : ℕ) (six : Bool) (divisor : ℕ) → Single (CpuInitTells pll six divisor)
one_cpu pll six divisor = single (λ t u. cpu_same)

pub one_ddr : (reference div_3x div_2x : ℕ) → Single (DdrInitTells reference div_3x div_2x)
one_ddr reference div_3x div_2x = single (λ t u. ddr_same)

pub cpu_init : (pll : ℕ) (six : Bool) (divisor : ℕ) → Settled 4 (CpuInitTells pll six divisor)
cpu_init pll six divisor = settled (one_cpu pll six divisor)

pub ddr_init : (reference div_3x div_2x : ℕ) → Settled 2 (DdrInitTells reference div_3x div_2x)
ddr_init reference div_3x div_2x = settled (one_ddr reference div_3x div_2x)
