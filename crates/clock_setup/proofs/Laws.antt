-- The laws of the set-up: one input has one right answer. Assumes nothing.
use mathlib.Core.Path.{◌≡◌, refl, ap}
use mathlib.Core.Logic.{◌⊎◌, ⊎_elim}
use Prim.Native.Nat.{ℕ, ◌*◌, ◌/◌, ◌<◌, ◌≤◌}
use native.Mathlib.Omega.{arith}
use Rattle.std.specs.Prelude.{Result, Ok, Err}
use Rattle.refusals.specs.Refusal.{told as told_refusal}
use Rattle.refusals.specs.Told.{Told, answered}
use Rattle.clocks.specs.declared.arm.ArmClocks.{ArmClocks}
use Rattle.clocks.specs.declared.arm.CpuClockRatio.{CpuClockRatio}
use Rattle.clocks.specs.declared.ddr.DdrClocks.{DdrClocks}
use Rattle.clocks.specs.declared.module_id.ClockModuleId.{ClockModuleId}
use Rattle.clocks.proofs.Laws.{same_module}
use Rattle.clock_setup.specs.declared.SetupError.{SetupError}
use Rattle.clock_setup.specs.declared.SetupError.TheVariants.{DivisorZero, BadField}
use Rattle.clock_setup.specs.Setup.{refusal_of, told}
use Rattle.clock_setup.specs.Cpu as cpu
use Rattle.clock_setup.specs.Cpu.{CpuRight, one, times_3x2x}
use Rattle.clock_setup.specs.Ddr as ddr
use Rattle.clock_setup.specs.Ddr.{DdrRight}

pub cpu_same : {pll divisor : ℕ} {ratio : CpuClockRatio} {a b : Told ArmClocks} → CpuRight pll ratio divisor a → CpuRight pll ratio divisor b → a ≡ b
cpu_same (cpu.divisor_zero z) (cpu.divisor_zero y) = refl
cpu_same (cpu.divisor_zero z) (cpu.bad_field w) = absurd (omega arith)
cpu_same (cpu.divisor_zero z) (cpu.clocks p q) = absurd (omega arith)
cpu_same (cpu.bad_field w) (cpu.divisor_zero z) = absurd (omega arith)
cpu_same (cpu.bad_field w) (cpu.bad_field v) = refl
cpu_same (cpu.bad_field w) (cpu.clocks p q) = absurd (omega arith)
cpu_same (cpu.clocks p q) (cpu.divisor_zero z) = absurd (omega arith)
cpu_same (cpu.clocks p q) (cpu.bad_field w) = absurd (omega arith)
cpu_same (cpu.clocks p q) (cpu.clocks r s) = refl

-- clocks whose numbers are those of the ratio are right
pub cpu_made : {pll divisor x₁ x₂ x₃ : ℕ} (ratio : CpuClockRatio) → 0 < divisor → divisor ≤ 63
    → x₁ ≡ one ratio (pll / divisor) → x₂ ≡ one ratio (pll / divisor) * 2 → x₃ ≡ one ratio (pll / divisor) * times_3x2x ratio
    → CpuRight pll ratio divisor
    (answered (record { ref_clk = pll; ratio = ratio; cpu_1x_clk = x₁; cpu_2x_clk = x₂; cpu_3x2x_clk = x₃; cpu_6x4x_clk = pll / divisor }))
cpu_made ratio some fits p q r = rw (p, q, r) (cpu.clocks some fits)

-- a zero divisor is none that is there, and one too wide is none that fits
no_zero : {a b : ℕ} → (a ≡ 0) ⊎ (b ≡ 0) → 0 < a → 0 < b → ⊥
no_zero z p q = ⊎_elim (λ e. omega arith) (λ e. omega arith) z

no_wide : {a b : ℕ} → (63 < a) ⊎ (63 < b) → a ≤ 63 → b ≤ 63 → ⊥
no_wide w p q = ⊎_elim (λ e. omega arith) (λ e. omega arith) w

pub ddr_same : {reference d₃ d₂ : ℕ} {a b : Told DdrClocks} → DdrRight reference d₃ d₂ a → DdrRight reference d₃ d₂ b → a ≡ b
ddr_same (ddr.divisor_zero z) (ddr.divisor_zero y) = refl
ddr_same (ddr.divisor_zero z) (ddr.bad_field p q w) = absurd (no_zero z p q)
ddr_same (ddr.divisor_zero z) (ddr.clocks p p' q q') = absurd (no_zero z p q)
ddr_same (ddr.bad_field p q w) (ddr.divisor_zero z) = absurd (no_zero z p q)
ddr_same (ddr.bad_field p q w) (ddr.bad_field r s v) = refl
ddr_same (ddr.bad_field p q w) (ddr.clocks r r' s s') = absurd (no_wide w r' s')
ddr_same (ddr.clocks p p' q q') (ddr.divisor_zero z) = absurd (no_zero z p q)
ddr_same (ddr.clocks p p' q q') (ddr.bad_field r s w) = absurd (no_wide w p' q')
ddr_same (ddr.clocks p p' q q') (ddr.clocks r r' s s') = refl

same_told : {Clocks : Type 0} (a b : Result Clocks SetupError) → told a ≡ told b → a ≡ b
same_told (Ok x) (Ok y) p = cc
same_told (Ok x) (Err (DivisorZero id)) p = cc
same_told (Ok x) (Err BadField) p = cc
same_told (Err (DivisorZero id)) (Ok y) p = cc
same_told (Err (DivisorZero id)) (Err (DivisorZero it)) p = ap (λ (m : ClockModuleId). Err (DivisorZero m)) (same_module id it cc)
same_told (Err (DivisorZero id)) (Err BadField) p = cc
same_told (Err BadField) (Ok y) p = cc
same_told (Err BadField) (Err (DivisorZero id)) p = cc
same_told (Err BadField) (Err BadField) p = refl

pub cpu_unique : {pll divisor : ℕ} {ratio : CpuClockRatio} (a b : Result ArmClocks SetupError) → CpuRight pll ratio divisor (told a) → CpuRight pll ratio divisor (told b) → a ≡ b
cpu_unique a b p q = same_told a b (cpu_same p q)

pub ddr_unique : {reference d₃ d₂ : ℕ} (a b : Result DdrClocks SetupError) → DdrRight reference d₃ d₂ (told a) → DdrRight reference d₃ d₂ (told b) → a ≡ b
ddr_unique a b p q = same_told a b (ddr_same p q)

-- what is told of an error is what is told of the refusal that it is
pub as_refusal : {Clocks : Type 0} (e : SetupError) → told {Clocks = Clocks} (Err e) ≡ told_refusal (Err (refusal_of e))
as_refusal (DivisorZero id) = refl
as_refusal BadField = refl
