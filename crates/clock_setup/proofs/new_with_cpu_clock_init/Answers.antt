-- `clock_setup::new_with_cpu_clock_init` meets its contract. Assumes nothing.
use native.Mathlib.Omega.{arith}
use Rattle.std.proofs.lemmas.Result.{err_from_is_err_and}
use Rattle.clocks.specs.declared.arm.CpuClockRatio.TheVariants.{FourToTwoToOne, SixToTwoToOne}
use Rattle.clock_setup.specs.Cpu.{divisor_zero, bad_field}
use Rattle.clock_setup.proofs.Laws.{cpu_made}
use Rattle.clock_setup.proofs.new_with_cpu_clock_init.Goals as goal

pub returns-in_err-not_zero : goal.returns-in_err-not_zero
returns-in_err-not_zero c =
    let p = err_from_is_err_and c.from_residual.result c.from_residual.ensures.1 in
    rw (p.1, p.2, c.in_err-not_zero.ensures.1) (divisor_zero c.in_err-not_zero.ensures.0)

pub returns-in_err-six_bits : goal.returns-in_err-six_bits
returns-in_err-six_bits c =
    let p = err_from_is_err_and c.from_residual-in_err-six_bits.result c.from_residual-in_err-six_bits.ensures.1 in
    rw (p.1, p.2, c.in_err-six_bits.ensures.1) (bad_field c.in_err-six_bits.ensures.0)

pub returns-in-FourToTwoToOne : goal.returns-in-FourToTwoToOne
returns-in-FourToTwoToOne c =
    rw c.in-FourToTwoToOne.is (cpu_made FourToTwoToOne (omega arith) (omega arith) (omega arith) (omega arith) (omega arith))

pub returns-in-SixToTwoToOne : goal.returns-in-SixToTwoToOne
returns-in-SixToTwoToOne c =
    rw c.in-SixToTwoToOne.is (cpu_made SixToTwoToOne (omega arith) (omega arith) (omega arith) (omega arith) (omega arith))
