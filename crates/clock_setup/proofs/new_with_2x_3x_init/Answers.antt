-- `clock_setup::new_with_2x_3x_init` meets its contract. Assumes nothing.
use mathlib.Core.Logic.{inl, inr}
use native.Mathlib.Omega.{arith}
use Rattle.std.proofs.lemmas.Result.{err_from_is_err_and}
use Rattle.clock_setup.specs.Ddr.{divisor_zero, bad_field, clocks}
use Rattle.clock_setup.proofs.new_with_2x_3x_init.Goals as goal

pub returns-in_err-not_zero : goal.returns-in_err-not_zero
returns-in_err-not_zero c =
    let e = c.in_err-not_zero.ensures in
    let p = err_from_is_err_and c.from_residual.result c.from_residual.ensures.1 in
    rw (p.1, p.2, e.1) (divisor_zero (inl e.0))

pub returns-in_err-not_zero-2 : goal.returns-in_err-not_zero-2
returns-in_err-not_zero-2 c =
    let e = c.in_err-not_zero-2.ensures in
    let p = err_from_is_err_and c.from_residual-in_err-not_zero-2.result c.from_residual-in_err-not_zero-2.ensures.1 in
    rw (p.1, p.2, e.1) (divisor_zero (inr e.0))

pub returns-in_err-six_bits : goal.returns-in_err-six_bits
returns-in_err-six_bits c =
    let e = c.in_err-six_bits.ensures in
    let p = err_from_is_err_and c.from_residual-in_err-six_bits.result c.from_residual-in_err-six_bits.ensures.1 in
    rw (p.1, p.2, e.1) (bad_field (omega arith) (omega arith) (inl e.0))

pub returns-in_err-six_bits-2 : goal.returns-in_err-six_bits-2
returns-in_err-six_bits-2 c =
    let e = c.in_err-six_bits-2.ensures in
    let p = err_from_is_err_and c.from_residual-in_err-six_bits-2.result c.from_residual-in_err-six_bits-2.ensures.1 in
    rw (p.1, p.2, e.1) (bad_field (omega arith) (omega arith) (inr e.0))

pub returns : goal.returns
returns c = clocks (omega arith) (omega arith) (omega arith) (omega arith)
