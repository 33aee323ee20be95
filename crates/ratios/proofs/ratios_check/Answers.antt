-- `ratios::ratios_check` meets its contract. Assumes nothing.
use mathlib.Core.Path.{sym}
use Rattle.std.proofs.lemmas.Result.{err_from_is_err_and}
use Rattle.ratios.specs.Checked.{refusal}
use Rattle.ratios.proofs.Checking.{by_error, by_table, then_zero}
use Rattle.ratios.proofs.ratios_check.Goals as goal

pub returns-in_err-clocks : goal.returns-in_err-clocks
returns-in_err-clocks c =
    let p = err_from_is_err_and c.from_residual.result c.from_residual.ensures.1 in
    rw (p.1, p.2) (by_error _ _ _ c.in_err-clocks.ensures)

pub returns-then-crystal-eq0 : goal.returns-then-crystal-eq0
returns-then-crystal-eq0 c = refusal (sym (then_zero _ _ c.in_ok-clocks.ensures c.if-crystal-eq0.true))

pub returns : goal.returns
returns c =
    by_table _ _ c.in_ok-clocks.ensures c.if-crystal-eq0.false
    (rw (c.clock_at.ensures, c.clock_at-2.ensures, c.clock_at-3.ensures, c.clock_at-4.ensures, c.from.ensures) at c.table.ensures)
