-- `c_pll_seq::run_of` meets its contract. Assumes nothing.
use mathlib.Core.Path.{sym}
use Rattle.std.proofs.lemmas.Result.{err_from_is_err_and}
use Rattle.c_pll_seq.proofs.Handed.{ran, refuses}
use Rattle.c_pll_seq.proofs.run_of.Goals as goal

pub returns-in_err-sequence : goal.returns-in_err-sequence
returns-in_err-sequence c =
    let p = err_from_is_err_and c.from_residual.result c.from_residual.ensures.1 in
    rw (p.1, p.2) (refuses _ c.in_err-sequence.ensures)

pub returns-in_err-ran : goal.returns-in_err-ran
returns-in_err-ran c =
    let p = err_from_is_err_and c.from_residual-in_err-ran.result c.from_residual-in_err-ran.ensures.1 in
    rw (p.1, p.2) (ran (sym c.in_ok-sequence.ensures) c.in_err-ran.ensures)

pub returns : goal.returns
returns c = ran (sym c.in_ok-sequence.ensures) c.in_ok-ran.ensures
