-- `desk_calls::ratios_in_words` hands back the table's words. Assumes nothing.
use borrow.Author.Rules.{rules}
use mathlib.Core.Path.{sym, ap, ◌∙◌}
use native.Mathlib.Omega.{arith}
use Rattle.handing.specs.Handed.{returned}
use Rattle.handing.proofs.Exits.{passed_on}
use Rattle.handing.proofs.Back.{err_not_zero}
use Rattle.desk_calls.proofs.RatiosInWords.{no_table, low_row, a_table}
use Rattle.desk_calls.proofs.ratios_in_words.Goals as goal

pub returns-in_err-ratios : goal.returns-in_err-ratios
returns-in_err-ratios c =
    let same = c.in_err-ratios.was ∙ sym (passed_on c.from_residual.ensures.1) in
    no_table _ _ (c.ratios.ensures.fits (omega arith)) (err_not_zero c.in_err-ratios.was) (ap returned same)

pub put_low-requires : goal.put_low-requires
put_low-requires c = (search rules, low_row _ _ (c.ratios.ensures.fits (omega arith)) (ap returned c.in_ok-ratios.was))

pub returns : goal.returns
returns c = a_table _ _ (c.ratios.ensures.fits (omega arith)) (ap returned c.in_ok-ratios.was) c.put_low.ensures
