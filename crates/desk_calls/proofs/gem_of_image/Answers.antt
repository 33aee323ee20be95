-- `desk_calls::gem_of_image` hands back what GEM tells of the image's record. Assumes nothing.
use mathlib.Core.Path.{sym, ap, subst, ◌∙◌}
use mathlib.Core.List.{List}
use native.Mathlib.Omega.{arith}
use Rattle.handing.specs.Handed.{Given, returned}
use Rattle.handing.proofs.Exits.{passed_on}
use Rattle.handing.proofs.Back.{err_not_zero}
use Rattle.desk_calls.specs.Calls.{GemOfImage}
use Rattle.desk_calls.proofs.GemOfImage.{no_record, a_record}
use Rattle.desk_calls.proofs.gem_of_image.Goals as goal

pub returns-in_err-clocks : goal.returns-in_err-clocks
returns-in_err-clocks c =
    let same = c.in_err-clocks.was ∙ sym (passed_on c.from_residual.ensures.1) in
    no_record _ _ _ _ (c.clocks.ensures.fits (omega arith)) (err_not_zero c.in_err-clocks.was) (ap returned same)

pub returns : goal.returns
returns c =
    a_record _ _ _ _ (c.clocks.ensures.fits (omega arith)) (ap returned c.in_ok-clocks.was)
    (rw c.word-control.ensures at ((c.gem.ensures.fits (omega arith)).fits (omega arith)))
