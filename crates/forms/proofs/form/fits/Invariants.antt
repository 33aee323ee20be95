-- `forms::form::fits` meets its contract: what is left is the room less what the bytes so far may print.
use Rattle.forms.proofs.Printing.{Fitting}
use Rattle.forms.proofs.form.fits.Given as goal

abbrev pub invariant-loop-byte : goal.invariant-loop-byte
invariant-loop-byte l = Fitting l.form l.room l.left l.byte-index
