-- `forms::form::put_form` meets its contract: `Printing` is what stands there after i bytes of the form.
use Rattle.text.specs.Page.{contents}
use Rattle.std.specs.Slice.Iter.{iter_rest}
use Rattle.forms.proofs.Printing.{Printing}
use Rattle.forms.proofs.form.put_form.Given as goal

abbrev pub invariant-loop-byte : goal.invariant-loop-byte
invariant-loop-byte l = Printing l.form l.words (contents l.initial.page) (contents l.page) (iter_rest l.left) l.byte-index
