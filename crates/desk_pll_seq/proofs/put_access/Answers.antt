-- `desk_pll_seq::put_access` meets its contract.
use native.Mathlib.Omega.{arith}
use Rattle.desk_pll_seq.specs.Printed.{access}
use Rattle.desk_pll_seq.proofs.put_access.Goals as goal

pub returns-in-Read : goal.returns-in-Read
unfolding access
returns-in-Read c = rw c.in-Read.is (c.put_form.ensures.fits (omega arith))

pub returns-in-Write : goal.returns-in-Write
unfolding access
returns-in-Write c = rw c.in-Write.is (c.put_form-in-Write.ensures.fits (omega arith))
