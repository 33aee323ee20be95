-- `desk_pll_seq::put_end` meets its contract.
use native.Mathlib.Omega.{arith}
use lib.Dec.{lit≤}
use Rattle.forms.proofs.Saying.{wider}
use Rattle.desk_pll_seq.specs.Printed.{ended}
use Rattle.desk_pll_seq.proofs.put_end.Goals as goal

pub returns-in-Locked : goal.returns-in-Locked
unfolding ended
returns-in-Locked c = rw c.in-Locked.is (wider 6 (lit≤ tt) (c.put_form.ensures.fits (omega arith)))

pub returns-in-TimedOut : goal.returns-in-TimedOut
unfolding ended
returns-in-TimedOut c = rw (c.in-TimedOut.is, ← c.number.ensures) (wider 18 (lit≤ tt) (c.put_form-in-TimedOut.ensures.fits (omega arith)))

pub returns-in-Starved : goal.returns-in-Starved
unfolding ended
returns-in-Starved c = rw c.in-Starved.is (wider 7 (lit≤ tt) (c.put_form-in-Starved.ensures.fits (omega arith)))
