-- `handing::put_number` meets its contract. Assumes nothing.
use mathlib.Core.Path.{ap}
use Rattle.handing.proofs.Handing.{one_number}
use Rattle.handing.specs.Handed.{returned}
use Rattle.handing.proofs.put_number.Goals as goal

pub returns : goal.returns
returns c = let w = c.put.ensures in record { fits = λ k. one_number (w.fits k); full = λ k. (ap returned (w.full k).0, (w.full k).1) }
