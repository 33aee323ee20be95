-- `i2c::calculate_divisors` meets its contract: what the search finds is the best pair.
-- Assumes nothing.
use native.Mathlib.Omega.{arith}
use Rattle.i2c.proofs.Search.{done}
use Rattle.i2c.proofs.calculate_divisors.Goals as goal

pub returns : goal.returns
returns c = done c.frequency_for_calculation-target.ensures (omega arith) c.nearest_pair-a.ensures
