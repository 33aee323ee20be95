-- `two_stage::find_two_stage_divisors` meets its contract: what the search finds is the best pair.
-- Assumes nothing.
use native.Mathlib.Omega.{arith}
use Rattle.two_stage.specs.Answer.{best}
use Rattle.two_stage.proofs.Row.{best_pair}
use Rattle.two_stage.proofs.find_two_stage_divisors.Goals as goal

pub returns : goal.returns
returns c = best _ (omega arith) (omega arith) (best_pair c.nearest_pair-div0.ensures)
