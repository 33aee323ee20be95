-- `desk::block::answer_block` meets its contract.
use native.Mathlib.Omega.{arith}
use Rattle.bounds.proofs.Bound.{kept}
use Rattle.desk.proofs.Stepping.{swallow_all, swallow_line}
use Rattle.desk.proofs.block.answer_block.Goals as goal

pub returns-in-Some : goal.returns-in-Some
returns-in-Some c = let u = c.in-Some.ensures in kept (omega arith) (swallow_line (grind arith) u.0 u.1 c.answer_fresh-in-Some.ensures)

pub returns-in-None : goal.returns-in-None
returns-in-None c = kept (omega arith) (swallow_all _ (grind arith) (c.in-None.ensures (omega arith)))
